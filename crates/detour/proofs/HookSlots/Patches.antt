-- Patches that lie apart: what the search for one that another meets says, and one hook more or less.
use Rattle.std.proofs.Common.{◌≡◌, ℕ, Bool, true, false, ◌&&◌, ◌||◌, if◌then◌else◌, not, inl, inr, List, [], length, find, refl, subst, sym, ◌∙◌, nat_lt, nat_eq, Option, Some, None, Err}
use Rattle.std.specs.Prelude.{All}
use Rattle.std.proofs.lemmas.Bool.{cases_Bool, eqb-true}
use Rattle.std.proofs.lemmas.List.Elements.{All-nil, All-filter, All-weaker}
use Rattle.std.proofs.lemmas.List.Kept.{AllPairs-filter}
use Rattle.x86_values.specs.declared.Bits.{Bits}
use Rattle.code_region.specs.State.{RegionState}
use Rattle.detour.specs.Ranges.{is_within, overlaps}
use Rattle.detour.specs.declared.start.StartTarget.{StartTarget}
use Rattle.detour.specs.declared.hook_slots.making.Hook.{Hook}
use Rattle.detour.specs.declared.hook_slots.patches.PatchRule.{PatchRule}
use Rattle.detour.specs.declared.hook_slots.refusals.InstallError.{InstallError}
use Rattle.detour.specs.declared.hook_slots.refusals.InstallError.TheVariants.{Memory, Full, NoDetour, TooLong, InRange, Patched}
use Rattle.detour.specs.HookSlots.State.{hook_place, with_hook}
use Rattle.detour.specs.HookSlots.Patches.{meets_patch, meets_range, is_in_way, patched_by, patch_refusal, IsOutside, AreClear, PatchesAreApart}
use Rattle.detour.specs.HookSlots.Installing.{IsPatchRefused, IsHookAnswer}
use Rattle.detour.specs.HookSlots.Removing.{without_hook}
use Rattle.detour.proofs.HookSlots.Lists.{not-found, all-with, pairs-nil, pairs-with}

-- ---- two ranges

both-ways : (a b c d : Bool) → a && (b && (c || d)) ≡ b && (a && (d || c))
both-ways false false c d = refl
both-ways false true c d = refl
both-ways true false c d = refl
both-ways true true false false = refl
both-ways true true false true = refl
both-ways true true true false = refl
both-ways true true true true = refl

-- two ranges have an address in common whichever is the first
pub overlaps-swapped : (bits : Bits) (ip len place other : ℕ) → overlaps bits ip len place other ≡ overlaps bits place other ip len
unfolding overlaps
overlaps-swapped bits ip len place other = both-ways (nat_lt 0 len) (nat_lt 0 other) (is_within bits ip len place) (is_within bits place other ip)

-- ---- the cause against a patch

-- a refusal that a patch is the cause of
abbrev IsByPatch : InstallError → Type 0
IsByPatch InRange = Unit {0}
IsByPatch (Patched place) = Unit {0}
IsByPatch why = ⊥

by-patch : (in_range : Bool) (met : Option Hook) (why : InstallError) → (if in_range then Some InRange else patched_by met) ≡ Some why → IsByPatch why
by-patch true met why e = let f : InRange ≡ why = cc in subst IsByPatch f tt
by-patch false None why e = absurd cc
by-patch false (Some hook) why e = let f : Patched hook.place ≡ why = cc in subst IsByPatch f tt

-- **a patch that is refused is the answer**
pub refused-patch : (rule : PatchRule) (hooks : List Hook) (ip : ℕ) (code : List ℕ) (to : ℕ) (start : StartTarget) (place : ℕ) (why : InstallError)
    → IsPatchRefused rule hooks ip code to start place why → IsHookAnswer rule hooks ip code to start place (Err why)
refused-patch rule hooks ip code to start place Memory h = tt
refused-patch rule hooks ip code to start place (Full max) h =
    absurd (by-patch (meets_range rule.range ip (length h.0.patch)) (find (is_in_way rule ip (length h.0.patch)) hooks) (Full max) h.1.1.1)
refused-patch rule hooks ip code to start place (NoDetour cause) h =
    absurd (by-patch (meets_range rule.range ip (length h.0.patch)) (find (is_in_way rule ip (length h.0.patch)) hooks) (NoDetour cause) h.1.1.1)
refused-patch rule hooks ip code to start place (TooLong len size) h =
    absurd (by-patch (meets_range rule.range ip (length h.0.patch)) (find (is_in_way rule ip (length h.0.patch)) hooks) (TooLong len size) h.1.1.1)
refused-patch rule hooks ip code to start place InRange h = h
refused-patch rule hooks ip code to start place (Patched at) h = h

unmet : (in_range : Bool) (met : Option Hook) → (if in_range then Some InRange else patched_by met) ≡ None → (in_range ≡ false) × (met ≡ None)
unmet true met e = absurd cc
unmet false None e = (refl, refl)
unmet false (Some hook) e = absurd cc

-- ---- patches that lie apart

-- those of no hooks
pub patches-none : (bits : Bits) (region : RegionState) → PatchesAreApart bits region []
patches-none bits region = record { outside = All-nil (IsOutside bits region); apart = pairs-nil (AreClear bits) }

module _ (bits : Bits) (region : RegionState) (hooks : List Hook) (kept : PatchesAreApart bits region hooks) where
  -- one more that is not refused
  pub patches-with : (slot : ℕ) (over : Bool) (hook : Hook)
      → patch_refusal (record { range = record { bits = bits; base = region.base; size = region.size; slot = slot }; over = over }) hooks hook.ip (length hook.detour.patch) ≡ None
      → PatchesAreApart bits region (with_hook hook hooks)
  patches-with slot over hook e =
      let rule : PatchRule = record { range = record { bits = bits; base = region.base; size = region.size; slot = slot }; over = over } in
      let len : ℕ = length hook.detour.patch in
      let none = unmet (overlaps bits hook.ip len region.base region.size) (find (is_in_way rule hook.ip len) hooks) e in
      let clear : All (AreClear bits hook) hooks =
      All-weaker (λ (other : Hook). is_in_way rule hook.ip len other ≡ false) (AreClear bits hook)
      (λ other miss apart. out-of-way over (nat_eq other.ip hook.ip) (meets_patch bits hook.ip len other)
      (apart-ip other.ip hook.ip (λ same. apart (sym same))) miss) hooks (not-found (is_in_way rule hook.ip len) hooks none.1) in
      record {
        outside = all-with hook_place (IsOutside bits region) hook hooks (overlaps-swapped bits region.base region.size hook.ip len ∙ none.0) kept.outside;
        apart = pairs-with (AreClear bits) hook_place hook hooks clear
            (All-weaker (AreClear bits hook) (λ other. AreClear bits other hook)
            (λ other apart different. overlaps-swapped bits other.ip (length other.detour.patch) hook.ip len ∙ apart (λ same. different (sym same))) hooks clear)
            kept.apart;
      }
    where
      apart-ip : (n m : ℕ) → (n ≡ m → ⊥) → nat_eq n m ≡ false
      apart-ip n m different = elim (cases_Bool (nat_eq n m)) [
        | inl same ↦ absurd (different (eqb-true n m same))
        | inr other ↦ other
      ]

      out-of-way : (over same met : Bool) → same ≡ false → not (over && same) && met ≡ false → met ≡ false
      out-of-way true same met different e = rw different at e
      out-of-way false same met different e = e

  -- one less
  pub patches-without : (place : ℕ) → PatchesAreApart bits region (without_hook place hooks)
  patches-without place =
      let others : Hook → Bool = λ hook. not (nat_eq hook.place place) in
      record {
        outside = All-filter others (IsOutside bits region) hooks kept.outside;
        apart = AllPairs-filter (AreClear bits) others hooks kept.apart;
      }
