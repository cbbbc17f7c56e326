-- What the patch of a new hook may not meet: the range of the trampolines, and the patches of live hooks. Addresses wrap at the address size of the mode.
use Rattle.std.specs.Prelude.{◌≡◌, ℕ, ◌==◌, Bool, false, not, ◌&&◌, if◌then◌else◌, List, All, AllPairs, length, find, Option, None, Some}
use Rattle.x86_values.specs.declared.Bits.{Bits}
use Rattle.code_region.specs.State.{RegionState}
use Rattle.detour.specs.Ranges.{overlaps}
use Rattle.detour.specs.declared.hook_slots.making.Hook.{Hook}
use Rattle.detour.specs.declared.hook_slots.patches.SlotRange.{SlotRange}
use Rattle.detour.specs.declared.hook_slots.patches.PatchRule.{PatchRule}
use Rattle.detour.specs.declared.hook_slots.refusals.InstallError.{InstallError}
use Rattle.detour.specs.declared.hook_slots.refusals.InstallError.TheVariants.{InRange, Patched}

-- so many bytes at an address have an address in common with the patch of a hook
abbrev pub meets_patch : Bits → ℕ → ℕ → Hook → Bool
meets_patch bits ip len hook = overlaps bits ip len hook.ip (length hook.detour.patch)

-- and with the range of the trampolines
abbrev pub meets_range : SlotRange → ℕ → ℕ → Bool
meets_range range ip len = overlaps range.bits ip len range.base range.size

-- a hook is in the way of a patch: it may not lie under it, and their patches have an address in common
abbrev pub is_in_way : PatchRule → ℕ → ℕ → Hook → Bool
is_in_way rule ip len hook = not (rule.over && hook.ip == ip) && meets_patch rule.range.bits ip len hook

-- the refusal that names the hook that was found
abbrev pub patched_by : Option Hook → Option InstallError
patched_by None = None
patched_by (Some hook) = Some (Patched hook.place)

-- the first cause against a patch of so many bytes at an address: the range, else the first of the live hooks that is in its way
abbrev pub patch_refusal : PatchRule → List Hook → ℕ → ℕ → Option InstallError
patch_refusal rule hooks ip len =
    if meets_range rule.range ip len then Some InRange else patched_by (find (is_in_way rule ip len) hooks)

-- the patch of a hook and the range of the trampolines have no address in common
abbrev pub IsOutside : Bits → RegionState → Hook → Type 0
IsOutside bits region hook = meets_patch bits region.base region.size hook ≡ false

-- nor have the patches of two hooks
abbrev pub AreDisjoint : Bits → Hook → Hook → Type 0
AreDisjoint bits hook other = meets_patch bits hook.ip (length hook.detour.patch) other ≡ false

-- if they are of different functions
abbrev pub AreClear : Bits → Hook → Hook → Type 0
AreClear bits hook other = (hook.ip ≡ other.ip → ⊥) → AreDisjoint bits hook other

-- the patches of the hooks lie apart from the range of the trampolines, and those of different functions from one another
pub record PatchesAreApart (bits : Bits) (region : RegionState) (hooks : List Hook) : Type 0 where
  pub outside : All (IsOutside bits region) hooks
  pub apart : AllPairs (AreClear bits) hooks
