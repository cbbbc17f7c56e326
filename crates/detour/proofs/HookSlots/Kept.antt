-- Hooks as they are made and removed, and what holds of them then.
use Rattle.std.proofs.Common.{◌≡◌, ℕ, ◌-◌, ◌%◌, ◌/◌, ◌≤◌, ◌<◌, inl, inr, Bool, true, false, List, [], ◌∷◌, ◌++◌, length, replicate, arith, ap, refl, subst, sym, ◌∙◌, nat_lt, nat_eq, Option, None, Some, Result, Ok, Err}
use Rattle.std.specs.Prelude.{IsTrue, All, AllPairs}
use Rattle.std.proofs.Math.Nat.{div-mul-le_self}
use Rattle.std.proofs.lemmas.Bool.{cases_Bool, eqb-true, eqb-false, ltb-true, ltb-false}
use Rattle.x86_values.specs.declared.Bits.{Bits}
use Rattle.code_region.specs.State.{LiveBlock, RegionState, int3, len_in_units, region_image}
use Rattle.code_region.specs.declared.refusals.NotTaken.{NotTaken}
use Rattle.code_region.specs.declared.refusals.PlaceError.{PlaceError}
use Rattle.code_region.specs.Opening.{empty_region}
use Rattle.code_region.specs.Placing.{place_answer, with_block, unfilled_block, after_place}
use Rattle.code_region.specs.Releasing.{release_answer, after_release}
use Rattle.code_region.specs.Filling.{with_content, can_fill}
use Rattle.code_region.specs.Keeping.{IsSound}
use Rattle.code_region.specs.LiveEntries.Order.{AreAscending, StandsAt}
use Rattle.code_region.specs.LiveEntries.Keeping.{AreLive}
use Rattle.code_region.specs.LiveEntries.Facts.{LiveFacts}
use Rattle.detour.specs.declared.start.StartTarget.{StartTarget}
use Rattle.detour.specs.declared.hook_slots.making.Hook.{Hook}
use Rattle.detour.specs.declared.hook_slots.patches.SlotRange.{SlotRange}
use Rattle.detour.specs.declared.hook_slots.patches.PatchRule.{PatchRule}
use Rattle.detour.specs.declared.hook_slots.refusals.InstallError.{InstallError}
use Rattle.detour.specs.declared.hook_slots.refusals.InstallError.TheVariants.{Memory, Full, NoDetour, TooLong, InRange, Patched}
use Rattle.detour.specs.HookSlots.State.{HooksState, range_of, hook_place, no_hooks, with_hook, hook_at}
use Rattle.detour.specs.HookSlots.Opening.{make_refusal}
use Rattle.detour.specs.HookSlots.Patches.{patch_refusal, AreDisjoint}
use Rattle.detour.specs.HookSlots.Installing.{IsHookPlaced, place_refusal, install_place, hooks_after, IsInstalledBy}
use Rattle.detour.specs.declared.hook_slots.refusals.RemoveError.{RemoveError}
use Rattle.detour.specs.declared.hook_slots.refusals.RemoveError.TheVariants.{NotTaken as NotTakenThere, Covered}
use Rattle.detour.specs.HookSlots.Removing.{remove_of, remove_answer, without_hook, removed_as, after_removal}
use Rattle.detour.specs.HookSlots.Layers.{hooks_of, cover_of, covered_by}
use Rattle.detour.specs.declared.hook_slots.commands.HookCommand.{HookCommand}
use Rattle.detour.specs.declared.hook_slots.commands.HookCommand.TheVariants.{Install, InstallOver, Remove}
use Rattle.detour.specs.declared.hook_slots.commands.HookReply.{HookReply}
use Rattle.detour.specs.HookSlots.Running.{IsHookRun}
use Rattle.detour.specs.HookSlots.Holding.{HooksAreApart, AreDetours, HoldsHooks}
use Rattle.detour.specs.HookSlots.Keeping.{IsSlot, AreSpaced, IsHookBlock, AreHooksKept, AreHooksHeld, AreKeptIn}
use Rattle.detour.specs.HookSlots.LawsBelow.{HookLawsBelow}
use Rattle.detour.proofs.HookSlots.Spaced.{rounded-slot, slots-with, slots-without, is-full, place-slot}
use Rattle.detour.proofs.HookSlots.Patches.{patches-none, patches-with, patches-without}
use Rattle.detour.proofs.HookSlots.Layers.{layers-none, layers-with, layers-without}

-- a number that is not another, and not above it
below : (n m : ℕ) → (n ≡ m → ⊥) → n ≤ m → n < m
below n m ne le = elim (cases_Bool (nat_lt n m)) [
  | inl lt ↦ ltb-true n m lt
  | inr ge ↦ absurd (ne (omega (arith, le, ltb-false n m ge)))
]

-- ---- a slot that is asked for

module _ (laws : HookLawsBelow) (slot : ℕ) (region : RegionState) (sound : IsSound region) (spaced : AreSpaced slot region) where
  -- a trampoline that has no more bytes than a slot is filled in
  pub slot-can_fill : (place : ℕ) → place_answer region slot ≡ Ok place → (n : ℕ) → n ≤ slot → IsTrue (can_fill (after_place region slot) place n)
  slot-can_fill place e n le =
      let same = rounded-slot slot spaced.is_slot in
      laws.fills.placed-can_fill region slot place sound e n (omega (arith, le, same))

  -- a place that is given back leaves the region as it was
  pub given-back : (place : ℕ) → place_answer region slot ≡ Ok place → (now : RegionState) → now ≡ after_place region slot → (new : RegionState) → new ≡ after_release now place → new ≡ region
  given-back place e now is new same =
      same ∙ (ap (λ (r : RegionState). after_release r place) is ∙ (laws.regions.restores region slot place sound e).blocks)

-- no place is handed out where each slot has a hook
pub full-placed : (rule : PatchRule) (hooks : List Hook) (region : RegionState) (sound : IsSound region) (spaced : AreSpaced rule.range.slot region)
    (ip : ℕ) (code : List ℕ) (to : ℕ) (start : StartTarget) (why : PlaceError) → place_answer region rule.range.slot ≡ Err why
    → (new : RegionState) → new ≡ region → (said : InstallError) → said ≡ place_refusal why
    → IsHookPlaced rule hooks region ip code to start (Err said) new
full-placed rule hooks region sound spaced ip code to start why e new same said is =
    let full = is-full rule.range.slot region spaced sound why e in
    subst (λ (w : InstallError). IsHookPlaced rule hooks region ip code to start (Err w) new) (sym (is ∙ ap place_refusal full.0)) ((full.1, refl), same)

-- ---- what is kept

module _ (laws : HookLawsBelow) (bits : Bits) (slot : ℕ) (region : RegionState) (hooks : List Hook) (room : ℕ)
    (kept : AreHooksKept bits slot region hooks room) where
  live : LiveFacts hook_place (λ hook. slot) (IsHookBlock bits slot) region hooks room
  live = laws.entries.live (bits, slot) region hooks room kept.live

  -- the hooks stand by address
  pub kept-ascend : AreAscending hook_place 0 hooks
  kept-ascend = live.ascend

  -- an install
  module _ (over : Bool) (ip : ℕ) (code : List ℕ) (to : ℕ) (start : StartTarget) (hook : Hook) (new : RegionState)
      (made : IsHookPlaced (record { range = record { bits = bits; base = region.base; size = region.size; slot = slot }; over = over })
      hooks region ip code to start (Ok hook) new) where
    -- there is room for it
    pub install-room : length hooks < room
    install-room = live.has-room slot hook.place made.0.0

    bytes : List ℕ
    bytes = hook.detour.trampoline

    block : LiveBlock
    block = with_content bytes (unfilled_block hook.place (len_in_units slot))

    now : RegionState
    now = record region { live = with_block block region.live }

    same_slot : len_in_units slot ≡ slot
    same_slot = rounded-slot slot kept.spaced.is_slot

    fits : length bytes ≤ len_in_units slot
    unfolding bytes
    fits = let le = made.0.1.0.1 in let same = same_slot in omega (arith, le, same)

    is_now : new ≡ now
    unfolding bytes block now
    is_now = made.1 ∙ laws.fills.filled-is region slot hook.place kept.live.sound made.0.0 bytes

    live_now : (more : ℕ) → room ≤ more → AreLive (IsHookBlock bits slot) now (with_hook hook hooks) more
    unfolding bytes block now
    live_now more roomy =
        let this : IsHookBlock bits slot hook block =
        record {
          place = refl;
          len = same_slot;
          is_detour = (code, made.0.1.0.0.is);
          short = made.0.1.0.1;
          content = ap (λ (n : ℕ). hook.detour.trampoline ++ replicate (n - length hook.detour.trampoline) int3) same_slot;
        } in
        subst (λ (r : RegionState). AreLive (IsHookBlock bits slot) r (with_hook hook hooks) more)
        (laws.fills.filled-is region slot hook.place kept.live.sound made.0.0 bytes)
        (live.one-more slot hook.place made.0.0 bytes fits hook refl this more roomy)

    spaced_now : AreSpaced slot now
    unfolding bytes block now
    spaced_now =
        let at = place-slot slot region kept.spaced kept.live.sound hook.place made.0.0 in
        record {
          is_slot = kept.spaced.is_slot;
          slots = slots-with region.base slot block region.live same_slot at.0 at.1 kept.spaced.slots;
          few = (live_now room (omega arith)).few;
          room = kept.spaced.room;
        }

    -- **a hook more is kept**
    pub install-kept : (more : ℕ) → room ≤ more → (after : List Hook) → after ≡ with_hook hook hooks → AreHooksKept bits slot new after more
    unfolding now
    install-kept more roomy after same =
        let rule : PatchRule = record { range = record { bits = bits; base = region.base; size = region.size; slot = slot }; over = over } in
        let clear = patches-with bits region hooks kept.patches slot over hook
        (subst (λ (n : ℕ). patch_refusal rule hooks n (length hook.detour.patch) ≡ None) (sym made.0.1.0.0.ip_is) made.0.1.1) in
        let on_now : AreHooksKept bits slot now (with_hook hook hooks) more = record {
          spaced = spaced_now;
          live = live_now more roomy;
          patches = record { outside = clear.outside; apart = clear.apart };
          layers = layers-with hooks kept.layers hook (made.0.1.0.0.layer_is ∙ ap (λ (n : ℕ). hooks_of n hooks) (sym made.0.1.0.0.ip_is));
        } in
        subst (λ (r : RegionState). AreHooksKept bits slot r after more) (sym is_now)
        (subst (λ (xs : List Hook). AreHooksKept bits slot now xs more) (sym same) on_now)

    -- an install keeps the range
    pub install-base : new.base ≡ region.base
    unfolding now
    install-base = ap (λ (r : RegionState). r.base) is_now

    -- and its size
    pub install-size : new.size ≡ region.size
    unfolding now
    install-size = ap (λ (r : RegionState). r.size) is_now

    -- an install keeps the maximum number of blocks
    pub install-max : new.max_blocks ≡ region.max_blocks
    unfolding now
    install-max = ap (λ (r : RegionState). r.max_blocks) is_now

  -- a removal of a hook over which no other lies
  pub remove-kept : (place : ℕ) (hook : Hook) → hook_at place hooks ≡ Some hook → covered_by place hooks ≡ None
      → AreHooksKept bits slot (after_release region place) (without_hook place hooks) room
  unfolding after_release
  remove-kept place hook stands bare =
      let left = live.one-less place in
      let clear = patches-without bits region hooks kept.patches place in
      record {
        spaced = record {
          is_slot = kept.spaced.is_slot;
          slots = slots-without region.base slot place region.live kept.spaced.slots;
          few = left.few;
          room = kept.spaced.room;
        };
        live = left;
        patches = record { outside = clear.outside; apart = clear.apart };
        layers = layers-without hooks kept.layers place 0 hook kept-ascend stands (subst (λ (o : Option Hook). cover_of o hooks ≡ None) stands bare);
      }

  -- a hook stands at each place that can be released
  pub remove-stands : (place : ℕ) → release_answer region place ≡ Ok tt → StandsAt hook_place place hooks
  remove-stands place e = live.stands place e

  -- after a removal the other hooks are kept
  pub remove-made : (place : ℕ) (hook : Hook) → hook_at place hooks ≡ Some hook → covered_by place hooks ≡ None
      → (new : RegionState) → new ≡ after_release region place → (left : List Hook) → left ≡ without_hook place hooks
      → (more : ℕ) → more ≡ room → AreHooksKept bits slot new left more
  remove-made place hook stands bare new is left same more full =
      subst (λ (r : RegionState). AreHooksKept bits slot r left more) (sym is)
      (subst (λ (xs : List Hook). AreHooksKept bits slot (after_release region place) xs more) (sym same)
      (subst (λ (n : ℕ). AreHooksKept bits slot (after_release region place) (without_hook place hooks) n) (sym full) (remove-kept place hook stands bare)))

  -- a removal, and what is seen before it
  module _ (place : ℕ) (now : HooksState) (seen : record { bits = bits; slot = slot; region = region; hooks = hooks } ≡ now) where
    -- a refused removal changes nothing
    left-same : (why : RemoveError) → Err why ≡ remove_answer now place → (new : RegionState) → new ≡ region
        → record { bits = bits; slot = slot; region = new; hooks = hooks } ≡ after_removal now place
    left-same why refused new same =
        let with_region : RegionState → HooksState = λ (r : RegionState). record { bits = bits; slot = slot; region = r; hooks = hooks } in
        ap with_region same ∙ (seen ∙ ap (λ (r : Result Hook RemoveError). removed_as r now place) refused)

    -- where no block is released, no hook stands
    pub absent-answer : (why : NotTaken) → release_answer region place ≡ Err why → Err (NotTakenThere place) ≡ remove_answer now place
    absent-answer why e =
        let P : HooksState → Type 0 = λ s. Err (NotTakenThere place) ≡ remove_answer s place in
        let Q : Option Hook → Type 0 = λ o. Err (NotTakenThere place) ≡ remove_of o (covered_by place hooks) place in
        subst P seen (subst Q (sym (live.absent place why e)) refl)

    -- and nothing changes
    pub absent-state : (why : NotTaken) → release_answer region place ≡ Err why → (new : RegionState) → new ≡ region
        → record { bits = bits; slot = slot; region = new; hooks = hooks } ≡ after_removal now place
    absent-state why e new same = left-same (NotTakenThere place) (absent-answer why e) new same

    -- where a later hook lies over it, the hook stays
    pub covered-answer : (by : ℕ) → covered_by place hooks ≡ Some by → Err (Covered place by) ≡ remove_answer now place
    covered-answer by e = subst (λ (s : HooksState). Err (Covered place by) ≡ remove_answer s place) seen (by_hook (hook_at place hooks) e)
      where
        by_hook : (o : Option Hook) → cover_of o hooks ≡ Some by → Err (Covered place by) ≡ remove_of o (cover_of o hooks) place
        by_hook None f = absurd cc
        by_hook (Some hook) f = ap (λ (b : Option ℕ). remove_of (Some hook) b place) (sym f)

    -- and nothing changes
    pub covered-state : (by : ℕ) → covered_by place hooks ≡ Some by → record { bits = bits; slot = slot; region = region; hooks = hooks } ≡ after_removal now place
    covered-state by e = left-same (Covered place by) (covered-answer by e) region refl

    -- else the hook that stands there is the answer
    pub removed-answer : (hook : Hook) → hook_at place hooks ≡ Some hook → covered_by place hooks ≡ None → Ok hook ≡ remove_answer now place
    removed-answer hook stands bare =
        let P : HooksState → Type 0 = λ s. Ok hook ≡ remove_answer s place in
        let Q : Option Hook → Type 0 = λ o. Ok hook ≡ remove_of o (covered_by place hooks) place in
        subst P seen (subst Q (sym stands) (ap (λ (b : Option ℕ). remove_of (Some hook) b place) (sym bare)))

    -- and the others are left
    pub removed-state : (hook : Hook) → hook_at place hooks ≡ Some hook → covered_by place hooks ≡ None
        → (new : RegionState) → new ≡ after_release region place → (left : List Hook) → left ≡ without_hook place hooks
        → record { bits = bits; slot = slot; region = new; hooks = left } ≡ after_removal now place
    removed-state hook stands bare new is left same =
        let with_region : RegionState → HooksState = λ (r : RegionState). record { bits = bits; slot = slot; region = r; hooks = left } in
        let with_hooks : List Hook → HooksState = λ (xs : List Hook). record { bits = bits; slot = slot; region = after_release region place; hooks = xs } in
        ap with_region is ∙ (ap with_hooks same
        ∙ (ap (λ (s : HooksState). removed_as (Ok hook) s place) seen
        ∙ ap (λ (r : Result Hook RemoveError). removed_as r now place) (removed-answer hook stands bare)))

-- ---- what is seen

module _ (laws : HookLawsBelow) (state : HooksState) (room : ℕ)
    (kept : AreHooksKept state.bits state.slot state.region state.hooks room) where
  seen : LiveFacts hook_place (λ hook. state.slot) (IsHookBlock state.bits state.slot) state.region state.hooks room
  seen = laws.entries.live (state.bits, state.slot) state.region state.hooks room kept.live

  -- the slots of the hooks stand apart
  pub kept-apart : HooksAreApart state
  kept-apart = record { slots = seen.apart; short = λ k d lt. (seen.blocks k d lt).1.short }

  -- where no hook lies over another, no two patches have an address in common
  pub kept-flat : All (λ (hook : Hook). hook.layer ≡ 0) state.hooks → AllPairs (AreDisjoint state.bits) state.hooks
  kept-flat flat = λ i j d lt within.
      let first = flat i d (omega (arith, lt, within)) in
      let second = flat j d within in
      kept.patches.apart i j d lt within (λ same. elim (kept.layers.ordered i j d lt within same) [
        | inl under ↦ absurd (omega (arith, first, second, under))
        | inr over ↦ absurd (omega (arith, first, second, over))
      ])

  -- each hook is the detour of some code
  pub kept-detours : AreDetours state
  kept-detours = λ k d lt. (seen.blocks k d lt).1.is_detour

  -- the image has their trampolines
  pub kept-holds : HoldsHooks state (region_image state.region)
  kept-holds = record {
    trampolines = λ k d lt. let held = seen.contents k d lt in held.1.1 ∙ held.1.0.content;
    elsewhere = seen.quiet;
  }

-- ---- no hooks

-- what is refused none of
pub slot-good : (bits : Bits) (base size slot : ℕ) → make_refusal bits base size slot ≡ None → IsSlot slot
unfolding make_refusal
slot-good bits base size slot none =
    elim (cases_Bool (nat_eq size 0)) [
      | inl bad ↦ (let f = rw bad at none in absurd cc)
      | inr some ↦ elim (cases_Bool (nat_eq (size % 16) 0)) [
        | inr bad ↦ (let f = rw (some, bad) at none in absurd cc)
        | inl units ↦ elim (cases_Bool (nat_lt 1048576 size)) [
          | inl bad ↦ (let f = rw (some, units, bad) at none in absurd cc)
          | inr small ↦ elim (cases_Bool (nat_eq slot 0)) [
            | inl bad ↦ (let f = rw (some, units, small, bad) at none in absurd cc)
            | inr has ↦ elim (cases_Bool (nat_eq (slot % 16) 0)) [
              | inr bad ↦ (let f = rw (some, units, small, has, bad) at none in absurd cc)
              | inl in_units ↦ elim (cases_Bool (nat_lt size slot)) [
                | inl bad ↦ (let f = rw (some, units, small, has, in_units, bad) at none in absurd cc)
                | inr within ↦ record {
                  some = positive (eqb-false slot 0 has);
                  units = eqb-true (slot % 16) 0 in_units;
                  small = omega (arith, ltb-false 1048576 size small, ltb-false size slot within);
                }
              ]
            ]
          ]
        ]
      ]
    ]
  where
    positive : (slot ≡ 0 → ⊥) → 0 < slot
    positive ne = below 0 slot (λ e. ne (sym e)) (omega arith)

-- new hooks keep their invariant over the region
pub kept-made : (laws : HookLawsBelow) (bits : Bits) (base size slot : ℕ) → make_refusal bits base size slot ≡ None → (region : RegionState)
    → region ≡ empty_region base size (size / slot) → (hooks : List Hook) → hooks ≡ [] → (room : ℕ) → size / slot ≤ room → AreHooksKept bits slot region hooks room
kept-made laws bits base size slot none region is hooks no_hooks room roomy =
    let fit = div-mul-le_self size slot in
    subst (λ (r : RegionState). AreHooksKept bits slot r hooks room) (sym is)
    (subst (λ (xs : List Hook). AreHooksKept bits slot (empty_region base size (size / slot)) xs room) (sym no_hooks) (record {
      spaced = record {
        is_slot = slot-good bits base size slot none;
        slots = tt;
        few = omega arith;
        room = fit;
      };
      live = laws.entries.none (bits, slot) base size (size / slot) room roomy;
      patches = patches-none bits (empty_region base size (size / slot));
      layers = layers-none;
    }))

-- ---- in a range that is known

-- a range that is that of the region
held-range : (range : SlotRange) (region : RegionState) → region.base ≡ range.base → region.size ≡ range.size
    → range ≡ record { bits = range.bits; base = region.base; size = region.size; slot = range.slot }
held-range range region base size =
    ap (λ (b : ℕ). record { bits = range.bits; base = b; size = range.size; slot = range.slot }) (sym base)
    ∙ ap (λ (n : ℕ). record { bits = range.bits; base = region.base; size = n; slot = range.slot }) (sym size)

-- new hooks know their range
pub made-held : (laws : HookLawsBelow) (range : SlotRange) → make_refusal range.bits range.base range.size range.slot ≡ None → (region : RegionState)
    → region ≡ empty_region range.base range.size (range.size / range.slot) → (hooks : List Hook) → hooks ≡ [] → (room : ℕ) → range.size / range.slot ≤ room
    → AreHooksHeld range region hooks room
made-held laws range none region is hooks no_hooks room roomy = record {
  base = ap (λ (r : RegionState). r.base) is;
  size = ap (λ (r : RegionState). r.size) is;
  kept = kept-made laws range.bits range.base range.size range.slot none region is hooks no_hooks room roomy;
}

module _ (laws : HookLawsBelow) (range : SlotRange) (region : RegionState) (hooks : List Hook) (room : ℕ) (held : AreHooksHeld range region hooks room) where
  module _ (over : Bool) (ip : ℕ) (code : List ℕ) (to : ℕ) (start : StartTarget) (hook : Hook) (new : RegionState)
      (made : IsHookPlaced (record { range = range; over = over }) hooks region ip code to start (Ok hook) new) where
    in_region : IsHookPlaced (record { range = record { bits = range.bits; base = region.base; size = region.size; slot = range.slot }; over = over })
        hooks region ip code to start (Ok hook) new
    in_region =
        subst (λ (r : SlotRange). IsHookPlaced (record { range = r; over = over }) hooks region ip code to start (Ok hook) new)
        (held-range range region held.base held.size) made

    -- there is room for a hook that is made
    pub held-room : length hooks < room
    held-room = install-room laws range.bits range.slot region hooks room held.kept over ip code to start hook new in_region

    -- and the hooks are held with it
    pub held-with : (more : ℕ) → room ≤ more → (after : List Hook) → after ≡ with_hook hook hooks → AreHooksHeld range new after more
    held-with more roomy after same = record {
      base = install-base laws range.bits range.slot region hooks room held.kept over ip code to start hook new in_region ∙ held.base;
      size = install-size laws range.bits range.slot region hooks room held.kept over ip code to start hook new in_region ∙ held.size;
      kept = install-kept laws range.bits range.slot region hooks room held.kept over ip code to start hook new in_region more roomy after same;
    }

  -- what an install leaves
  pub held-installed : (over : Bool) (ip : ℕ) (code : List ℕ) (to : ℕ) (start : StartTarget) (made : Result Hook InstallError) (new : RegionState)
      → IsHookPlaced (record { range = range; over = over }) hooks region ip code to start made new → (old : HooksState)
      → record { bits = range.bits; slot = range.slot; region = region; hooks = hooks } ≡ old → (said : Result ℕ InstallError) → said ≡ install_place made
      → (after : List Hook) → after ≡ hooks_after made hooks
      → IsInstalledBy over old ip code to start said (record { bits = range.bits; slot = range.slot; region = new; hooks = after })
  held-installed over ip code to start made new placed old seen said answer after same =
      let state : HooksState = record { bits = range.bits; slot = range.slot; region = new; hooks = after } in
      subst (λ (s : HooksState). IsInstalledBy over s ip code to start said state) seen (record {
        bits = refl;
        slot = refl;
        made = made;
        answer = answer;
        region =
            subst (λ (r : SlotRange). IsHookPlaced (record { range = r; over = over }) hooks region ip code to start made new)
            (held-range range region held.base held.size) placed;
        hooks = same;
      })

  -- a removal
  pub held-without : (place : ℕ) (hook : Hook) → hook_at place hooks ≡ Some hook → covered_by place hooks ≡ None
      → (new : RegionState) → new ≡ after_release region place → (left : List Hook) → left ≡ without_hook place hooks
      → (more : ℕ) → more ≡ room → AreHooksHeld range new left more
  unfolding after_release
  held-without place hook stands bare new is left same more full = record {
    base = ap (λ (r : RegionState). r.base) is ∙ held.base;
    size = ap (λ (r : RegionState). r.size) is ∙ held.size;
    kept = remove-made laws range.bits range.slot region hooks room held.kept place hook stands bare new is left same more full;
  }

-- ---- in runs

-- new hooks keep it in their own terms
pub made-kept : (laws : HookLawsBelow) (bits : Bits) (base size slot : ℕ) → make_refusal bits base size slot ≡ None → AreKeptIn (no_hooks bits base size slot)
made-kept laws bits base size slot none =
    kept-made laws bits base size slot none (empty_region base size (size / slot)) refl [] refl (size / slot) (omega arith)

module _ (laws : HookLawsBelow) (old : HooksState) (kept : AreKeptIn old) where
  -- a removal keeps the hooks
  pub removed-kept : (place : ℕ) → AreKeptIn (after_removal old place)
  unfolding after_release
  removed-kept place = by_answer (hook_at place old.hooks) refl (covered_by place old.hooks) refl
    where
      by_answer : (o : Option Hook) → hook_at place old.hooks ≡ o → (by : Option ℕ) → covered_by place old.hooks ≡ by
          → AreKeptIn (removed_as (remove_of o by place) old place)
      by_answer None stands by cover = kept
      by_answer (Some hook) stands None bare = remove-kept laws old.bits old.slot old.region old.hooks old.region.max_blocks kept place hook stands bare
      by_answer (Some hook) stands (Some by) cover = kept

  unchanged : (region : RegionState) → region ≡ old.region → (hooks : List Hook) → hooks ≡ old.hooks → AreHooksKept old.bits old.slot region hooks region.max_blocks
  unchanged region is hooks same =
      subst (λ (r : RegionState). AreHooksKept old.bits old.slot r hooks r.max_blocks) (sym is)
      (subst (λ (xs : List Hook). AreHooksKept old.bits old.slot old.region xs old.region.max_blocks) (sym same) kept)

  module _ (over : Bool) (ip : ℕ) (code : List ℕ) (to : ℕ) (start : StartTarget) where
    -- the region and the hooks after an install
    after-kept : (made : Result Hook InstallError) (region : RegionState) → IsHookPlaced (record { range = range_of old; over = over }) old.hooks old.region ip code to start made region
        → (hooks : List Hook) → hooks ≡ hooks_after made old.hooks → AreHooksKept old.bits old.slot region hooks region.max_blocks
    after-kept (Ok hook) region placed_there hooks same =
        let max = install-max laws old.bits old.slot old.region old.hooks old.region.max_blocks kept over ip code to start hook region placed_there in
        install-kept laws old.bits old.slot old.region old.hooks old.region.max_blocks kept over ip code to start hook region placed_there region.max_blocks
        (omega (arith, max)) hooks same
    after-kept (Err (Full max)) region left hooks same = unchanged region left.1 hooks same
    after-kept (Err (NoDetour why)) region left hooks same = unchanged region left.1 hooks same
    after-kept (Err (TooLong len size)) region left hooks same = unchanged region left.1 hooks same
    after-kept (Err InRange) region left hooks same = unchanged region left.1 hooks same
    after-kept (Err (Patched at)) region left hooks same = unchanged region left.1 hooks same
    after-kept (Err Memory) region left hooks same = unchanged region left hooks same

    -- an install keeps the hooks
    pub installed-kept : (answer : Result ℕ InstallError) (new : HooksState) → IsInstalledBy over old ip code to start answer new → AreKeptIn new
    installed-kept answer new done =
        let here = after-kept done.made new.region done.region new.hooks done.hooks in
        subst (λ (b : Bits). AreHooksKept b new.slot new.region new.hooks new.region.max_blocks) (sym done.bits)
        (subst (λ (n : ℕ). AreHooksKept old.bits n new.region new.hooks new.region.max_blocks) (sym done.slot) here)

-- **any list of commands keeps hooks**
pub run-kept : (laws : HookLawsBelow) (commands : List HookCommand) (replies : List HookReply) (old new : HooksState) → AreKeptIn old → IsHookRun old commands replies new → AreKeptIn new
run-kept laws [] [] old new kept run = subst AreKeptIn (sym run) kept
run-kept laws [] (reply ∷ replies) old new kept run = absurd run
run-kept laws (command ∷ commands) [] old new kept run = absurd run
run-kept laws (Install ip code to start ∷ commands) (reply ∷ replies) old new kept run =
    run-kept laws commands replies run.0 new (installed-kept laws old kept false ip code.now to start run.1.0.0 run.0 run.1.0.1.1) run.1.1
run-kept laws (InstallOver ip code to start ∷ commands) (reply ∷ replies) old new kept run =
    run-kept laws commands replies run.0 new (installed-kept laws old kept true ip code.now to start run.1.0.0 run.0 run.1.0.1.1) run.1.1
run-kept laws (Remove place ∷ commands) (reply ∷ replies) old new kept run =
    run-kept laws commands replies run.0 new (subst AreKeptIn (sym run.1.0.1) (removed-kept laws old kept place)) run.1.1
