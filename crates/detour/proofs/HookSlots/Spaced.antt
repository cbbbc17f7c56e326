-- Slots of one size: where they stand, and that each is taken where none is free.
use Rattle.std.proofs.Common.{◌≡◌, ℕ, suc, ◌+◌, ◌-◌, ◌*◌, ◌^◌, ◌≤◌, ◌<◌, inl, inr, List, [], ◌∷◌, length, map, filter, not, arith, ap, refl, subst, sym, ◌∙◌, nat_lt, nat_le, nat_eq, Option, Some, None, Result, Ok, Err}
use Rattle.std.proofs.Math.Nat.{suc-mul, mul-le-mul_right}
use Rattle.std.proofs.lemmas.Bool.{cases_Bool, eqb-true, eqb-false, le-leb, leb-false, ltb-true, ltb-false}
use Rattle.code_region.specs.declared.gaps.Span.{Span}
use Rattle.code_region.specs.declared.refusals.PlaceError.{PlaceError}
use Rattle.code_region.specs.declared.refusals.PlaceError.TheVariants.{TooManyBlocks}
use Rattle.code_region.specs.State.{LiveBlock, RegionState, len_in_units, span_of, gaps_of}
use Rattle.code_region.specs.Gaps.{gaps_between, first_gap, longest}
use Rattle.code_region.specs.Placing.{place_in_gap, place_answer, with_block}
use Rattle.code_region.specs.Keeping.{AreLaid, IsSound}
use Rattle.detour.specs.HookSlots.Keeping.{IsSlot, AreSlots, AreSpaced}

-- a slot takes what it has
pub rounded-slot : (slot : ℕ) → IsSlot slot → len_in_units slot ≡ slot
unfolding len_in_units
rounded-slot slot is =
    let units = is.units in
    let small = is.small in
    rw (le-leb slot (2 ^ 64 - 16) (omega (arith, small))) (omega (arith, units))

-- one multiple of the slot that is not before another and not a slot behind it is that one
same-multiple : (slot i j : ℕ) → j * slot ≤ i * slot → i * slot < j * slot + slot → i * slot ≡ j * slot
same-multiple slot i j low high =
    elim (cases_Bool (nat_lt i j)) [
      | inl less ↦
          let le : suc i * slot ≤ j * slot = mul-le-mul_right {m = suc i} {n = j} slot (omega (arith, ltb-true i j less)) in
          let m = suc-mul i slot in
          absurd (omega (arith, low, high, le, m))
      | inr more ↦ elim (cases_Bool (nat_lt j i)) [
        | inl less ↦
            let le : suc j * slot ≤ i * slot = mul-le-mul_right {m = suc j} {n = i} slot (omega (arith, ltb-true j i less)) in
            let m = suc-mul j slot in
            absurd (omega (arith, high, le, m))
        | inr not_less ↦ ap (λ (n : ℕ). n * slot) (omega (arith, ltb-false i j more, ltb-false j i not_less))
      ]
    ]

abbrev start_of : Option Span → ℕ
start_of None = 0
start_of (Some gap) = gap.start

module _ (base slot : ℕ) where
  -- **where no gap has room for a slot, the slots fill the range up**
  pub filled-up : 0 < slot → (from limit j : ℕ) (live : List LiveBlock) (m : ℕ) → from ≡ base + j * slot → AreSlots base slot live → AreLaid from limit live
      → first_gap slot (gaps_between from limit (map span_of live)) ≡ None → m ≡ suc (j + length live) → limit < base + m * slot
  filled-up some from limit j [] m at slots laid none count =
      elim (cases_Bool (nat_le slot (limit - from))) [
        | inl fits ↦ (let f = rw fits at none in absurd cc)
        | inr short ↦
            let less = leb-false slot (limit - from) short in
            let next = suc-mul j slot in
            let same : m * slot ≡ suc j * slot = ap (λ (n : ℕ). n * slot) (omega (arith, count)) in
            omega (arith, at, laid, less, next, same)
      ]
  filled-up some from limit j (block ∷ live) m at slots laid none count =
      elim (cases_Bool (nat_le slot (block.place - from))) [
        | inl fits ↦ (let f = rw fits at none in absurd cc)
        | inr short ↦
            let less = leb-false slot (block.place - from) short in
            let len = slots.0.0 in
            let index = slots.0.1.0 in
            let place = slots.0.1.1 in
            let first = laid.0 in
            let same = same-multiple slot index j (omega (arith, at, place, first)) (omega (arith, at, place, first, less)) in
            let next = suc-mul j slot in
            filled-up some (block.place + block.len) limit (suc j) live m (omega (arith, place, same, len, next)) slots.1 laid.3 (rw short at none) (omega (arith, count))
      ]

  -- **the first gap that has room for one begins where a slot does**
  pub gap-slot : (from limit j : ℕ) (live : List LiveBlock) (gap : Span) → from ≡ base + j * slot → AreSlots base slot live
      → first_gap slot (gaps_between from limit (map span_of live)) ≡ Some gap → (i : ℕ) × (gap.start ≡ base + i * slot)
  gap-slot from limit j [] gap at slots found =
      elim (cases_Bool (nat_le slot (limit - from))) [
        | inl fits ↦ (j, sym (ap start_of (rw fits at found)) ∙ at)
        | inr short ↦ (let f = rw short at found in absurd cc)
      ]
  gap-slot from limit j (block ∷ live) gap at slots found =
      elim (cases_Bool (nat_le slot (block.place - from))) [
        | inl fits ↦ (j, sym (ap start_of (rw fits at found)) ∙ at)
        | inr short ↦
            let len = slots.0.0 in
            let place = slots.0.1.1 in
            let next = suc-mul slots.0.1.0 slot in
            gap-slot (block.place + block.len) limit (suc slots.0.1.0) live gap (omega (arith, place, len, next)) slots.1 (rw short at found)
      ]

  -- one more, and one less
  pub slots-with : (block : LiveBlock) (live : List LiveBlock) → block.len ≡ slot → (i : ℕ) → block.place ≡ base + i * slot → AreSlots base slot live
      → AreSlots base slot (with_block block live)
  slots-with block [] len i at slots = ((len, (i, at)), tt)
  slots-with block (other ∷ live) len i at slots =
      elim (cases_Bool (nat_lt block.place other.place)) [
        | inl before ↦ rw before ((len, (i, at)), slots)
        | inr behind ↦ rw behind (slots.0, slots-with block live len i at slots.1)
      ]

  -- without one of them the blocks still lie in slots
  pub slots-without : (place : ℕ) (live : List LiveBlock) → AreSlots base slot live → AreSlots base slot (filter (λ b. not (nat_eq b.place place)) live)
  slots-without place [] slots = tt
  slots-without place (block ∷ live) slots =
      elim (cases_Bool (nat_eq block.place place)) [
        | inl here ↦ rw here (slots-without place live slots.1)
        | inr other ↦ rw other (slots.0, slots-without place live slots.1)
      ]

-- ---- what a request for a slot answers

abbrev refused : PlaceError → Result ℕ PlaceError
refused why = Err why

abbrev why_of : Result ℕ PlaceError → PlaceError
why_of (Err why) = why
why_of (Ok place) = TooManyBlocks place

abbrev place_in : Result ℕ PlaceError → ℕ
place_in (Ok place) = place
place_in (Err why) = 0

module _ (slot : ℕ) (region : RegionState) (spaced : AreSpaced slot region) (sound : IsSound region) where
  first : region.base ≡ region.base + 0 * slot
  first = omega arith

  -- no gap has room for a slot only where there are as many blocks as slots
  never-short : (length region.live ≡ region.max_blocks → ⊥) → first_gap (len_in_units slot) (gaps_of region) ≡ None → ⊥
  unfolding gaps_of
  never-short room none =
      let some = spaced.is_slot.some in
      let gone : first_gap slot (gaps_between region.base (region.base + region.size) (map span_of region.live)) ≡ None =
      subst (λ (n : ℕ). first_gap n (gaps_between region.base (region.base + region.size) (map span_of region.live)) ≡ None) (rounded-slot slot spaced.is_slot) none in
      let past = filled-up region.base slot some region.base (region.base + region.size) 0 region.live (suc (0 + length region.live)) first spaced.slots sound gone refl in
      let fewer : suc (0 + length region.live) ≤ region.max_blocks = below (length region.live) region.max_blocks room spaced.few in
      let le = mul-le-mul_right slot fewer in
      let within = spaced.room in
      absurd (omega (arith, past, le, within))
    where
      below : (n m : ℕ) → (n ≡ m → ⊥) → n ≤ m → suc (0 + n) ≤ m
      below n m ne le = elim (cases_Bool (nat_lt n m)) [
        | inl lt ↦ omega (arith, ltb-true n m lt)
        | inr ge ↦ absurd (ne (omega (arith, le, ltb-false n m ge)))
      ]

  -- **a slot is refused only where each is taken**
  pub is-full : (why : PlaceError) → place_answer region slot ≡ Err why → (why ≡ TooManyBlocks region.max_blocks) × (length region.live ≡ region.max_blocks)
  unfolding place_answer
  is-full why e =
      elim (cases_Bool (nat_eq slot 0)) [
        | inl none ↦ (
            let z = eqb-true slot 0 none in
            let some = spaced.is_slot.some in
            absurd (omega (arith, z, some)))
        | inr some ↦ elim (cases_Bool (nat_eq (length region.live) region.max_blocks)) [
          | inl full ↦ (let f = rw (some, full) at e in (same why f, eqb-true (length region.live) region.max_blocks full))
          | inr room ↦ (
              let f = rw (some, room) at e in
              absurd (by_gap (first_gap (len_in_units slot) (gaps_of region)) refl (eqb-false (length region.live) region.max_blocks room) why f))
        ]
      ]
    where
      same : (w : PlaceError) → refused (TooManyBlocks region.max_blocks) ≡ refused w → w ≡ TooManyBlocks region.max_blocks
      same w f = sym (ap why_of f)

      by_gap : (o : Option Span) → first_gap (len_in_units slot) (gaps_of region) ≡ o → (length region.live ≡ region.max_blocks → ⊥) → (w : PlaceError)
          → place_in_gap o (len_in_units slot) (longest (gaps_of region)) ≡ Err w → ⊥
      by_gap None is room w f = never-short room is
      by_gap (Some gap) is room w f = cc

  -- **a place that is handed out is that of a slot**
  pub place-slot : (place : ℕ) → place_answer region slot ≡ Ok place → (i : ℕ) × (place ≡ region.base + i * slot)
  unfolding place_answer gaps_of
  place-slot place e =
      elim (cases_Bool (nat_eq slot 0)) [
        | inl none ↦ (let f = rw none at e in absurd cc)
        | inr some ↦ elim (cases_Bool (nat_eq (length region.live) region.max_blocks)) [
          | inl full ↦ (let f = rw (some, full) at e in absurd cc)
          | inr room ↦ (
              let f = rw (some, room) at e in
              by_gap (first_gap (len_in_units slot) gaps) refl f)
        ]
      ]
    where
      gaps : List Span
      gaps = gaps_between region.base (region.base + region.size) (map span_of region.live)

      by_gap : (o : Option Span) → first_gap (len_in_units slot) gaps ≡ o → place_in_gap o (len_in_units slot) (longest gaps) ≡ Ok place → (i : ℕ) × (place ≡ region.base + i * slot)
      by_gap None is f = absurd cc
      by_gap (Some gap) is f =
          let found : first_gap slot gaps ≡ Some gap = subst (λ (n : ℕ). first_gap n gaps ≡ Some gap) (rounded-slot slot spaced.is_slot) is in
          let there = gap-slot region.base slot region.base (region.base + region.size) 0 region.live gap first spaced.slots found in
          (there.0, sym (ap place_in f) ∙ there.1)
