-- What is kept while slots are made, and the causes for which one is not.
use Rattle.std.proofs.Common.{◌≡◌, ◌⊎◌, inl, inr, ℕ, ◌+◌, ◌%◌, ◌^◌, ◌≤◌, List, [], ◌∷◌, ◌++◌, length, Some, None, Result, Ok, Err, refl, sym, ap, ◌∙◌, subst, arith}
use Rattle.std.specs.Prelude.{All}
use Rattle.std.proofs.lemmas.Bool.{eq-eqb, ne_eqb, le-ltb}
use Rattle.std.proofs.lemmas.List.Elements.{All-cons, All-head, All-tail, All-same}
use Rattle.x86_values.specs.declared.Bits.{Bits}
use Rattle.x86_values.specs.Wrapping.{width}
use Rattle.move_goals.specs.declared.items.Placed.{Placed}
use Rattle.move_goals.specs.Items.{IsPlaced}
use Rattle.code_region.specs.State.{RegionState, len_in_units, gaps_of, region_image}
use Rattle.code_region.specs.declared.refusals.PlaceError.{PlaceError}
use Rattle.code_region.specs.Placing.{place_answer, placed_as, after_place}
use Rattle.code_region.specs.Filling.{after_fill}
use Rattle.step_slots.specs.declared.refusals.StepError.{StepError}
use Rattle.step_slots.specs.declared.refusals.StepError.TheVariants as step_error
use Rattle.step_slots.specs.Block.{reserved_room}
use Rattle.step_slots.specs.State.{SlotState}
use Rattle.step_slots.specs.Stepping.{IsStepped, slots_refusal}
use Rattle.step_slots.specs.Keeping.{AreSlotsKept}
use Rattle.step_slots.specs.Holding.{HoldsSlots}
use Rattle.step_slots.specs.Facts.{LiveSlotFacts, ReservedFacts}
use Rattle.moving_run.specs.CommandWords.Ranges.{Range, IsRange}
use Rattle.sweep.specs.declared.run_parts.status.Status.{Status}
use Rattle.sweep.specs.declared.run_parts.status.Status.TheVariants.{Memory, RegionFull, TooFar}
use Rattle.moving_run.specs.SlotsRun.Slotted.{slotted_in, empty_slots, AreSlotted, IsSlotRefusal, MakesSlots, RefusesSlot}
use Rattle.moving_run.specs.SlotsRun.Slotting.{IsSlotsRefusal}
use Rattle.moving_run.specs.SlotsRun.Steps.{step_status, IsGoneThrough}
use Rattle.moving_run.proofs.SlotsRun.Crowded.{crowded, missing, full-is, many-is}

-- ---- the range

-- slots are made in a range
pub range-fits : (range : Range) → IsRange range → slots_refusal range.bits range.base range.size 65536 ≡ None
unfolding slots_refusal
range-fits range is =
    let some = is.some in
    rw (
      ne_eqb range.size 0 (λ e. omega (arith, e, some)),
      eq-eqb (range.size % 16) 0 is.units,
      le-ltb 1048576 range.size is.few,
      le-ltb (2 ^ width range.bits) (range.base + range.size) is.inside,
    ) refl

-- ---- the slots

-- slots with room for 65,536 of them in a range
pub record IsRoom (state : SlotState) : Type 0 where
  pub kept : AreSlotsKept state.bits state.region state.slots 65536
  pub most : state.region.max_blocks ≡ 65536
  pub small : state.region.size ≤ 1048576

pub record IsRoomy (bits : Bits) (state : SlotState) : Type 0 where
  pub bits_are : state.bits ≡ bits
  pub room : IsRoom state

placed_most : (answer : Result ℕ PlaceError) (region : RegionState) (n : ℕ) → (placed_as answer region n).max_blocks ≡ region.max_blocks
placed_most (Ok place) region n = refl
placed_most (Err why) region n = refl

placed_size : (answer : Result ℕ PlaceError) (region : RegionState) (n : ℕ) → (placed_as answer region n).size ≡ region.size
placed_size (Ok place) region n = refl
placed_size (Err why) region n = refl

filled_most : (region : RegionState) (n place : ℕ) (bytes : List ℕ) → (after_fill (after_place region n) place bytes).max_blocks ≡ region.max_blocks
unfolding after_fill after_place
filled_most region n place bytes = placed_most (place_answer region n) region n

filled_size : (region : RegionState) (n place : ℕ) (bytes : List ℕ) → (after_fill (after_place region n) place bytes).size ≡ region.size
unfolding after_fill after_place
filled_size region n place bytes = placed_size (place_answer region n) region n

All-front : {A : Type 0} (P : A → Type 0) (xs ys : List A) → All P (xs ++ ys) → All P xs
All-front P [] ys all = λ k d lt. absurd (omega arith)
All-front P (x ∷ xs) ys all = All-cons P x xs (All-head P x (xs ++ ys) all) (All-front P xs ys (All-tail P x (xs ++ ys) all))

All-at : {A : Type 0} (P : A → Type 0) (xs ys : List A) (y : A) → All P (xs ++ y ∷ ys) → P y
All-at P [] ys y all = All-head P y ys all
All-at P (x ∷ xs) ys y all = All-at P xs ys y (All-tail P x (xs ++ y ∷ ys) all)

module _ (kept : LiveSlotFacts) where
  -- empty slots have room
  pub room-empty : (range : Range) → IsRange range → IsRoom (empty_slots range)
  room-empty range is = record {
    kept = kept.kept-made range.bits range.base range.size 65536 (range-fits range is) (empty_slots range).region refl [] refl 65536 (omega arith);
    most = refl;
    small = is.few;
  }

  room-step : (old new : SlotState) (item : Placed) (place : ℕ) → IsRoom old → IsPlaced old.bits item → IsStepped old item (Ok place) new → IsRoom new
  room-step old new item place room spelled stepped =
      let n = reserved_room old.bits old.region.base item in
      let is : new.region ≡ after_fill (after_place old.region n) place stepped.region.1.0 = stepped.region.1.1.1 in
      let made = kept.stepped-made old.bits old.region old.slots 65536 room.kept item spelled place new.region stepped.region 65536 (omega arith) new.slots
      stepped.slots old.region.base refl in
      record {
        kept = rw stepped.bits made.1;
        most = ap (λ (r : RegionState). r.max_blocks) is ∙ (filled_most old.region n place stepped.region.1.0 ∙ room.most);
        small = let same = ap (λ (r : RegionState). r.size) is ∙ filled_size old.region n place stepped.region.1.0 in
            let small = room.small in omega (arith, same, small);
      }

  -- slots with room keep it
  pub roomy-slotted : (bits : Bits) (old new : SlotState) (items : List Placed) → IsRoomy bits old →
      All (IsPlaced bits) items → AreSlotted old items new → IsRoomy bits new
  roomy-slotted bits old new [] roomy after_place slotted = subst (IsRoomy bits) (sym slotted) roomy
  roomy-slotted bits old new (item ∷ items) roomy after_place slotted =
      let here = All-head (IsPlaced bits) item items after_place in
      let spelled : IsPlaced old.bits item = rw roomy.bits_are here in
      let state = slotted.1.0 in
      let next : IsRoomy bits state = record {
        bits_are = slotted.1.1.0.bits ∙ roomy.bits_are;
        room = room-step old state item slotted.0 roomy.room spelled slotted.1.1.0;
      } in
      roomy-slotted bits state new items next (All-tail (IsPlaced bits) item items after_place) slotted.1.1.1

  module _ (reserved_facts : ReservedFacts) where
    -- why one is not made
    pub refusal-is : (state new : SlotState) (item : Placed) (number : ℕ) (why : StepError) (status : Status) → IsRoom state → IsPlaced state.bits item →
        status ≡ step_status number why → IsStepped state item (Err why) new → IsSlotRefusal state item number status ⊎ (status ≡ Memory)
    refusal-is state new item number step_error.Memory status room spelled is stepped = inr is
    refusal-is state new item number (step_error.Full len largest) status room spelled is stepped =
        let n = reserved_room state.bits state.region.base item in
        let full = full-is state.region n len largest stepped.region.0 in
        inl (subst (IsSlotRefusal state item number) (sym is) (record { missing = full.0; len_is = full.1.0; largest_is = full.1.1 }))
    refusal-is state new item number (step_error.TooFar target) status room spelled is stepped =
        let far = stepped.region.0 in
        inl (subst (IsSlotRefusal state item number) (sym is) (refl, record { place = far.0; placed = far.1.0; far = far.1.1 }))
    refusal-is state new item number (step_error.TooManyBlocks most len) status room spelled is stepped =
        let n = reserved_room state.bits state.region.base item in
        let many = many-is state.region n most stepped.region.0.0 ∙ room.most in
        let units = kept.kept-units state.bits state.region state.slots 65536 room.kept in
        let none = crowded state.region room.kept.live.sound (λ k d lt. (units k d lt).1) room.small many in
        let some = reserved_facts.reserved-some state.bits item spelled state.region.base in
        let above = reserved_facts.rounded-above n (reserved_facts.reserved-short state.bits item spelled state.region.base) in
        inl (subst (IsSlotRefusal state item number) (sym is) (record {
          missing = missing (len_in_units n) (gaps_of state.region) (omega (arith, none, some, above));
          len_is = stepped.region.0.1;
          largest_is = sym none;
        }))

    -- ---- the code

    module _ (range : Range) (is : IsRange range) (base : ℕ) (bytes : List ℕ) where
      roomy-empty : IsRoomy range.bits (empty_slots range)
      roomy-empty = record { bits_are = refl; room = room-empty range is }

      -- each instruction got a slot
      pub all-slotted : (new : SlotState) (image : List ℕ) → IsGoneThrough range base bytes None new → HoldsSlots new image → image ≡ region_image new.region →
          MakesSlots range base bytes image
      all-slotted new image gone holds image_is =
          let roomy = roomy-slotted range.bits (empty_slots range) new (slotted_in range.bits base gone.items) roomy-empty gone.placed gone.come in
          record {
            items = gone.items;
            sweep = gone.sweep;
            all = gone.all;
            state = new;
            slotted = gone.come;
            apart = kept.kept-seen new.bits new.region new.slots 65536 roomy.room.kept new refl;
            holds = holds;
            image_is = image_is;
          }

      told : (status : Status) (state : SlotState) (item : Placed) (number : ℕ) → IsSlotRefusal state item number status → RefusesSlot range base bytes status →
          IsSlotsRefusal range base bytes status
      told (RegionFull len largest) state item number h r = r
      told (TooFar at target) state item number h r = r
      told _ state item number h r = absurd h

      -- one of them got none
      pub one-refused : (new : SlotState) (status : Status) → IsGoneThrough range base bytes (Some status) new →
          IsSlotsRefusal range base bytes status
      one-refused new status gone =
          let r = gone.come in
          let P = IsPlaced range.bits in
          let after_place = All-same P _ _ (sym r.are) gone.placed in
          let roomy = roomy-slotted range.bits (empty_slots range) r.state r.before roomy-empty (All-front P r.before (r.first ∷ r.behind) after_place) r.slotted in
          let here = All-at P r.before r.behind r.first after_place in
          let spelled : IsPlaced r.state.bits r.first = rw roomy.bits_are here in
          elim (refusal-is r.state r.after r.first (length r.before) r.tried.0 status roomy.room spelled r.tried.1.0 r.tried.1.1) [
            | inl h ↦ told status r.state r.first (length r.before) h (record {
              items = gone.items;
              sweep = gone.sweep;
              all = gone.all;
              before = r.before;
              first = r.first;
              behind = r.behind;
              are = r.are;
              state = r.state;
              slotted = r.slotted;
              refused = h;
            })
            | inr m ↦ subst (IsSlotsRefusal range base bytes) (sym m) tt
          ]
