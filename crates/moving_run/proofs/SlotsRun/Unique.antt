-- Some bytes have one answer.
use Rattle.std.proofs.Common.{◌≡◌, ℕ, suc, ◌+◌, List, [], ◌∷◌, ◌++◌, length, Ok, refl, sym, ap, ◌∙◌, subst, arith}
use Rattle.x86_values.specs.declared.Bits.{Bits}
use Rattle.sweep.specs.SweepText.Facts.{OneSweepFacts}
use Rattle.branch_sizes.specs.Plan.{BlockPlan}
use Rattle.branch_sizes.specs.Layout.{IsLeast}
use Rattle.move_goals.specs.declared.items.Placed.{Placed}
use Rattle.branch_sizes.specs.MoveLayout.Laid.{goal_address}
use Rattle.block_encoder.specs.Bytes.{bytes_of_blocks}
use Rattle.block_encoder.specs.Moved.{IsReached}
use Rattle.code_region.specs.State.{RegionState}
use Rattle.code_region.specs.Placing.{place_answer, after_place}
use Rattle.code_region.specs.Filling.{after_fill}
use Rattle.code_region.specs.Facts.{PlaceFacts}
use Rattle.step_slots.specs.declared.slots.StepSlot.{StepSlot}
use Rattle.step_slots.specs.Block.{IsStepBlock, IsStepOutOfReach, step_items, step_plan, reserved_room}
use Rattle.step_slots.specs.State.{SlotState, with_slot}
use Rattle.step_slots.specs.Stepping.{IsStepped}
use Rattle.moving_run.specs.CommandWords.Ranges.{Range}
use Rattle.sweep.specs.declared.run_parts.status.Status.{Status}
use Rattle.sweep.specs.declared.run_parts.status.Status.TheVariants.{Done, BadCode, TooFar, RegionFull}
use Rattle.moving_run.specs.Facts.{InputFacts}
use Rattle.moving_run.specs.SlotsRun.Slotted.{slotted_in, empty_slots, AreSlotted, HasNoGap, IsSlotRefusal, MakesSlots, RefusesSlot}
use Rattle.moving_run.specs.SlotsRun.Slotting.{IsSlotsAnswer}

-- ---- one block

same_place : (region : RegionState) (n p q : ℕ) → place_answer region n ≡ Ok p → place_answer region n ≡ Ok q → p ≡ q
same_place region n p q h k = let e = sym h ∙ k in cc

module _ (least_unique : (p : BlockPlan) → (a b : List ℕ) → IsLeast p a → IsLeast p b → a ≡ b) where
  -- the block of an instruction at a place has one list of bytes
  block_unique : (bits : Bits) (item : Placed) (place : ℕ) (xs ys : List ℕ) → IsStepBlock bits item place xs → IsStepBlock bits item place ys → xs ≡ ys
  block_unique bits item place xs ys h k =
      let p = step_plan bits item place in
      let layouts = least_unique p h.1.0.layout k.1.0.layout h.1.0.least k.1.0.least in
      h.1.1
      ∙ (h.1.0.lists.bytes
      ∙ (ap (λ (l : List ℕ). bytes_of_blocks bits (step_items bits item) p l (length p.spans)) layouts
      ∙ (sym k.1.0.lists.bytes ∙ sym k.1.1)))

  -- where it is moved, its instruction reaches
  moved_reaches : (bits : Bits) (item : Placed) (place target : ℕ) (bytes : List ℕ) → IsStepBlock bits item place bytes → IsStepOutOfReach bits item place target → ⊥
  moved_reaches bits item place target bytes h far =
      let p = step_plan bits item place in
      let layouts = least_unique p h.1.0.layout far.layout h.1.0.least far.least in
      far.first.unreached (subst (λ (l : List ℕ). IsReached bits (step_items bits item) p l 0) layouts (h.1.0.reached 0 far.first.within))

  far_unique : (bits : Bits) (item : Placed) (place a b : ℕ) → IsStepOutOfReach bits item place a → IsStepOutOfReach bits item place b → a ≡ b
  far_unique bits item place a b h k =
      let p = step_plan bits item place in
      h.target_is ∙ (ap (λ (l : List ℕ). goal_address p l 0) (least_unique p h.layout k.layout h.least k.least) ∙ sym k.target_is)

  -- ---- one step

  module _ (places : PlaceFacts) where
    module _ (state : SlotState) (item : Placed) where
      -- an instruction gets one slot
      step_unique : (p q : ℕ) (a b : SlotState) → IsStepped state item (Ok p) a → IsStepped state item (Ok q) b → a ≡ b
      step_unique p q a b h k =
          let n = reserved_room state.bits state.region.base item in
          let place = same_place state.region n p q h.region.0 k.region.0 in
          let B : ℕ → Type 0 = λ x. IsStepBlock state.bits item x h.region.1.0 in
          let bytes = block_unique state.bits item q h.region.1.0 k.region.1.0 (subst B place h.region.1.1.0) k.region.1.1.0 in
          let region : a.region ≡ b.region =
          h.region.1.1.1
          ∙ (ap (λ (x : ℕ). after_fill (after_place state.region n) x h.region.1.0) place
          ∙ (ap (λ (xs : List ℕ). after_fill (after_place state.region n) q xs) bytes ∙ sym k.region.1.1.1)) in
          let slots : a.slots ≡ b.slots =
          h.slots ∙ (ap (λ (x : ℕ). with_slot (record { place = x; item = item }) state.slots) place ∙ sym k.slots) in
          same_state a b (h.bits ∙ sym k.bits) region slots
        where
          same_state : (a b : SlotState) → a.bits ≡ b.bits → a.region ≡ b.region → a.slots ≡ b.slots → a ≡ b
          same_state a b bits region slots =
              let F : Bits → SlotState = λ x. record { bits = x; region = a.region; slots = a.slots } in
              let G : RegionState → SlotState = λ x. record { bits = b.bits; region = x; slots = a.slots } in
              let H : List StepSlot → SlotState = λ x. record { bits = b.bits; region = b.region; slots = x } in
              ap F bits ∙ (ap G region ∙ ap H slots)

      -- where no gap has the length there is no place
      gap_placed : (len largest p : ℕ) → HasNoGap state item len largest → place_answer state.region (reserved_room state.bits state.region.base item) ≡ Ok p → ⊥
      gap_placed len largest p h e =
          places.gap-none state.region (reserved_room state.bits state.region.base item) p h.missing e

      -- an instruction that gets a slot is not refused
      stepped_refused : (number p : ℕ) (new : SlotState) (status : Status) → IsStepped state item (Ok p) new → IsSlotRefusal state item number status → ⊥
      stepped_refused number p new (RegionFull len largest) h r = gap_placed len largest p r h.region.0
      stepped_refused number p new (TooFar at target) h r =
          let place = same_place state.region (reserved_room state.bits state.region.base item) p r.1.place h.region.0 r.1.placed in
          let B : ℕ → Type 0 = λ x. IsStepBlock state.bits item x h.region.1.0 in
          moved_reaches state.bits item r.1.place target h.region.1.0 (subst B place h.region.1.1.0) r.1.far
      stepped_refused number p new _ h r = absurd r

      -- an instruction is refused for one cause
      refusal_unique : (number : ℕ) (s t : Status) → IsSlotRefusal state item number s → IsSlotRefusal state item number t → s ≡ t
      refusal_unique number (RegionFull a b) (RegionFull c d) h k =
          let len : a ≡ c = h.len_is ∙ sym k.len_is in
          let largest : b ≡ d = h.largest_is ∙ sym k.largest_is in
          ap (λ (n : ℕ). RegionFull n b) len ∙ ap (RegionFull c) largest
      refusal_unique number (RegionFull a b) (TooFar at target) h k = absurd (gap_placed a b k.1.place h k.1.placed)
      refusal_unique number (TooFar at target) (RegionFull a b) h k = absurd (gap_placed a b h.1.place k h.1.placed)
      refusal_unique number (TooFar at target) (TooFar other goal) h k =
          let place = same_place state.region (reserved_room state.bits state.region.base item) h.1.place k.1.place h.1.placed k.1.placed in
          let F : ℕ → Type 0 = λ x. IsStepOutOfReach state.bits item x target in
          let targets = far_unique state.bits item k.1.place target goal (subst F place h.1.far) k.1.far in
          let numbers : at ≡ other = h.0 ∙ sym k.0 in
          ap (λ (n : ℕ). TooFar n target) numbers ∙ ap (TooFar other) targets
      refusal_unique number (RegionFull a b) _ h k = absurd k
      refusal_unique number (TooFar at target) _ h k = absurd k
      refusal_unique number _ t h k = absurd h

    -- ---- some instructions

    -- where all get slots none is refused
    slotted_refused : (old new state : SlotState) (before behind : List Placed) (first : Placed) (number : ℕ) (status : Status) →
        AreSlotted old (before ++ first ∷ behind) new → AreSlotted old before state → IsSlotRefusal state first number status → ⊥
    slotted_refused old new state [] behind first number status all some refused =
        let R : SlotState → Type 0 = λ s. IsSlotRefusal s first number status in
        stepped_refused old first number all.0 all.1.0 status all.1.1.0 (subst R some refused)
    slotted_refused old new state (item ∷ before) behind first number status all some refused =
        let same = step_unique old item all.0 some.0 all.1.0 some.1.0 all.1.1.0 some.1.1.0 in
        let A : SlotState → Type 0 = λ s. AreSlotted s (before ++ first ∷ behind) new in
        slotted_refused some.1.0 new state before behind first number status (subst A same all.1.1.1) some.1.1.1 refused

    -- the first that is refused, and its cause
    first_unique : (old a b : SlotState) (xs xs' ys ys' : List Placed) (x y : Placed) (from : ℕ) (s t : Status) → xs ++ x ∷ xs' ≡ ys ++ y ∷ ys' →
        AreSlotted old xs a → AreSlotted old ys b → IsSlotRefusal a x (from + length xs) s → IsSlotRefusal b y (from + length ys) t → s ≡ t
    first_unique old a b [] xs' [] ys' x y from s t same h k r q =
        let item : x ≡ y = cc in
        let R : SlotState → Placed → Type 0 = λ st p. IsSlotRefusal st p (from + 0) s in
        let Q : SlotState → Type 0 = λ st. IsSlotRefusal st y (from + 0) t in
        refusal_unique old y (from + 0) s t (subst (λ (st : SlotState). R st y) h (subst (λ (p : Placed). R a p) item r)) (subst Q k q)
    first_unique old a b [] xs' (v ∷ ys) ys' x y from s t same h k r q =
        let item : x ≡ v = cc in
        let R : SlotState → Placed → Type 0 = λ st p. IsSlotRefusal st p (from + 0) s in
        absurd (stepped_refused old v (from + 0) k.0 k.1.0 s k.1.1.0 (subst (λ (st : SlotState). R st v) h (subst (λ (p : Placed). R a p) item r)))
    first_unique old a b (u ∷ xs) xs' [] ys' x y from s t same h k r q =
        let item : y ≡ u = cc in
        let Q : SlotState → Placed → Type 0 = λ st p. IsSlotRefusal st p (from + 0) t in
        absurd (stepped_refused old u (from + 0) h.0 h.1.0 t h.1.1.0 (subst (λ (st : SlotState). Q st u) k (subst (λ (p : Placed). Q b p) item q)))
    first_unique old a b (u ∷ xs) xs' (v ∷ ys) ys' x y from s t same h k r q =
        let item : u ≡ v = cc in
        let rest : xs ++ x ∷ xs' ≡ ys ++ y ∷ ys' = cc in
        let I : Placed → Type 0 = λ p. IsStepped old p (Ok h.0) h.1.0 in
        let states = step_unique old v h.0 k.0 h.1.0 k.1.0 (subst I item h.1.1.0) k.1.1.0 in
        let A : SlotState → Type 0 = λ st. AreSlotted st xs a in
        let R : ℕ → Type 0 = λ n. IsSlotRefusal a x n s in
        let Q : ℕ → Type 0 = λ n. IsSlotRefusal b y n t in
        let left : from + length (u ∷ xs) ≡ suc from + length xs = omega arith in
        let right : from + length (v ∷ ys) ≡ suc from + length ys = omega arith in
        first_unique k.1.0 a b xs xs' ys ys' x y (suc from) s t rest (subst A states h.1.1.1) k.1.1.1 (subst R left r) (subst Q right q)

    module _ (one : OneSweepFacts) (inputs : InputFacts) where
      module _ (range : Range) (base : ℕ) (bytes : List ℕ) where
        made_refused : (image : List ℕ) (status : Status) → MakesSlots range base bytes image → RefusesSlot range base bytes status → ⊥
        made_refused image status h k =
            let items = one.sweep_unique range.bits base bytes h.items k.items h.sweep k.sweep in
            let after_place = ap (slotted_in range.bits base) items ∙ k.are in
            let A : List Placed → Type 0 = λ xs. AreSlotted (empty_slots range) xs h.state in
            slotted_refused (empty_slots range) h.state k.state k.before k.behind k.first (length k.before) status (subst A after_place h.slotted) k.slotted k.refused

        refused_unique : (s t : Status) → RefusesSlot range base bytes s → RefusesSlot range base bytes t → s ≡ t
        refused_unique s t h k =
            let items = one.sweep_unique range.bits base bytes h.items k.items h.sweep k.sweep in
            let lists = sym h.are ∙ (ap (slotted_in range.bits base) items ∙ k.are) in
            let R : ℕ → Type 0 = λ n. IsSlotRefusal h.state h.first n s in
            let Q : ℕ → Type 0 = λ n. IsSlotRefusal k.state k.first n t in
            let left : length h.before ≡ 0 + length h.before = omega arith in
            let right : length k.before ≡ 0 + length k.before = omega arith in
            first_unique (empty_slots range) h.state k.state h.before h.behind k.before k.behind h.first k.first 0 s t lists h.slotted k.slotted
            (subst R left h.refused)
            (subst Q right k.refused)

        -- **some bytes have one answer**
        pub answer_unique : (s t : Status) → IsSlotsAnswer range base bytes s → IsSlotsAnswer range base bytes t → s ≡ t
        answer_unique Done Done h k = refl
        answer_unique Done (BadCode at e) h k = absurd (inputs.whole_stops range.bits base bytes at e h.1.items h.1.sweep h.1.all k)
        answer_unique Done (RegionFull a b) h k = absurd (made_refused h.0 (RegionFull a b) h.1 k)
        answer_unique Done (TooFar a b) h k = absurd (made_refused h.0 (TooFar a b) h.1 k)
        answer_unique (BadCode at e) Done h k = absurd (inputs.whole_stops range.bits base bytes at e k.1.items k.1.sweep k.1.all h)
        answer_unique (BadCode at e) (BadCode at' f) h k =
            let same = inputs.stops_unique range.bits base bytes at at' e f h k in
            ap (λ (n : ℕ). BadCode n e) same.0 ∙ ap (BadCode at') same.1
        answer_unique (BadCode at e) (RegionFull a b) h k = absurd (inputs.whole_stops range.bits base bytes at e k.items k.sweep k.all h)
        answer_unique (BadCode at e) (TooFar a b) h k = absurd (inputs.whole_stops range.bits base bytes at e k.items k.sweep k.all h)
        answer_unique (RegionFull a b) Done h k = absurd (made_refused k.0 (RegionFull a b) k.1 h)
        answer_unique (RegionFull a b) (BadCode at e) h k = absurd (inputs.whole_stops range.bits base bytes at e h.items h.sweep h.all k)
        answer_unique (RegionFull a b) (RegionFull c d) h k = refused_unique (RegionFull a b) (RegionFull c d) h k
        answer_unique (RegionFull a b) (TooFar c d) h k = refused_unique (RegionFull a b) (TooFar c d) h k
        answer_unique (TooFar a b) Done h k = absurd (made_refused k.0 (TooFar a b) k.1 h)
        answer_unique (TooFar a b) (BadCode at e) h k = absurd (inputs.whole_stops range.bits base bytes at e h.items h.sweep h.all k)
        answer_unique (TooFar a b) (RegionFull c d) h k = refused_unique (TooFar a b) (RegionFull c d) h k
        answer_unique (TooFar a b) (TooFar c d) h k = refused_unique (TooFar a b) (TooFar c d) h k
        answer_unique Done _ h k = absurd k
        answer_unique (BadCode at e) _ h k = absurd k
        answer_unique (RegionFull a b) _ h k = absurd k
        answer_unique (TooFar a b) _ h k = absurd k
        answer_unique _ t h k = absurd h
