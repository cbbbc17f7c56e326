-- The block of a CALL that pushes its own return address: what it answers, and how long it is at most.
use Rattle.std.proofs.Common.{◌≡◌, ℕ, zero, suc, ◌+◌, ◌-◌, ◌*◌, ◌/◌, ◌<◌, ◌≤◌, Bool, true, false, List, [], ◌∷◌, length, get_or, map, Option, Some, None, Result, Ok, Err, refl, ap, sym, ◌∙◌, subst, arith}
use Rattle.std.specs.Prelude.{IfOk}
use Rattle.std.proofs.lemmas.List.{append-nil}
use Rattle.x86_values.specs.declared.Bits.{Bits}
use Rattle.x86_values.specs.declared.Bits.TheVariants.{B16, B32, B64}
use Rattle.x86_values.specs.declared.Instr.{Instr}
use Rattle.branch_sizes.specs.declared.plan.Choice.{Choice}
use Rattle.branch_sizes.specs.declared.plan.Form.TheVariants.{Itself}
use Rattle.branch_sizes.specs.declared.plan.Reach.TheVariants.{Always}
use Rattle.branch_sizes.specs.Plan.{BlockPlan, IsWellFormed, no_choice}
use Rattle.branch_sizes.specs.Layout.{IsLayout, total, item_choice, image_length}
use Rattle.branch_sizes.specs.MoveLayout.Laid.{has_far_form, is_far_at, goal_address, with_goal, far_goals, slots_of, images_end, new_end}
use Rattle.move_goals.specs.MovedTargets.Targets.{plain_length}
use Rattle.move_goals.specs.BranchForms.Branches.{branch_of}
use Rattle.move_goals.specs.BranchForms.Images.{form_length}
use Rattle.move_goals.specs.BranchForms.Choices.{choices_by, choices_of}
use Rattle.move_goals.specs.declared.items.Placed.{Placed}
use Rattle.move_goals.specs.Items.{ArePlaced, item_at, one_span}
use Rattle.move_goals.specs.Plan.{plan_with, kept_goals, plan_outside}
use Rattle.block_encoder.specs.declared.error.PlanError.{PlanError}
use Rattle.block_encoder.specs.declared.error.PlanError.TheVariants.{Memory, Wraps, TooFar}
use Rattle.block_encoder.specs.Bytes.{block_bytes, bytes_of_blocks}
use Rattle.block_encoder.specs.Moved.{MovedLists}
use Rattle.block_encoder.specs.ByPlan.{IsMovedBy, IsOutsideAnswer}
use Rattle.block_encoder.specs.Planned.{as_moving}
use Rattle.block_encoder.specs.PushedCalls.Pushes.{push_of, high_half_of}
use Rattle.block_encoder.specs.PushedCalls.Items.{item_of, with_jump, with_jump_if, return_address, jump_item, pushed_items}
use Rattle.block_encoder.specs.PushedCalls.Jumps.{jump_of}
use Rattle.step_slots.specs.Calling.{IsCallBlock, IsCallPass, IsCallTooFar, IsCallStood, BeginsWithPush, call_answer}
use Rattle.step_slots.specs.CallsBelow.{CallLawsBelow}

-- ---- the answer

-- what the moving of the instructions answers is what the CALL answers
pub call-stood : (bits : Bits) (item : Placed) (place : ℕ) (items : List Placed) → pushed_items bits item ≡ Some items → (r : Result MovedLists PlanError)
    → IsOutsideAnswer bits items place (as_moving r) → IsCallStood bits item place (call_answer r)
call-stood bits item place items are (Ok m) h = record { items = items; are = are; is_moved = h.1 }
call-stood bits item place items are (Err Memory) h = tt
call-stood bits item place items are (Err (Wraps end)) h = record { items = items; are = are; passes = h.1 }
call-stood bits item place items are (Err (TooFar at target)) h = record { items = items; are = are; at = at; far = h.1 }

-- ---- how long the block is

-- the choice of what is no branch
abbrev only_choice : Bits → Instr → Choice
only_choice bits i = record { form = Itself; len = form_length bits i Itself; reach = Always }

only-is : (bits : Bits) (i : Instr) → branch_of i ≡ None → choices_of bits i ≡ only_choice bits i ∷ []
unfolding choices_of
only-is bits i none = ap (choices_by bits i) none

first_of_one : (c : Choice) (f : ℕ) → f < length (c ∷ []) → get_or (c ∷ []) f no_choice ≡ c
first_of_one c zero lt = refl
first_of_one c (suc f) lt = absurd (omega arith)

one-goal : (f : Bool) (g : ℕ) → length (with_goal [] f g) ≤ 1
one-goal true g = omega arith
one-goal false g = omega arith

two-goals : (f0 f1 : Bool) (g0 g1 : ℕ) → f0 ≡ false → length (with_goal (with_goal [] f0 g0) f1 g1) ≤ 1
two-goals true f1 g0 g1 e = absurd cc
two-goals false f1 g0 g1 e = one-goal f1 g1

three-goals : (f0 f1 f2 : Bool) (g0 g1 g2 : ℕ) → f0 ≡ false → f1 ≡ false → length (with_goal (with_goal (with_goal [] f0 g0) f1 g1) f2 g2) ≤ 1
three-goals true f1 f2 g0 g1 g2 e h = absurd cc
three-goals false true f2 g0 g1 g2 e h = absurd cc
three-goals false false f2 g0 g1 g2 e h = one-goal f2 g2

-- the bytes of the one block are all
one_block-bytes : (bits : Bits) (items : List Placed) (place : ℕ) (layout : List ℕ)
    → bytes_of_blocks bits items (plan_outside bits items place) layout (length (plan_outside bits items place).spans)
    ≡ block_bytes bits items (plan_outside bits items place) layout 0
unfolding plan_with
one_block-bytes bits items place layout = append-nil (block_bytes bits items (plan_outside bits items place) layout 0)

images-of-two : (bits : Bits) (p q : Placed) (at : ℕ) (layout : List ℕ) → let plan = plan_outside bits (p ∷ q ∷ []) at in
    images_end plan layout 0 ≡ at + (image_length plan layout 0 + image_length plan layout 1)
unfolding plan_with images_end
images-of-two bits p q at layout = omega arith

images-of-three : (bits : Bits) (p q r : Placed) (at : ℕ) (layout : List ℕ) → let plan = plan_outside bits (p ∷ q ∷ r ∷ []) at in
    images_end plan layout 0 ≡ at + (image_length plan layout 0 + image_length plan layout 1 + image_length plan layout 2)
unfolding plan_with images_end
images-of-three bits p q r at layout = omega arith

second-of-two : (bits : Bits) (p q : Placed) (at : ℕ) (m : MovedLists) (moved : IsMovedBy bits (p ∷ q ∷ []) (plan_outside bits (p ∷ q ∷ []) at) m)
    → get_or m.starts 1 0 ≡ at + image_length (plan_outside bits (p ∷ q ∷ []) at) moved.layout 0
unfolding plan_with
second-of-two bits p q at m moved =
    let lengths = image_length (plan_outside bits (p ∷ q ∷ []) at) moved.layout in
    let starts : get_or m.starts 1 0 ≡ at + (total lengths 1 - total lengths 0) = ap (λ (xs : List ℕ). get_or xs 1 0) moved.lists.starts in
    omega (arith, starts)

second-of-three : (bits : Bits) (p q r : Placed) (at : ℕ) (m : MovedLists)
    (moved : IsMovedBy bits (p ∷ q ∷ r ∷ []) (plan_outside bits (p ∷ q ∷ r ∷ []) at) m)
    → get_or m.starts 1 0 ≡ at + image_length (plan_outside bits (p ∷ q ∷ r ∷ []) at) moved.layout 0
unfolding plan_with
second-of-three bits p q r at m moved =
    let lengths = image_length (plan_outside bits (p ∷ q ∷ r ∷ []) at) moved.layout in
    let starts : get_or m.starts 1 0 ≡ at + (total lengths 1 - total lengths 0) = ap (λ (xs : List ℕ). get_or xs 1 0) moved.lists.starts in
    omega (arith, starts)

slots-of-two : (bits : Bits) (p q : Placed) (at : ℕ) (layout : List ℕ) → let plan = plan_outside bits (p ∷ q ∷ []) at in
    slots_of plan layout 0 ≡ with_goal (with_goal [] (is_far_at plan layout 0) (goal_address plan layout 0)) (is_far_at plan layout 1) (goal_address plan layout 1)
unfolding plan_with slots_of
slots-of-two bits p q at layout = refl

slots-of-three : (bits : Bits) (p q r : Placed) (at : ℕ) (layout : List ℕ) → let plan = plan_outside bits (p ∷ q ∷ r ∷ []) at in
    slots_of plan layout 0
    ≡ with_goal (with_goal (with_goal [] (is_far_at plan layout 0) (goal_address plan layout 0)) (is_far_at plan layout 1) (goal_address plan layout 1))
    (is_far_at plan layout 2) (goal_address plan layout 2)
unfolding plan_with slots_of
slots-of-three bits p q r at layout = refl

module _ (laws : CallLawsBelow) where
  -- a block whose images end there, with at most one slot
  ends-within : (p : BlockPlan) (layout : List ℕ) (count : ℕ) → length (slots_of p layout 0) ≡ count → count ≤ 1
      → new_end p layout 0 ≤ images_end p layout 0 + 15
  ends-within p layout zero is few = let e = laws.ends.end-without-slots p layout 0 is in omega (arith, e)
  ends-within p layout (suc n) is few = let e = laws.ends.end-with-slots p layout 0 (omega (arith, is)) in omega (arith, e, is, few)

  -- ---- an item that is no branch

  module _ (bits : Bits) (items : List Placed) (at : ℕ) (layout : List ℕ) (l : IsLayout (plan_outside bits items at) layout)
      (k : ℕ) (lt : k < length items) (none : branch_of (item_at items k).instr ≡ None) where
    chosen-is : item_choice (plan_outside bits items at) layout k ≡ only_choice bits (item_at items k).instr
    chosen-is =
        let i = (item_at items k).instr in
        let all = only-is bits i none in
        let below : get_or layout k 0 < length (only_choice bits i ∷ []) =
        subst (λ (cs : List Choice). get_or layout k 0 < length cs) all (laws.fragments.choice-below bits (one_span items at) items (kept_goals items) layout l k lt) in
        laws.fragments.choice-is bits (one_span items at) items (kept_goals items) layout l k lt
        ∙ (ap (λ (cs : List Choice). get_or cs (get_or layout k 0) no_choice) all ∙ first_of_one (only_choice bits i) (get_or layout k 0) below)

    length-is : image_length (plan_outside bits items at) layout k ≡ plain_length bits (item_at items k).instr
    length-is = ap (λ (c : Choice). c.len) chosen-is ∙ laws.forms.other-length bits (item_at items k).instr Itself none

    not-far : is_far_at (plan_outside bits items at) layout k ≡ false
    not-far = ap (λ (c : Choice). has_far_form c.form) chosen-is

  -- ---- a moved block

  module _ (bits : Bits) (items : List Placed) (at : ℕ) (placed : ArePlaced bits items) (few : length items ≤ 3) (m : MovedLists)
      (moved : IsMovedBy bits items (plan_outside bits items at) m) where
    bytes-are : at + length m.bytes ≡ new_end (plan_outside bits items at) moved.layout 0
    bytes-are =
        let e = laws.moved.ends bits items (one_span items at) (kept_goals items) (laws.plans.one_span-of items at) m moved 0 (omega arith) in
        let b : m.bytes ≡ block_bytes bits items (plan_outside bits items at) moved.layout 0 = moved.lists.bytes ∙ one_block-bytes bits items at moved.layout in
        omega (arith, e, ap length b)

    image-short : (k : ℕ) → image_length (plan_outside bits items at) moved.layout k ≤ 15
    image-short k = laws.lengths.image_short (plan_outside bits items at) (laws.plans.outside-fit bits items at placed (omega (arith, few))) moved.layout k

  -- PUSH and a jump
  two-short : (bits : Bits) (p q : Placed) (at : ℕ) → ArePlaced bits (p ∷ q ∷ []) → branch_of p.instr ≡ None → plain_length bits p.instr ≤ 5
      → (m : MovedLists) → IsMovedBy bits (p ∷ q ∷ []) (plan_outside bits (p ∷ q ∷ []) at) m → length m.bytes ≤ 43
  two-short bits p q at placed none len m moved =
      let items = p ∷ q ∷ [] in
      let plan = plan_outside bits items at in
      let l = moved.least.closed.is_layout in
      let first = length-is bits items at moved.layout l 0 (omega arith) none in
      let far = not-far bits items at moved.layout l 0 (omega arith) none in
      let slots : length (slots_of plan moved.layout 0) ≤ 1 =
      subst (λ (xs : List ℕ). length xs ≤ 1) (sym (slots-of-two bits p q at moved.layout)) (two-goals (is_far_at plan moved.layout 0) (is_far_at plan moved.layout 1) (goal_address plan moved.layout 0) (goal_address plan moved.layout 1) far) in
      let ends = ends-within plan moved.layout (length (slots_of plan moved.layout 0)) refl slots in
      omega (
        arith,
        bytes-are bits items at placed (omega arith) m moved,
        ends,
        images-of-two bits p q at moved.layout,
        first,
        len,
        image-short bits items at placed (omega arith) m moved 1,
      )

  -- PUSH, MOV and a jump
  three-short : (bits : Bits) (p q r : Placed) (at : ℕ) → ArePlaced bits (p ∷ q ∷ r ∷ []) → branch_of p.instr ≡ None → branch_of q.instr ≡ None
      → plain_length bits p.instr ≤ 5 → plain_length bits q.instr ≤ 8
      → (m : MovedLists) → IsMovedBy bits (p ∷ q ∷ r ∷ []) (plan_outside bits (p ∷ q ∷ r ∷ []) at) m → length m.bytes ≤ 43
  three-short bits p q r at placed none none1 len len1 m moved =
      let items = p ∷ q ∷ r ∷ [] in
      let plan = plan_outside bits items at in
      let l = moved.least.closed.is_layout in
      let first = length-is bits items at moved.layout l 0 (omega arith) none in
      let second = length-is bits items at moved.layout l 1 (omega arith) none1 in
      let far = not-far bits items at moved.layout l 0 (omega arith) none in
      let far1 = not-far bits items at moved.layout l 1 (omega arith) none1 in
      let slots : length (slots_of plan moved.layout 0) ≤ 1 =
      subst (λ (xs : List ℕ). length xs ≤ 1) (sym (slots-of-three bits p q r at moved.layout))
      (three-goals (is_far_at plan moved.layout 0) (is_far_at plan moved.layout 1) (is_far_at plan moved.layout 2) (goal_address plan moved.layout 0)
      (goal_address plan moved.layout 1) (goal_address plan moved.layout 2) far far1) in
      let ends = ends-within plan moved.layout (length (slots_of plan moved.layout 0)) refl slots in
      omega (
        arith,
        bytes-are bits items at placed (omega arith) m moved,
        ends,
        images-of-three bits p q r at moved.layout,
        first,
        second,
        len,
        len1,
        image-short bits items at placed (omega arith) m moved 2,
      )

  -- the instructions of a CALL
  with_jump-short : (bits : Bits) (ip back : ℕ) (jump : Placed) (at : ℕ) → ArePlaced bits (with_jump bits ip back jump)
      → (m : MovedLists) → IsMovedBy bits (with_jump bits ip back jump) (plan_outside bits (with_jump bits ip back jump) at) m → length m.bytes ≤ 43
  with_jump-short B16 ip back jump at placed m moved =
      two-short B16 (item_of B16 ip (push_of B16 back)) jump at placed (laws.pushed.push-no_branch B16 back) (omega (arith, laws.pushed.push-length B16 back)) m moved
  with_jump-short B32 ip back jump at placed m moved =
      two-short B32 (item_of B32 ip (push_of B32 back)) jump at placed (laws.pushed.push-no_branch B32 back) (omega (arith, laws.pushed.push-length B32 back)) m moved
  with_jump-short B64 ip back jump at placed m moved =
      three-short B64 (item_of B64 ip (push_of B64 back)) (item_of B64 ip (high_half_of back)) jump at placed
      (laws.pushed.push-no_branch B64 back) (laws.pushed.high-no_branch back) (omega (arith, laws.pushed.push-length B64 back))
      (omega (arith, laws.pushed.high-length back)) m moved

  -- the second instruction stands behind PUSH
  with_jump-begins : (bits : Bits) (ip back : ℕ) (jump : Placed) (at : ℕ) (m : MovedLists)
      → IsMovedBy bits (with_jump bits ip back jump) (plan_outside bits (with_jump bits ip back jump) at) m → BeginsWithPush bits at m
  with_jump-begins B16 ip back jump at m moved =
      let items = with_jump B16 ip back jump in
      let len = length-is B16 items at moved.layout moved.least.closed.is_layout 0 (omega arith) (laws.pushed.push-no_branch B16 back) in
      omega (arith, second-of-two B16 (item_of B16 ip (push_of B16 back)) jump at m moved, len, laws.pushed.push-length B16 back)
  with_jump-begins B32 ip back jump at m moved =
      let items = with_jump B32 ip back jump in
      let len = length-is B32 items at moved.layout moved.least.closed.is_layout 0 (omega arith) (laws.pushed.push-no_branch B32 back) in
      omega (arith, second-of-two B32 (item_of B32 ip (push_of B32 back)) jump at m moved, len, laws.pushed.push-length B32 back)
  with_jump-begins B64 ip back jump at m moved =
      let items = with_jump B64 ip back jump in
      let len = length-is B64 items at moved.layout moved.least.closed.is_layout 0 (omega arith) (laws.pushed.push-no_branch B64 back) in
      omega (
        arith,
        second-of-three B64 (item_of B64 ip (push_of B64 back)) (item_of B64 ip (high_half_of back)) jump at m moved,
        len,
        laws.pushed.push-length B64 back,
      )

  -- ---- of the CALL

  -- the items are those of a jump
  by-jump : (P : List Placed → Type 0) (bits : Bits) (ip back : ℕ) (jump : Option Placed) (items : List Placed)
      → with_jump_if bits ip back jump ≡ Some items → ((j : Placed) → P (with_jump bits ip back j)) → P items
  by-jump P bits ip back None items e h = absurd cc
  by-jump P bits ip back (Some j) items e h = let same : with_jump bits ip back j ≡ items = cc in subst P same (h j)

  module _ (bits : Bits) (item : Placed) (at : ℕ) (items : List Placed) (are : pushed_items bits item ≡ Some items) (placed : ArePlaced bits items)
      (few : length items ≤ 3) where
    block-short : (m : MovedLists) → IsMovedBy bits items (plan_outside bits items at) m → length m.bytes ≤ 43
    unfolding pushed_items
    block-short m moved =
        by-jump (λ (xs : List Placed). ArePlaced bits xs → IsMovedBy bits xs (plan_outside bits xs at) m → length m.bytes ≤ 43) bits item.ip (return_address bits item)
        (jump_item bits item.ip (jump_of bits item.instr)) items are
        (λ j p v. with_jump-short bits item.ip (return_address bits item) j at p m v) placed moved

    block-begins : (m : MovedLists) → IsMovedBy bits items (plan_outside bits items at) m → BeginsWithPush bits at m
    unfolding pushed_items
    block-begins m moved =
        by-jump (λ (xs : List Placed). IsMovedBy bits xs (plan_outside bits xs at) m → BeginsWithPush bits at m) bits item.ip (return_address bits item)
        (jump_item bits item.ip (jump_of bits item.instr)) items are
        (λ j v. with_jump-begins bits item.ip (return_address bits item) j at m v) moved

    -- **the block has at most 43 bytes**
    pub call-short : (r : Result MovedLists PlanError) → IsOutsideAnswer bits items at (as_moving r) → IfOk (call_answer r) (λ (moved : MovedLists). length moved.bytes ≤ 43)
    call-short (Ok m) h = block-short m h.1
    call-short (Err Memory) h = tt
    call-short (Err (Wraps end)) h = tt
    call-short (Err (TooFar n target)) h = tt

    -- **and begins with PUSH**
    pub call-begins : (r : Result MovedLists PlanError) → IsOutsideAnswer bits items at (as_moving r) → IfOk (call_answer r) (λ (moved : MovedLists). BeginsWithPush bits at moved)
    call-begins (Ok m) h = block-begins m h.1
    call-begins (Err Memory) h = tt
    call-begins (Err (Wraps end)) h = tt
    call-begins (Err (TooFar n target)) h = tt
