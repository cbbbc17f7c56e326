-- What moving some code answers of which some instructions have no row.
use Rattle.std.proofs.Common.{◌≡◌, ℕ, ◌<◌, ◌≤◌, List, [], ◌∷◌, length, map, Some, None, Result, Ok, Err, refl, sym, ap, ◌∙◌, subst, inl, inr, arith}
use Rattle.std.proofs.lemmas.List.{length-map}
use Rattle.x86_values.specs.declared.Bits.{Bits}
use Rattle.branch_sizes.specs.Plan.{BlockPlan}
use Rattle.move_goals.specs.declared.items.Placed.{Placed}
use Rattle.move_goals.specs.MovedTargets.Facts.{TargetFacts}
use Rattle.x86_values.specs.declared.Instr.{Instr}
use Rattle.block_encoder.specs.declared.error.PlanError.{PlanError}
use Rattle.block_encoder.specs.declared.error.PlanError.TheVariants as plan_error
use Rattle.block_encoder.specs.Moved.{MovedLists}
use Rattle.block_encoder.specs.ByPlan.{IsMovedBy, IsPassBy, IsTooFarBy, IsPlanAnswer}
use Rattle.block_encoder.specs.Planned.{as_moving}
use Rattle.code_items.specs.declared.any_items.AnyItem.{AnyItem}
use Rattle.code_items.specs.declared.moving.MoveCodeError.{MoveCodeError}
use Rattle.code_items.specs.declared.moving.MoveCodeError.TheVariants as error
use Rattle.code_items.specs.Items.{old_pass}
use Rattle.code_items.specs.AnyItems.{AnyUpTo, AreAnyItemsOf, HasAnyItems, wrapped_any, AreAnySound, AnyAscend}
use Rattle.code_items.specs.AnyPlan.{any_plan_with, any_plan}
use Rattle.code_items.specs.AnyMoved.{MovedAny, any_block_bytes, IsMovedAnyBy, IsAnyTooFarBy, IsAnyPlanAnswer, IsAnyTooFar, RefusesAnyCode, IsAnyCodeAnswer}
use Rattle.code_items.specs.AnyWriting.{IsFiller, IsPlanOf, stand_ins, code_error_of, IsAnyMoveAnswer}
use Rattle.code_items.proofs.Answered.{not_past}
use Rattle.code_items.proofs.AnySoFar.{first-bytes}
use Rattle.code_items.proofs.AnyOrder.{wrapped-same, ascend, sound}
use Rattle.code_items.proofs.AnyAnswered.{is_moved, is_too_far}

-- ---- the instructions of code that ends inside the address space

kept : (bits : Bits) (ip : ℕ) (bytes : List ℕ) (items : List AnyItem) (end : ℕ) → AnyUpTo bits ip bytes items end [] → old_pass bits ip bytes ≡ None →
    map (wrapped_any bits) items ≡ items
kept bits ip bytes [] end h inside = refl
kept bits ip bytes (x ∷ xs) end h inside =
    let size = first-bytes bits ip bytes x h.0 in
    wrapped-same bits ip bytes (x ∷ xs) end [] h (not_past bits ip bytes inside (omega (arith, size.some, size.within)))

module _ (bits : Bits) (ip : ℕ) (bytes : List ℕ) (list : List AnyItem) (h : HasAnyItems bits ip bytes list) where
  count : length list ≡ length h.items
  count = ap length h.items_are ∙ length-map h.items (wrapped_any bits)

  -- more than 65,536 instructions are refused
  pub too_many : (new count' : ℕ) → count' ≡ length list → 65536 < count' → RefusesAnyCode bits ip bytes new (error.TooMany count')
  too_many new count' is more = record {
    items = h.items;
    are = h.are;
    refused = (omega (arith, is, count, more), is ∙ count);
  }

  -- code that ended past the address space is refused
  pub old_end-refused : (new count' : ℕ) → count' ≡ length list → count' ≤ 65536 → (end : ℕ) → old_pass bits ip bytes ≡ Some end →
      RefusesAnyCode bits ip bytes new (error.Wraps end)
  old_end-refused new count' is few end e = record {
    items = h.items;
    are = h.are;
    refused = (omega (arith, is, count, few), inl e);
  }

  module _ (inside : old_pass bits ip bytes ≡ None) where
    same : list ≡ h.items
    same = h.items_are ∙ kept bits ip bytes h.items h.are.end h.are.reads inside

    -- the addresses ascend, and each is sound
    pub list-ascends : AnyAscend list
    list-ascends = subst AnyAscend (sym same) (ascend bits ip bytes h.items h.are.end [] h.are.reads)

    -- the instructions that were read are sound
    pub list-sound : AreAnySound bits list
    list-sound = subst (AreAnySound bits) (sym same) (sound bits ip bytes h.items h.are.end [] h.are.reads)

    -- **the answer for the instructions is the answer for the code**
    pub answered : (new : ℕ) → length list ≤ 65536 → (r : Result MovedAny MoveCodeError) → IsAnyMoveAnswer bits list new r → IsAnyCodeAnswer bits ip bytes new r
    answered new few (Ok m) (e, moved) = record {
      are = subst (AreAnyItemsOf bits ip bytes) (sym (e ∙ same)) h.are;
      few = omega (arith, few, ap length e);
      inside = inside;
      moved = moved;
    }
    answered new few (Err (error.BadCode at why)) no_answer = absurd no_answer
    answered new few (Err error.Memory) told = told
    answered new few (Err (error.TooMany n)) no_answer = absurd no_answer
    answered new few (Err (error.Wraps end)) passes = record {
      items = h.items;
      are = h.are;
      refused = (omega (arith, few, count), inr (inside, subst (λ (xs : List AnyItem). IsPassBy bits (any_plan bits xs new) end) same passes));
    }
    answered new few (Err (error.TooFar at target)) far = record {
      items = h.items;
      are = h.are;
      refused = (omega (arith, few, count), inside, subst (λ (xs : List AnyItem). IsAnyTooFar bits xs new at target) same far);
    }

-- ---- the mover's answer, for the items that stand for the instructions

module _ (bits : Bits) (items : List AnyItem) (placed : List Placed) (p : BlockPlan) (filler : Instr) (are : placed ≡ stand_ins filler items) (of : IsPlanOf bits items p) where
  abbrev q : BlockPlan
  q = any_plan_with bits items of.goals of.new

  -- **items that are moved, with the bytes that are written, are the moved instructions**
  pub moved-items : (m : MovedLists) (out : List ℕ) → IsMovedBy bits placed p m → ((h : IsMovedBy bits placed p m) → out ≡ any_block_bytes bits items p h.layout) →
      IsMovedAnyBy bits items p (record { bytes = out; starts = m.starts; forms = m.forms; slots = m.slots; ends = m.ends })
  moved-items m out h written =
      subst (λ (r : BlockPlan). IsMovedAnyBy bits items r (record { bytes = out; starts = m.starts; forms = m.forms; slots = m.slots; ends = m.ends })) (sym of.is)
      (is_moved bits filler items of.goals of.new m out there (writes there))
    where
      there : IsMovedBy bits (stand_ins filler items) q m
      there = subst (λ (r : BlockPlan). IsMovedBy bits (stand_ins filler items) r m) of.is (subst (λ (xs : List Placed). IsMovedBy bits xs p m) are h)

      writes : (h : IsMovedBy bits (stand_ins filler items) q m) → out ≡ any_block_bytes bits items q h.layout
      writes =
          subst (λ (r : BlockPlan). (h : IsMovedBy bits (stand_ins filler items) r m) → out ≡ any_block_bytes bits items r h.layout) of.is
          (subst (λ (xs : List Placed). (h : IsMovedBy bits xs p m) → out ≡ any_block_bytes bits items p h.layout) are written)

  -- an item that does not reach its goal
  far-there : TargetFacts → IsFiller bits filler → (at target : ℕ) → IsTooFarBy bits placed p at target → IsAnyTooFarBy bits items p at target
  far-there targets is at target h =
      subst (λ (r : BlockPlan). IsAnyTooFarBy bits items r at target) (sym of.is)
      (is_too_far targets bits filler is items of.goals of.new at target
      (subst (λ (r : BlockPlan). IsTooFarBy bits (stand_ins filler items) r at target) of.is
      (subst (λ (xs : List Placed). IsTooFarBy bits xs p at target) are h)))

  -- **why items are not moved is why the instructions are not**
  pub refused : TargetFacts → IsFiller bits filler → (why : PlanError) → IsPlanAnswer bits placed p (as_moving (Err why)) → IsAnyPlanAnswer bits items p (Err why)
  refused targets is plan_error.Memory h = h
  refused targets is (plan_error.Wraps end) h = h
  refused targets is (plan_error.TooFar at target) h = far-there targets is at target h

-- why the instructions are not moved by the plan of their targets is why the code is not
pub code-refused : (bits : Bits) (items : List AnyItem) (new : ℕ) (why : PlanError) → IsAnyPlanAnswer bits items (any_plan bits items new) (Err why)
    → IsAnyMoveAnswer bits items new (Err (code_error_of why))
code-refused bits items new plan_error.Memory h = h
code-refused bits items new (plan_error.Wraps end) h = h
code-refused bits items new (plan_error.TooFar at target) h = h

-- what contracts see of moved code leaves out the ends
pub of-lists : (bits : Bits) (items : List AnyItem) (p : BlockPlan) (m : MovedLists) → IsMovedAnyBy bits items p m
    → IsMovedAnyBy bits items p (record { bytes = m.bytes; starts = m.starts; forms = m.forms; slots = m.slots; ends = [] })
of-lists bits items p m h = record {
  layout = h.layout;
  least = h.least;
  ends = h.ends;
  reached = h.reached;
  bytes = h.bytes;
  starts = h.starts;
  forms = h.forms;
  slots = h.slots;
}
