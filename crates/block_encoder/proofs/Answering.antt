-- The answers of a moving, by the plan of the blocks.
use Rattle.std.proofs.Common.{◌≡◌, ◌≤◌, ℕ, List, length, Some, Result, Ok, Err, inr, sym, subst, ◌∙◌}
use Rattle.x86_values.specs.declared.Bits.{Bits}
use Rattle.branch_sizes.specs.declared.plan.BlockSpan.{BlockSpan}
use Rattle.branch_sizes.specs.Plan.{BlockPlan}
use Rattle.move_goals.specs.declared.items.Placed.{Placed}
use Rattle.move_goals.specs.Plan.{plan_for, plan_outside}
use Rattle.branch_sizes.specs.declared.move_layout.layout.Layout.{Layout}
use Rattle.branch_sizes.specs.MoveLayout.Laid.{IsLaidLeast}
use Rattle.block_encoder.specs.declared.error.MoveError.{MoveError}
use Rattle.block_encoder.specs.declared.error.MoveError.TheVariants.{Memory, TooMany, OldOrder, Wraps, TooFar}
use Rattle.block_encoder.specs.Moved.{MovedLists, IsOldSound, IsAnswer}
use Rattle.block_encoder.specs.ByPlan.{IsPassBy, IsPlanAnswer, IsOutsideAnswer}
use Rattle.block_encoder.specs.Written.{first_end_past}
use Rattle.block_encoder.specs.LawsBelow.{MovedLawsBelow}
use Rattle.block_encoder.proofs.Fragments.{same_pass}

module _ (bits : Bits) (items : List Placed) (spans : List BlockSpan) (old : IsOldSound bits items spans) where
  -- where the old items are sound the plan of the blocks decides
  sound_answer : (r : Result MovedLists MoveError) → IsPlanAnswer bits items (plan_for bits spans items) r → IsAnswer bits items spans r
  sound_answer (Ok m) h = record { old = old; layout = h.layout; least = h.least; ends = h.ends; reached = h.reached; lists = h.lists }
  sound_answer (Err Memory) h = (old.few, old.order)
  sound_answer (Err (TooMany n)) h = absurd h
  sound_answer (Err (OldOrder n)) h = absurd h
  sound_answer (Err (Wraps end)) h = inr (record { old = old; layout = h.layout; least = h.least; passes = h.passes })
  sound_answer (Err (TooFar at target)) h =
      record { old = old; layout = h.layout; least = h.least; ends = h.ends; first = h.first; target_is = h.target_is }

  -- the plan of the blocks decides their answer
  pub answer_is : (p : BlockPlan) → p ≡ plan_for bits spans items → (r : Result MovedLists MoveError) → IsPlanAnswer bits items p r → IsAnswer bits items spans r
  answer_is p planned r h = sound_answer r (subst (λ q. IsPlanAnswer bits items q r) planned h)

-- where there are few items the plan decides a moving from which every target stays
pub outside_answer : (bits : Bits) (items : List Placed) (new_base : ℕ) → length items ≤ 65536 → (r : Result MovedLists MoveError)
    → IsPlanAnswer bits items (plan_outside bits items new_base) r → IsOutsideAnswer bits items new_base r
outside_answer bits items new_base few (Ok m) h = (few, h)
outside_answer bits items new_base few (Err Memory) h = (few, h)
outside_answer bits items new_base few (Err (TooMany n)) h = absurd h
outside_answer bits items new_base few (Err (OldOrder n)) h = (few, h)
outside_answer bits items new_base few (Err (Wraps end)) h = (few, h)
outside_answer bits items new_base few (Err (TooFar at target)) h = (few, h)

module _ (laws : MovedLawsBelow) where
  -- a new end passes the address space
  pub new_pass : (bits : Bits) (p : BlockPlan) (laid : Layout) → IsLaidLeast p laid → (end : ℕ) → first_end_past bits laid.ends.items ≡ Some end
      → IsPassBy bits p end
  new_pass bits p laid ll end h = record {
    layout = ll.0;
    least = ll.1;
    passes = sym (same_pass laws bits p ll.0 laid ll.2) ∙ h;
  }
