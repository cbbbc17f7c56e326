-- What the proofs about the block of a CALL use of the crates below: what their laws say.
use Rattle.branch_sizes.specs.Facts.{LengthFacts}
use Rattle.branch_sizes.specs.MoveLayout.Facts.{EndFacts}
use Rattle.move_goals.specs.BranchForms.Facts.{FormFacts}
use Rattle.move_goals.specs.Facts.{PlanFacts}
use Rattle.block_encoder.specs.Facts.{FragmentFacts, MovedFacts}
use Rattle.block_encoder.specs.PushedCalls.Facts.{PushFacts}

-- lengths, ends, forms, plans, fragments, moved blocks, and the instructions that push
pub record CallLawsBelow : Type 0 where
  pub lengths : LengthFacts
  pub ends : EndFacts
  pub forms : FormFacts
  pub plans : PlanFacts
  pub fragments : FragmentFacts
  pub moved : MovedFacts
  pub pushed : PushFacts
