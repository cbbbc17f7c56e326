-- What the proofs of this crate use of the crates below: what their laws say.
use Rattle.branch_sizes.specs.Facts.{BlockFacts}
use Rattle.move_goals.specs.MovedTargets.Facts.{TargetFacts}
use Rattle.move_goals.specs.BranchForms.Facts.{FormFacts}
use Rattle.move_goals.specs.Facts.{FirstFacts, PlanFacts}

-- blocks, lengths, forms, goals and plans
pub record AnyLawsBelow : Type 0 where
  pub blocks : BlockFacts
  pub targets : TargetFacts
  pub forms : FormFacts
  pub firsts : FirstFacts
  pub plans : PlanFacts
