-- What the proofs of this crate use of the crates below: what their laws say.
use Rattle.encoder.specs.Facts.{EncodingFacts}
use Rattle.branch_sizes.specs.Facts.{TotalFacts}
use Rattle.branch_sizes.specs.MoveLayout.Facts.{EndFacts}
use Rattle.move_goals.specs.MovedTargets.Facts.{TargetFacts}
use Rattle.move_goals.specs.Facts.{FirstFacts, PlanFacts}
use Rattle.block_encoder.specs.Facts.{FragmentFacts, MovedFacts}

-- encodings, sums, ends of blocks, lengths, goals, fragments and moved blocks
pub record AssemblerLawsBelow : Type 0 where
  pub encodings : EncodingFacts
  pub totals : TotalFacts
  pub ends : EndFacts
  pub targets : TargetFacts
  pub firsts : FirstFacts
  pub plans : PlanFacts
  pub fragments : FragmentFacts
  pub moved : MovedFacts
