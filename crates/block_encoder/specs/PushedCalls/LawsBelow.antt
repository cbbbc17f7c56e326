-- What the proofs of this crate use of the crates below: what their laws say.
use Rattle.encoder.specs.Facts.{EncodingFacts}
use Rattle.move_goals.specs.MovedTargets.Facts.{DistanceFacts, TargetFacts}

-- encodings, signed numbers, and targets with the lengths of plain spellings
pub record PushedLawsBelow : Type 0 where
  pub encodings : EncodingFacts
  pub distances : DistanceFacts
  pub targets : TargetFacts
