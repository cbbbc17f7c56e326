-- What the proofs of lengths use of the crates below besides `DetourLawsBelow`: what their laws say.
use Rattle.encoder.specs.Facts.{SpelledFacts}
use Rattle.move_goals.specs.BranchForms.Facts.{FormFacts}
use Rattle.block_encoder.specs.PushedCalls.Facts.{PushFacts}
use Rattle.detour.specs.LawsBelow.{DetourLawsBelow}

-- what is spelled, the forms of branches, and the instructions that push a return address
pub record LengthLawsBelow : Type 0 where
  pub below : DetourLawsBelow
  pub spelled : SpelledFacts
  pub forms : FormFacts
  pub pushes : PushFacts
