-- What the proofs of this crate use of the crates below: what their laws say.
use Rattle.std.specs.Prelude.{◌≡◌, ℕ, ◌<◌, List, IsTrue}
use Rattle.x86_values.specs.declared.Instr.{Instr}
use Rattle.opcode_rows.specs.Allowed.{is_well_formed}
use Rattle.opcode_rows.specs.declared.generated_spots.TheConstants.{ROWS}
use Rattle.encoder.specs.Facts.{EncodingFacts}
use Rattle.decoder.specs.OneReading.{OneReadingFacts, WrappedFacts}
use Rattle.branch_sizes.specs.Plan.{BlockPlan}
use Rattle.branch_sizes.specs.Layout.{IsLeast}
use Rattle.move_goals.specs.MovedTargets.Facts.{TargetFacts}
use Rattle.move_goals.specs.BranchForms.Facts.{CodeFacts, PieceFacts}
use Rattle.move_goals.specs.Facts.{FirstFacts, PlanFacts}
use Rattle.block_encoder.specs.Facts.{FragmentFacts, MovedFacts, JumpFacts}

-- codes, encodings, readings, layouts, targets, goals, fragments, moved blocks and near jumps
pub record DetourLawsBelow : Type 0 where
  pub in_table : (i : Instr) → IsTrue (is_well_formed i) → i.code.0 < ROWS
  pub encodings : EncodingFacts
  pub readings : OneReadingFacts
  pub wraps : WrappedFacts
  pub one_least : (p : BlockPlan) → (a b : List ℕ) → IsLeast p a → IsLeast p b → a ≡ b
  pub targets : TargetFacts
  pub codes : CodeFacts
  pub pieces : PieceFacts
  pub firsts : FirstFacts
  pub plans : PlanFacts
  pub fragments : FragmentFacts
  pub moved : MovedFacts
  pub jumps : JumpFacts
