-- What the proofs of this crate use of the crates below: what their laws say.
use Rattle.std.specs.Prelude.{◌≡◌, ℕ, Bool, IsTrue, Some, slice_get}
use Rattle.std.specs.List.{list_all}
use Rattle.instruction_parts.specs.declared.row_types.Row.{Row}
use Rattle.opcode_rows.specs.declared.spot.Part.{Part}
use Rattle.opcode_rows.specs.Table.{part_table, table}
use Rattle.encoder.specs.Facts.{EncodingFacts, SpelledFacts}
use Rattle.branch_sizes.specs.Facts.{BlockFacts, LengthFacts, TotalFacts}
use Rattle.move_goals.specs.MovedTargets.Facts.{DistanceFacts, TargetFacts}
use Rattle.move_goals.specs.BranchForms.Facts.{CodeFacts, PieceFacts, FormFacts}
use Rattle.move_goals.specs.Facts.{FirstFacts, PlanFacts}
use Rattle.branch_sizes.specs.MoveLayout.Facts.{EndFacts, SlotFacts}

-- the table, encodings, what is spelled, layouts, targets, forms and goals
pub record MovedLawsBelow : Type 0 where
  -- what holds of each row of each part holds of each row of the table
  pub rows : (test : Row → Bool) → ((part : Part) → IsTrue (list_all test (part_table part)))
      → (code : ℕ) (row : Row) → slice_get table code ≡ Some row → IsTrue (test row)
  pub encodings : EncodingFacts
  pub spelled : SpelledFacts
  pub blocks : BlockFacts
  pub lengths : LengthFacts
  pub totals : TotalFacts
  pub distances : DistanceFacts
  pub targets : TargetFacts
  pub codes : CodeFacts
  pub pieces : PieceFacts
  pub forms : FormFacts
  pub firsts : FirstFacts
  pub plans : PlanFacts
  pub ends : EndFacts
  pub slots : SlotFacts
