-- What the proofs of this crate use of the crates below: what their laws say.
use Rattle.std.specs.Prelude.{◌≡◌, ℕ, Bool, IsTrue, Some, slice_get}
use Rattle.std.specs.List.{list_all}
use Rattle.instruction_parts.specs.declared.row_types.Row.{Row}
use Rattle.opcode_rows.specs.declared.spot.Part.{Part}
use Rattle.opcode_rows.specs.Table.{part_table, table}
use Rattle.encoder.specs.Facts.{SpelledFacts}
use Rattle.move_goals.specs.MovedTargets.Facts.{TargetFacts}

-- the table, what is spelled, and targets
pub record FormLawsBelow : Type 0 where
  -- what holds of each row of each part holds of each row of the table
  pub rows : (test : Row → Bool) → ((part : Part) → IsTrue (list_all test (part_table part)))
      → (code : ℕ) (row : Row) → slice_get table code ≡ Some row → IsTrue (test row)
  pub spelled : SpelledFacts
  pub targets : TargetFacts
