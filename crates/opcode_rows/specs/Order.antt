-- The order of the table: which row of which part has a code, and how codes ascend.
use Rattle.std.specs.Prelude.{◌≡◌, ℕ, ◌+◌, ◌*◌, Some, slice_get}
use Rattle.instruction_parts.specs.declared.row_types.Row.{Row}
use Rattle.instruction_parts.specs.RowFields.Holds.{is_vex, map_number}
use Rattle.opcode_rows.specs.declared.spot.Part.{Part}
use Rattle.opcode_rows.specs.Table.{spots, table}

-- the opcode bytes of all maps in one line: the four maps of the legacy rows, then the four behind a VEX, each with 256 opcode bytes
abbrev pub opcode_number : Row → ℕ
opcode_number row = 256 * map_number (is_vex row.kind) row.map + row.opcode

-- the code is that of the row at this index of a part's list
abbrev pub LiesAt : Part → ℕ → ℕ → Type 0
LiesAt part at code = slice_get spots code ≡ Some (record { part = part; at = at })

-- the row at this index of a part's list stands in the table at one code, and at no other
pub record HasOneCode (part : Part) (at : ℕ) (row : Row) : Type 0 where
  pub code : ℕ
  pub lies : LiesAt part at code
  pub there : slice_get table code ≡ Some row
  pub alone : (other : ℕ) → LiesAt part at other → other ≡ code
