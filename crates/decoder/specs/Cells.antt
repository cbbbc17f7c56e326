-- The rows of a cell, and what those say of some bytes that were looked at.
use Rattle.std.specs.Prelude.{◌≡◌, ℕ, ◌+◌, ◌<◌, ◌≤◌, Bool, true, false, List, ◌++◌, length, Some, is_some, IsTrue, slice_get}
use Rattle.x86_values.specs.declared.Bits.{Bits}
use Rattle.x86_values.specs.declared.Code.{Code}
use Rattle.instruction_parts.specs.declared.row_types.Row.{Row}
use Rattle.instruction_parts.specs.declared.spelling.Spelling.{Spelling}
use Rattle.instruction_parts.specs.declared.spelling.PrefixState.{PrefixState}
use Rattle.instruction_parts.specs.Sizes.{is_vex_row}
use Rattle.instruction_parts.specs.Bytes.{bytes_of}
use Rattle.instruction_parts.specs.Front.{Front, Known}
use Rattle.row_fit.specs.Fits.{fits, opcode_fits}
use Rattle.instruction_parts.specs.RowFields.Holds.{map_number, rows_at}
use Rattle.opcode_rows.specs.Table.{table}
use Rattle.row_relation.specs.RowReading.{RowCanGoOn}

-- ---- where a row stands

-- the row has the kind, the map and the opcode byte of the state
pub record IsInCell (state : PrefixState) (row : Row) : Type 0 where
  pub kind : is_vex_row row ≡ is_some state.vex
  pub map : state.map ≡ row.map
  pub opcode : opcode_fits row state.opcode ≡ true

-- each row that stands where the state says has a code from first on, up to end
abbrev pub CellIs : List Row → PrefixState → ℕ → ℕ → Type 0
CellIs table state first end =
    (k : ℕ) (row : Row) → slice_get table k ≡ Some row → IsInCell state row → (first ≤ k) × (k < end)

-- how many rows stand where the state says
unfoldable pub cell_count : PrefixState → ℕ
cell_count state = length (rows_at (map_number (is_some state.vex) state.map) state.opcode table)

-- the most look-ups of a reading: 12 to find a row, and each row of the cell to tell why there is none
abbrev pub most_steps : Front → ℕ
most_steps (Known state) = 12 + cell_count state
most_steps _ = 12

-- ---- what a row says

-- bytes at the front that are a spelling of the row are more than 15
abbrev pub RowIsLate : Bits → Row → List ℕ → Type 0
RowIsLate bits row bytes =
    (s : Spelling) (rest : List ℕ) → IsTrue (fits bits row s) → bytes ≡ bytes_of row s ++ rest → 15 < length (bytes_of row s)

-- the row has no spelling that a few bytes begin
abbrev pub RowStops : Bits → Row → List ℕ → Type 0
RowStops bits row bytes = length bytes < 15 → RowCanGoOn bits row bytes → ⊥

-- ---- what the rows of a cell say

-- the rows with the codes from first up to next read nothing within 15 bytes, and the flag says whether one of them can go on
pub record Scanned (table : List Row) (bits : Bits) (bytes : List ℕ) (first next : ℕ) (goes_on : Bool) : Type 0 where
  pub late : (k : ℕ) (row : Row) → first ≤ k → k < next → slice_get table k ≡ Some row → RowIsLate bits row bytes
  pub stops : goes_on ≡ false → (k : ℕ) (row : Row) → first ≤ k → k < next → slice_get table k ≡ Some row → RowStops bits row bytes
  pub goes : goes_on ≡ true → (code : Code) × ((row : Row) × ((slice_get table code.0 ≡ Some row) × RowCanGoOn bits row bytes))
