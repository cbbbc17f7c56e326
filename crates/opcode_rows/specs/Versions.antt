-- The versions of the table: which rows are those of version 1, and the cells that version 2 fills.
use Rattle.std.specs.Prelude.{ℕ, Bool, false, ◌&&◌, ◌||◌, ◌==◌, ◌<◌, ◌≤◌, ◌⊎◌, nat_le, List, take, Option, Some, None}
use Rattle.x86_values.specs.declared.Bits.{Bits}
use Rattle.instruction_parts.specs.declared.row_types.Row.{Row}
use Rattle.instruction_parts.specs.declared.row_types.RowKind.{RowKind}
use Rattle.instruction_parts.specs.declared.row_types.RowKind.TheVariants as kind
use Rattle.instruction_parts.specs.declared.row_types.Map.{Map}
use Rattle.instruction_parts.specs.declared.row_types.Map.TheVariants as map
use Rattle.instruction_parts.specs.declared.spelling.Vex.{Vex}
use Rattle.instruction_parts.specs.declared.spelling.PrefixState.{PrefixState}
use Rattle.instruction_parts.specs.Front.{Front, Known, Open, Forbidden, front_of}
use Rattle.opcode_rows.specs.declared.generated_spots.TheConstants.{VERSION1_ROWS}
use Rattle.opcode_rows.specs.Table.{table, names}

-- the rows of version 1: those with the codes below VERSION1_ROWS
unfoldable pub version1 : List Row
version1 = take VERSION1_ROWS table

-- the names of the rows of version 1
unfoldable pub version1_names : List (List ℕ)
version1_names = take VERSION1_ROWS names

-- a number from a first to a last one
abbrev pub is_within : ℕ → ℕ → ℕ → Bool
is_within first last n = nat_le first n && nat_le n last

-- The cells that version 2 fills (Intel SDM volume 2, A.3, tables A-4 and A-5): AES and PCLMULQDQ, legacy and behind a VEX; the conversions with
-- half precision; the products with a sum, in three orders of their operands.
unfoldable pub is_added_cell : RowKind → Map → ℕ → Bool
is_added_cell kind.Legacy map.M0f38 op = is_within 0xDB 0xDF op
is_added_cell kind.Legacy map.M0f3a op = op == 0x44 || op == 0xDF
is_added_cell kind.Vex map.M0f38 op =
    op == 0x13 || is_within 0x96 0x9F op || is_within 0xA6 0xAF op || is_within 0xB6 0xBF op || is_within 0xDB 0xDF op
is_added_cell kind.Vex map.M0f3a op = op == 0x1D || op == 0x44 || op == 0xDF
is_added_cell _ _ _ = false

-- the kind of the rows behind this VEX, or behind none
abbrev pub kind_behind : Option Vex → RowKind
kind_behind None = kind.Legacy
kind_behind (Some v) = kind.Vex

-- prefixes, VEX and opcode byte name a cell that version 2 fills
unfoldable pub is_added_state : PrefixState → Bool
is_added_state state = is_added_cell (kind_behind state.vex) state.map state.opcode

-- a front has an opcode byte, with a state that meets the test
abbrev pub has_state : (PrefixState → Bool) → Front → Bool
has_state test (Known state) = test state
has_state test Open = false
has_state test Forbidden = false

-- the front of the bytes names a cell that version 2 fills
unfoldable pub names_added_cell : Bits → List ℕ → Bool
names_added_cell bits bytes = has_state is_added_state (front_of bits bytes)

-- two codes are of one version
abbrev pub AreOfOneVersion : ℕ → ℕ → Type 0
AreOfOneVersion j k = ((j < VERSION1_ROWS) × (k < VERSION1_ROWS)) ⊎ ((VERSION1_ROWS ≤ j) × (VERSION1_ROWS ≤ k))
