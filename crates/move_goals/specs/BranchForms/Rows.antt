-- The rows that the codes of branches name.
use Rattle.std.specs.Prelude.{◌≡◌, ℕ, [], ◌∷◌, Some, slice_get}
use Rattle.x86_values.specs.declared.Bits.{Bits}
use Rattle.x86_values.specs.declared.Bits.TheVariants.{B16, B32, B64}
use Rattle.instruction_parts.specs.declared.row_types.Row.{Row}
use Rattle.instruction_parts.specs.declared.row_types.RowKind.TheVariants.{Legacy}
use Rattle.instruction_parts.specs.declared.row_types.Map.{Map}
use Rattle.instruction_parts.specs.declared.row_types.Map.TheVariants.{One}
use Rattle.instruction_parts.specs.declared.row_types.Class.TheVariants.{Any as AnyClass}
use Rattle.instruction_parts.specs.declared.row_types.Plus.TheVariants.{No as NoPlus}
use Rattle.instruction_parts.specs.declared.row_types.ModRmRule.{ModRmRule}
use Rattle.instruction_parts.specs.declared.row_types.ModRmRule.TheVariants.{No as NoModRm, Digit}
use Rattle.instruction_parts.specs.declared.row_types.Place.TheVariants.{Any as AnyPlace}
use Rattle.instruction_parts.specs.declared.row_types.WBit.TheVariants.{None as NoW}
use Rattle.instruction_parts.specs.declared.row_types.LBit.TheVariants.{None as NoL}
use Rattle.instruction_parts.specs.declared.row_types.OpKind.{OpKind}
use Rattle.instruction_parts.specs.declared.row_types.OpKind.TheVariants.{Absent, Ev}
use Rattle.instruction_parts.specs.declared.row_types.Size.{Size}
use Rattle.instruction_parts.specs.declared.row_types.Size.TheVariants.{O16, O32, O64}
use Rattle.row_fit.specs.Fits.{kind_at}
use Rattle.opcode_rows.specs.Table.{table}

-- the condition of a row on an operand size
abbrev pub size_word : Bits → Size
size_word B16 = O16
size_word B32 = O32
size_word B64 = O64

-- the code is that of a legacy row with this map, opcode byte, ModRM, first operand and operand size
pub record NamesRow (code : ℕ) (map : Map) (opcode : ℕ) (modrm : ModRmRule) (kind : OpKind) (size : Bits) : Type 0 where
  pub row : Row
  pub stands : slice_get table code ≡ Some row
  pub is_legacy : row.kind ≡ Legacy
  pub has_map : row.map ≡ map
  pub has_opcode : row.opcode ≡ opcode
  pub has_modrm : row.modrm ≡ modrm
  pub has_kind : kind_at row 0 ≡ kind
  pub has_size : row.size ≡ size_word size

-- ---- the rows whole

-- the modes of a row of an operand size: 16 and 32-bit mode, or 64-bit mode
abbrev modes_with : Bits → ℕ
modes_with B64 = 4
modes_with _ = 3

-- the row of a branch with an offset
abbrev pub offset_row : Map → ℕ → OpKind → ℕ → Bits → Row
offset_row map opcode kind marks size = record {
  kind = Legacy;
  map = map;
  class = AnyClass;
  opcode = opcode;
  plus = NoPlus;
  modrm = NoModRm;
  place = AnyPlace;
  size = size_word size;
  w = NoW;
  l = NoL;
  modes = record { 0 = modes_with size };
  ops = kind ∷ Absent ∷ Absent ∷ Absent ∷ [];
  marks = record { 0 = marks };
}

-- the row of a branch through memory in 64-bit mode
abbrev pub memory_row : ℕ → Row
memory_row digit = record (offset_row One 0xFF Ev 16 B64) { modrm = Digit digit }
