-- A row from its fields in their order.
use Rattle.std.specs.Prelude.{ℕ, [], ◌∷◌}
use Rattle.instruction_parts.specs.declared.row_types.RowKind.{RowKind}
use Rattle.instruction_parts.specs.declared.row_types.Map.{Map}
use Rattle.instruction_parts.specs.declared.row_types.Class.{Class}
use Rattle.instruction_parts.specs.declared.row_types.Plus.{Plus}
use Rattle.instruction_parts.specs.declared.row_types.ModRmRule.{ModRmRule}
use Rattle.instruction_parts.specs.declared.row_types.Place.{Place}
use Rattle.instruction_parts.specs.declared.row_types.Size.{Size}
use Rattle.instruction_parts.specs.declared.row_types.WBit.{WBit}
use Rattle.instruction_parts.specs.declared.row_types.LBit.{LBit}
use Rattle.instruction_parts.specs.declared.row_types.OpKind.{OpKind}
use Rattle.instruction_parts.specs.declared.row_types.Row.{Row}

-- the row of these fields, with its modes and marks as numbers
abbrev pub row : RowKind → Map → Class → ℕ → Plus → ModRmRule → Place → Size → WBit → LBit → ℕ → OpKind → OpKind → OpKind → OpKind → ℕ → Row
row kind map class opcode plus modrm place size w l modes a b c d marks = record {
  kind = kind;
  map = map;
  class = class;
  opcode = opcode;
  plus = plus;
  modrm = modrm;
  place = place;
  size = size;
  w = w;
  l = l;
  modes = record { 0 = modes };
  ops = a ∷ b ∷ c ∷ d ∷ [];
  marks = record { 0 = marks };
}
