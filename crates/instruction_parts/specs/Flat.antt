-- Rows, from how they lie in a table.
use Rattle.std.specs.Prelude.{List, [], ◌∷◌, map}
use Rattle.instruction_parts.specs.declared.row_types.Row.{Row}
use Rattle.instruction_parts.specs.declared.row_lists.FlatRow.{FlatRow}

-- a row, from its flat form
abbrev pub row_of : FlatRow → Row
row_of f =
    record {
      kind = f.kind;
      map = f.map;
      class = f.class;
      opcode = f.opcode;
      plus = f.plus;
      modrm = f.modrm;
      place = f.place;
      size = f.size;
      w = f.w;
      l = f.l;
      modes = f.modes;
      ops = f.op0 ∷ f.op1 ∷ f.op2 ∷ f.op3 ∷ [];
      marks = f.marks;
    }

-- the rows of a table, in their order
abbrev pub rows_of : List FlatRow → List Row
rows_of flat = map row_of flat
