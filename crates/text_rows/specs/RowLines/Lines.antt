-- The table printed: one line a row.
use Rattle.std.specs.Prelude.{ℕ, List, [], ◌∷◌, ◌++◌, Option, Some, None, slice_get, decimal}
use Rattle.instruction_parts.specs.declared.row_types.Row.{Row}
use Rattle.row_notation.specs.Shape.{shape}
use Rattle.row_notation.specs.Notation.{notation}
use Rattle.opcode_rows.specs.Table.{table, name_of}

-- the notation of a row that is there
abbrev pub notation_of : Option Row → List ℕ
notation_of None = []
notation_of (Some row) = notation (shape row)

-- the notation of the row of a code
unfoldable pub notation_at : ℕ → List ℕ
notation_at code = notation_of (slice_get table code)

-- the line of a code: its number in decimal, the row's notation and the row's name, with a space between them and a line feed behind
unfoldable pub row_line : ℕ → List ℕ
row_line code = decimal code ++ (32 ∷ (notation_at code ++ (32 ∷ (name_of code ++ 10 ∷ []))))
