-- The names of the first rows, 512 a line.
use Rattle.std.specs.Prelude.{ℕ, List, [], ◌∷◌, get_or}
use Rattle.opcode_rows.specs.Table.{names_from_0, names_from_512, names_from_1024}

-- the lines one by one
abbrev pub early_lines : List (List (List ℕ))
early_lines = names_from_0 ∷ names_from_512 ∷ names_from_1024 ∷ []

-- the names of the rows with the codes from 512 * n on, where n is below 3
abbrev pub names_in_line : ℕ → List (List ℕ)
names_in_line n = get_or early_lines n []
