-- The rows of a name.
use Rattle.std.specs.Prelude.{ℕ, List, bytes_eq, count_by, take}
use Rattle.opcode_rows.specs.Table.{names}

-- how many of some names are this one
abbrev pub count_named : List ℕ → List (List ℕ) → ℕ
count_named name xs = count_by (λ x. bytes_eq x name) xs

-- how many rows have this name
abbrev pub rows_named : List ℕ → ℕ
rows_named name = count_named name names

-- how many of the rows before a code have this name
abbrev pub rows_named_before : List ℕ → ℕ → ℕ
rows_named_before name code = count_named name (take code names)
