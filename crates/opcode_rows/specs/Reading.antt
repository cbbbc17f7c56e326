-- Reading bytes over the opcode table.
use Rattle.std.specs.Prelude.{ℕ, List}
use Rattle.x86_values.specs.declared.Bits.{Bits}
use Rattle.x86_values.specs.Wrapping.{modulo_width}
use Rattle.row_relation.specs.Spells.{Reading, IsReading}
use Rattle.opcode_rows.specs.Table.{table}

-- the reading of some bytes at an address of the mode
abbrev pub IsRead : Bits → ℕ → List ℕ → Reading → Type 0
IsRead bits ip bytes r = IsReading table bits (modulo_width bits ip) bytes r
