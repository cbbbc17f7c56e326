-- What the operands of an instruction are.
use Rattle.std.specs.Prelude.{ℕ, Bool, true, false, List, length, Option, Some, None, unwrap_or, option_and_then, position, find}
use Rattle.x86_values.specs.declared.Mem.{Mem}
use Rattle.x86_values.specs.declared.Operand.{Operand}
use Rattle.x86_values.specs.declared.Operand.TheVariants.{Absent, Mem as Memory}

-- there is no such operand
abbrev pub is_absent : Operand → Bool
is_absent Absent = true
is_absent _ = false

-- an address
abbrev pub is_memory : Operand → Bool
is_memory (Memory _) = true
is_memory _ = false

-- the address that the operand is
abbrev pub memory : Operand → Option Mem
memory (Memory m) = Some m
memory _ = None

-- how many operands stand in front of the first absent one
abbrev pub count_of : List Operand → ℕ
count_of ops = unwrap_or (position is_absent ops) (length ops)

-- the first address among the operands
abbrev pub first_memory : List Operand → Option Mem
first_memory ops = option_and_then memory (find is_memory ops)
