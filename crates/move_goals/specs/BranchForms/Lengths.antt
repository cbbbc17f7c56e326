-- How many bytes the instructions have that a relative branch becomes.
use Rattle.std.specs.Prelude.{ℕ, ◌+◌, Option, Some, None}
use Rattle.x86_values.specs.declared.Bits.{Bits}
use Rattle.x86_values.specs.declared.Bits.TheVariants.{B16, B32, B64}
use Rattle.move_goals.specs.declared.branch_forms.branch.Action.{Action}
use Rattle.move_goals.specs.declared.branch_forms.branch.Action.TheVariants.{Call, Condition}

-- 66 stands before a branch for an operand size of 16 or 32 bits that is not the mode's own
abbrev pub size_byte : Bits → Bits → ℕ
size_byte B16 B32 = 1
size_byte B32 B16 = 1
size_byte B64 B16 = 1
size_byte _ _ = 0

-- 67 stands for an address size that is not the mode's own
abbrev pub address_byte : Bits → Option Bits → ℕ
address_byte bits None = 0
address_byte B16 (Some B16) = 0
address_byte B32 (Some B32) = 0
address_byte B64 (Some B64) = 0
address_byte bits (Some asize) = 1

-- the bytes of an offset of the operand size: in 64-bit mode four; in 16-bit mode a branch that 64-bit mode alone has counts as one of 16 bits
abbrev pub offset_bytes : Bits → Bits → ℕ
offset_bytes B16 B16 = 2
offset_bytes B16 B64 = 2
offset_bytes B32 B16 = 2
offset_bytes _ _ = 4

-- a branch with an offset of the operand size: 0F stands before the opcode byte of one on a condition
abbrev pub near_bytes : Bits → Action → Bits → ℕ
near_bytes bits (Condition n) size = 2 + size_byte bits size + offset_bytes bits size
near_bytes bits action size = 1 + size_byte bits size + offset_bytes bits size

-- a branch with an offset of 8 bits; for a CALL, which has none, its own code stands
abbrev pub short_bytes : Bits → Action → Bits → Option Bits → ℕ
short_bytes bits Call size asize = near_bytes bits Call size
short_bytes bits action size asize = 2 + size_byte bits size + address_byte bits asize

-- CALL or JMP through memory relative to RIP
abbrev pub slot_bytes : Bits → ℕ
slot_bytes bits = 6 + address_byte bits (Some B64)
