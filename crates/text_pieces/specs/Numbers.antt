-- Numbers of operands as pieces: the value, its bytes, and what it is there for.
use Rattle.std.specs.Prelude.{ℕ, List, Some}
use Rattle.x86_values.specs.declared.Bits.{Bits}
use Rattle.x86_values.specs.declared.Bits.TheVariants.{B16, B32, B64}
use Rattle.x86_values.specs.declared.Mem.{Mem}
use Rattle.instruction_parts.specs.declared.row_types.Row.{Row}
use Rattle.instruction_parts.specs.declared.row_types.Size.{Size}
use Rattle.instruction_parts.specs.declared.row_types.Size.TheVariants.{None as NoSize, O16, O32, O32or64, O64, W0, W1}
use Rattle.instruction_parts.specs.declared.row_types.OpKind.{OpKind}
use Rattle.instruction_parts.specs.declared.row_types.OpKind.TheVariants.{Ib, Iw, One}
use Rattle.row_fit.specs.Fits.{kind_at}
use Rattle.text_parts.specs.declared.style.Style.{Style}
use Rattle.text_parts.specs.Numbers.{number}
use Rattle.text_pieces.specs.declared.piece.Role.TheVariants as role
use Rattle.text_pieces.specs.declared.piece.Number.{Number}
use Rattle.text_pieces.specs.declared.piece.Kind.TheVariants as kind
use Rattle.text_pieces.specs.Tokens.{Token, token}

-- the bytes of a size in bits
unfoldable pub bytes_of : Bits → ℕ
bytes_of B16 = 2
bytes_of B32 = 4
bytes_of B64 = 8

-- the bytes of the operand size of a row, the mode's where the row names none
unfoldable pub operand_bytes : Bits → Size → ℕ
operand_bytes bits NoSize = bytes_of bits
operand_bytes bits O16 = 2
operand_bytes bits O32 = 4
operand_bytes B64 O32or64 = 8
operand_bytes bits O32or64 = 4
operand_bytes bits O64 = 8
operand_bytes bits W0 = 4
operand_bytes bits W1 = 8

-- the bytes of an immediate of a kind: one or two where the kind says so, else those of the operand size
unfoldable pub immediate_bytes : Bits → Size → OpKind → ℕ
immediate_bytes bits size Ib = 1
immediate_bytes bits size Iw = 2
immediate_bytes bits size One = 1
immediate_bytes bits size _ = operand_bytes bits size

-- the bytes of the offset of a far pointer
unfoldable pub offset_bytes : Size → ℕ
offset_bytes O16 = 2
offset_bytes _ = 4

-- ---- the numbers of operands

-- an immediate, operand n of a row
abbrev pub immediate : Bits → Row → ℕ → ℕ → Number
immediate bits row n x = record { value = x; width = immediate_bytes bits row.size (kind_at row n); role = role.Immediate }

-- the target of a near branch
abbrev pub near_target : Bits → Row → ℕ → Number
near_target bits row x = record { value = x; width = operand_bytes bits row.size; role = role.Target }

-- the selector of a far pointer
abbrev pub far_selector : ℕ → Number
far_selector x = record { value = x; width = 2; role = role.Selector }

-- the offset of a far pointer
abbrev pub far_offset : Row → ℕ → Number
far_offset row x = record { value = x; width = offset_bytes row.size; role = role.Offset }

-- the displacement beside a register, with its sign
abbrev pub displacement : Bits → Mem → Number
displacement asize m = record { value = m.disp; width = bytes_of asize; role = role.Displacement }

-- the address of an operand without registers, or relative to the instruction pointer
abbrev pub address : Bits → Mem → Number
address asize m = record { value = m.disp; width = bytes_of asize; role = role.Address }

-- the scale of an index
abbrev pub index_scale : Mem → Number
index_scale m = record { value = m.scale; width = 1; role = role.Scale }

-- ---- their pieces

-- a number of operand n, whose characters are those of another number where a sign stands in front
abbrev pub number_pieces : Style → ℕ → ℕ → Number → List Token
number_pieces style n shown x = token (Some n) (kind.Number x) (number style shown)
