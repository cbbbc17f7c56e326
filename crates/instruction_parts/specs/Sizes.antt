-- Operand size, address size and W (Intel SDM volume 2, 2.1.1, 2.2.1.2 and 3.6 of volume 1).
use Rattle.std.specs.Prelude.{ℕ, Bool, true, false, ◌&&◌, ◌==◌, if◌then◌else◌, Some, None, bit_and}
use Rattle.x86_values.specs.declared.Bits.{Bits}
use Rattle.x86_values.specs.declared.Bits.TheVariants.{B16, B32, B64}
use Rattle.instruction_parts.specs.declared.row_types.Row.{Row}
use Rattle.instruction_parts.specs.declared.row_types.RowKind.TheVariants.{Legacy, Vex as VexRow}
use Rattle.instruction_parts.specs.declared.spelling.PrefixState.{PrefixState}
use Rattle.instruction_parts.specs.declared.spelling.Vex.{Vex}
use Rattle.instruction_parts.specs.Counting.{is_64, rex_bit}

-- ---- marks and modes of a row

-- the row has the mark of this number
abbrev pub has_mark : ℕ → Row → Bool
has_mark mark row = bit_and row.marks.0 mark == mark

-- the mark of rows that LOCK may stand before
abbrev pub is_lockable : Row → Bool
is_lockable row = has_mark 1 row

-- the mark a: an address size without a memory operand
abbrev pub has_address_mark : Row → Bool
has_address_mark row = has_mark 2 row

-- the mark ^: the default operand size is 64 in 64-bit mode (2.2.1.7)
abbrev pub has_caret : Row → Bool
has_caret row = has_mark 8 row

-- the mark !: the operand size is always 64 in 64-bit mode (2.2.1.7)
abbrev pub has_bang : Row → Bool
has_bang row = has_mark 16 row

-- the flag of a mode in a row's modes
abbrev pub mode_flag : Bits → ℕ
mode_flag B16 = 1
mode_flag B32 = 2
mode_flag B64 = 4

-- the row exists in the mode
unfoldable pub exists_in : Bits → Row → Bool
exists_in bits row = bit_and row.modes.0 (mode_flag bits) == mode_flag bits

-- the row is spelled with a VEX
abbrev pub is_vex_row : Row → Bool
is_vex_row row = elim row.kind [ Legacy ↦ false | VexRow ↦ true ]

-- ---- the sizes

-- the default operand size of a mode: 16 in 16-bit mode, else 32 (volume 1, 3.6)
abbrev pub default_size : Bits → Bits
default_size B16 = B16
default_size _ = B32

-- 66 gives the other of 16 and 32 (2.1.1, group 3)
abbrev pub other_size : Bits → Bits
other_size B16 = B32
other_size _ = B16

-- the operand size of a row in a mode: REX.W gives 64 and outranks 66, 66 outranks the default (2.2.1.2)
unfoldable pub operand_size : Bits → Row → Bool → Bool → Bits
operand_size bits row w size66 =
    if is_64 bits && has_bang row then B64
    else (if w then B64
    else (if size66 then other_size bits
    else (if is_64 bits && has_caret row then B64 else default_size bits)))

-- the address size of a mode: 16, 32 or 64, and with 67 32, 16 or 32 (2.1.1, group 4; volume 1, 3.6.1)
unfoldable pub address_size : Bits → Bool → Bits
address_size B16 false = B16
address_size B16 true = B32
address_size B32 false = B32
address_size B32 true = B16
address_size B64 false = B64
address_size B64 true = B32

-- the bytes of a size
abbrev pub size_bytes : Bits → ℕ
size_bytes B16 = 2
size_bytes B32 = 4
size_bytes B64 = 8

-- ---- the bits that REX and VEX share (2.2.1.2, 2.3.5)

-- the field of the VEX, else the bit of the counting REX (2.3.5.1)
abbrev pub shared_bit : (Vex → Bool) → ℕ → PrefixState → Bool
shared_bit field n state = elim state.vex [ None ↦ rex_bit n state.rex | Some v ↦ field v ]

-- R adds 8 to ModRM.reg (2.2.1.2, 2.3.5.2)
unfoldable pub bit_r : PrefixState → Bool
bit_r state = shared_bit (λ v. v.r) 2 state

-- X adds 8 to SIB.index (2.2.1.2, 2.3.5.3)
unfoldable pub bit_x : PrefixState → Bool
bit_x state = shared_bit (λ v. v.x) 1 state

-- B adds 8 to ModRM.rm, to SIB.base or to the register in the opcode byte; outside 64-bit mode VEX.B is ignored (2.2.1.2, 2.3.5.4)
unfoldable pub bit_b : Bits → PrefixState → Bool
bit_b bits state = is_64 bits && shared_bit (λ v. v.b) 0 state

-- W, which is ignored outside 64-bit mode (2.2.1.2, 2.3.5.5)
unfoldable pub bit_w : Bits → PrefixState → Bool
bit_w bits state = is_64 bits && shared_bit (λ v. v.w) 3 state

-- REX.W, which sets the operand size (2.2.1.2)
abbrev pub rex_w : PrefixState → Bool
rex_w state = rex_bit 3 state.rex

-- the operand size under the prefixes of a state
unfoldable pub state_size : Bits → Row → PrefixState → Bits
state_size bits row state = operand_size bits row (rex_w state) state.size66

-- the address size under the prefixes of a state
abbrev pub state_address_size : Bits → PrefixState → Bits
state_address_size bits state = address_size bits state.addr67
