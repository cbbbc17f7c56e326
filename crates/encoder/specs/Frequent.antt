-- The shapes of the most frequent instructions in 64-bit mode, whose encoding needs no prefix but a REX.
use Rattle.std.specs.Prelude.{◌≡◌, ℕ, ◌+◌, ◌*◌, ◌%◌, Bool, true, false, ◌&&◌, ◌||◌, not, nat_le, nat_lt, if◌then◌else◌, List, [], ◌∷◌, ◌++◌, ◌==◌, Option, Some, None, is_none, Ok, ◌⊎◌}
use Rattle.x86_values.specs.declared.Bits.{Bits}
use Rattle.x86_values.specs.declared.Bits.TheVariants.{B64}
use Rattle.x86_values.specs.declared.Register.{Register}
use Rattle.x86_values.specs.declared.Register.TheVariants.{R32, R64}
use Rattle.x86_values.specs.declared.Mem.{Mem}
use Rattle.x86_values.specs.declared.Operand.{Operand}
use Rattle.x86_values.specs.declared.Operand.TheVariants.{Reg, Mem as MemOperand}
use Rattle.x86_values.specs.declared.Instr.{Instr}
use Rattle.x86_values.specs.Operands.{is_absent}
use Rattle.instruction_parts.specs.declared.row_types.Row.{Row}
use Rattle.instruction_parts.specs.declared.row_types.Class.{Class}
use Rattle.instruction_parts.specs.declared.row_types.Class.TheVariants.{Any as AnyClass}
use Rattle.instruction_parts.specs.declared.row_types.Map.{Map}
use Rattle.instruction_parts.specs.declared.row_types.Map.TheVariants.{One}
use Rattle.instruction_parts.specs.declared.row_types.Plus.{Plus}
use Rattle.instruction_parts.specs.declared.row_types.Plus.TheVariants.{Register as PlusRegister}
use Rattle.instruction_parts.specs.declared.row_types.ModRmRule.{ModRmRule}
use Rattle.instruction_parts.specs.declared.row_types.ModRmRule.TheVariants.{No as NoModRm, Any as AnyModRm}
use Rattle.instruction_parts.specs.declared.row_types.Place.{Place}
use Rattle.instruction_parts.specs.declared.row_types.Place.TheVariants.{Any as AnyPlace, Register as OnlyRegister}
use Rattle.instruction_parts.specs.declared.row_types.Size.{Size}
use Rattle.instruction_parts.specs.declared.row_types.Size.TheVariants.{O32, O64}
use Rattle.instruction_parts.specs.declared.row_types.OpKind.{OpKind}
use Rattle.instruction_parts.specs.declared.row_types.OpKind.TheVariants.{Absent as NoKind, Ev, Gv, M}
use Rattle.instruction_parts.specs.Bytes.{bytes_of, bit}
use Rattle.instruction_parts.specs.Sizes.{is_vex_row, has_address_mark, has_caret, has_bang}
use Rattle.row_fit.specs.Fits.{kind_at, is_no_repeat}
use Rattle.plain_spelling.specs.Forms.{operand_at}
use Rattle.plain_spelling.specs.PlainTail.{plain_spelling}
use Rattle.plain_spelling.specs.Values.{low_bytes}
use Rattle.plain_spelling.specs.Addresses.{mode_of_count}
use Rattle.plain_spelling.specs.Expressible.{failure}
use Rattle.encoder.specs.Encoding.{encoded_by}

-- ---- what is tested of fields

-- no condition on prefixes
abbrev pub is_any_class : Class → Bool
is_any_class AnyClass = true
is_any_class _ = false

-- no escape byte
abbrev pub is_first_map : Map → Bool
is_first_map One = true
is_first_map _ = false

-- any ModRM byte
abbrev pub is_any_modrm : ModRmRule → Bool
is_any_modrm AnyModRm = true
is_any_modrm _ = false

-- no ModRM byte
abbrev pub is_no_modrm : ModRmRule → Bool
is_no_modrm NoModRm = true
is_no_modrm _ = false

-- a register is added to the opcode byte
abbrev pub adds_register : Plus → Bool
adds_register PlusRegister = true
adds_register _ = false

-- an address size of 64
abbrev pub is_quad_address : Option Bits → Bool
is_quad_address (Some B64) = true
is_quad_address _ = false

-- r/m is not limited to registers
abbrev pub allows_memory : Place → Bool
allows_memory OnlyRegister = false
allows_memory _ = true

-- r/m is not limited
abbrev pub is_any_place : Place → Bool
is_any_place AnyPlace = true
is_any_place _ = false

-- no operand
abbrev pub is_nothing : OpKind → Bool
is_nothing NoKind = true
is_nothing _ = false

-- the operand size is 64
abbrev pub is_quad : Size → Bool
is_quad O64 = true
is_quad _ = false

-- the width of the general registers of a size, where it is 64 or 32 bits: whether it is 64
abbrev pub width_of : Size → Option Bool
width_of O64 = Some true
width_of O32 = Some false
width_of _ = None

-- ---- shapes

-- no LOCK, repeat prefix or segment, a legacy row without a condition on prefixes, and no third and fourth operand
unfoldable pub is_bare : Row → Instr → Bool
is_bare row i =
    not i.lock && (is_none i.seg && (is_no_repeat i.rep && (not (is_vex_row row) && (is_any_class row.class
    && (is_nothing (kind_at row 2) && (is_nothing (kind_at row 3) && (is_absent (operand_at i 2) && is_absent (operand_at i 3))))))))

-- any ModRM behind one opcode byte, and an operand size that a REX.W alone sets
unfoldable pub has_plain_modrm : Row → Bool
has_plain_modrm row =
    is_any_modrm row.modrm && (is_first_map row.map && not (has_address_mark row || (has_caret row || has_bang row)))

-- such a row that does not limit r/m, without an address size
unfoldable pub takes_registers : Row → Instr → Bool
takes_registers row i = has_plain_modrm row && (is_any_place row.place && is_none i.asize)

-- such a row that does not limit r/m to registers, with an address size of 64
unfoldable pub takes_memory : Row → Instr → Bool
takes_memory row i = has_plain_modrm row && (allows_memory row.place && is_quad_address i.asize)

-- one operand alone at an operand size of 64, without a ModRM and an address size
unfoldable pub is_alone : Row → Instr → Bool
is_alone row i =
    is_no_modrm row.modrm && (is_quad row.size && (not (has_address_mark row) && (is_none i.asize
    && (is_nothing (kind_at row 1) && is_absent (operand_at i 1)))))

-- the operand size is 64 without a REX.W
unfoldable pub is_quad_by_mark : Row → Bool
is_quad_by_mark row = has_caret row || has_bang row

-- the number of a general register of 64 or of 32 bits
unfoldable pub sized_number : Bool → Register → Option ℕ
sized_number true (R64 n) = if nat_lt n 16 then Some n else None
sized_number false (R32 n) = if nat_lt n 16 then Some n else None
sized_number _ _ = None

-- the number of a general register of 64 bits that is a base
abbrev pub quad_base : Option Register → Option ℕ
quad_base (Some (R64 n)) = Some n
quad_base _ = None

-- the REX of a width, of the register in ModRM.reg and of the one in r/m or the opcode byte
unfoldable pub rex_of : Bool → ℕ → ℕ → Option ℕ
rex_of wide reg rm =
    if wide || (nat_le 8 reg || nat_le 8 rm) then Some (0x40 + (bit wide * 8 + (bit (nat_le 8 reg) * 4 + bit (nat_le 8 rm)))) else None

-- the first two operands and their kinds
pub record AreFirst (row : Row) (i : Instr) (k0 k1 : OpKind) (first second : Operand) : Type 0 where
  pub first_kind : kind_at row 0 ≡ k0
  pub second_kind : kind_at row 1 ≡ k1
  pub first_is : operand_at i 0 ≡ first
  pub second_is : operand_at i 1 ≡ second

-- of the first two operands one is a register that is read from ModRM.reg, and the other is memory in r/m
abbrev pub IsBesideMemory : Row → Instr → Register → Mem → Type 0
IsBesideMemory row i reg m =
    AreFirst row i Ev Gv (MemOperand m) (Reg reg) ⊎ (AreFirst row i Gv Ev (Reg reg) (MemOperand m) ⊎ AreFirst row i Gv M (Reg reg) (MemOperand m))

-- the ModRM byte of a register and a base, the SIB byte that a base of number 4 or 12 needs, and the displacement
unfoldable pub based_bytes : ℕ → ℕ → ℕ → ℕ → List ℕ
based_bytes reg base count disp =
    (mode_of_count count * 64 + reg % 8 * 8 + base % 8) ∷ ((if base % 8 == 4 then 0x24 ∷ [] else []) ++ low_bytes count disp)

-- ---- what is written

-- these bytes are the encoding of the instruction at each address of 64-bit mode
abbrev pub IsEncoded : Row → Instr → List ℕ → Type 0
IsEncoded row i bytes = (ip : ℕ) → Ok bytes ≡ encoded_by (failure B64 ip row i) (bytes_of row (plain_spelling B64 ip row i))
