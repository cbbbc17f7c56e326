-- When a spelling fits a row: eleven conditions, each of them a test (Intel SDM volume 2, 2.1 to 2.3).
use Rattle.std.specs.Prelude.{ℕ, ◌+◌, ◌*◌, ◌%◌, Bool, true, false, ◌&&◌, ◌||◌, not, ◌==◌, nat_le, nat_lt, if◌then◌else◌, List, length, Option, Some, None, is_some, is_none, IsTrue, slice_index_or}
use Rattle.std.specs.List.{list_any, list_all}
use Rattle.x86_values.specs.declared.Bits.{Bits}
use Rattle.x86_values.specs.declared.Rep.{Rep}
use Rattle.x86_values.specs.declared.Rep.TheVariants.{None as NoRep, F2 as RepF2, F3 as RepF3}
use Rattle.instruction_parts.specs.declared.row_types.Row.{Row}
use Rattle.instruction_parts.specs.declared.row_types.Map.{Map}
use Rattle.instruction_parts.specs.declared.row_types.Map.TheVariants.{One, M0f, M0f38, M0f3a}
use Rattle.instruction_parts.specs.declared.row_types.Class.{Class}
use Rattle.instruction_parts.specs.declared.row_types.Class.TheVariants.{Any as AnyClass, Np, Nfx, Nf3, P66, F3 as ClassF3, F2 as ClassF2}
use Rattle.instruction_parts.specs.declared.row_types.Plus.{Plus}
use Rattle.instruction_parts.specs.declared.row_types.Plus.TheVariants.{Register as PlusRegister, Stack as PlusStack}
use Rattle.instruction_parts.specs.declared.row_types.ModRmRule.{ModRmRule}
use Rattle.instruction_parts.specs.declared.row_types.ModRmRule.TheVariants.{No as NoModRm, Any as AnyModRm, Digit, Fixed as FixedByte}
use Rattle.instruction_parts.specs.declared.row_types.Place.{Place}
use Rattle.instruction_parts.specs.declared.row_types.Place.TheVariants.{Any as AnyPlace, Memory, Register as OnlyRegister}
use Rattle.instruction_parts.specs.declared.row_types.Size.{Size}
use Rattle.instruction_parts.specs.declared.row_types.Size.TheVariants.{None as NoSize, O16, O32, O32or64, O64, W0 as SizeW0, W1 as SizeW1}
use Rattle.instruction_parts.specs.declared.row_types.WBit.TheVariants.{W0, W1}
use Rattle.instruction_parts.specs.declared.row_types.LBit.{LBit}
use Rattle.instruction_parts.specs.declared.row_types.LBit.TheVariants.{L128, L256, Lz}
use Rattle.instruction_parts.specs.declared.row_types.OpKind.{OpKind}
use Rattle.instruction_parts.specs.declared.row_types.OpKind.TheVariants.{Absent, Sw, Cn, Dn}
use Rattle.instruction_parts.specs.declared.kinds.Method.{Method}
use Rattle.instruction_parts.specs.declared.kinds.Method.TheVariants.{RegisterOrMemory, RegisterOnly, MemoryOnly, AnyMode, Vvvv, Gather, Offset}
use Rattle.instruction_parts.specs.declared.kinds.Width.TheVariants.{Bytes, OperandSize as OperandSizeWidth, WordOrDword as WordOrDwordWidth, PointerOfSize as PointerOfSizeWidth}
use Rattle.instruction_parts.specs.declared.spelling.Vex.{Vex}
use Rattle.instruction_parts.specs.declared.spelling.ModRm.{ModRm}
use Rattle.instruction_parts.specs.declared.spelling.Sib.{Sib}
use Rattle.instruction_parts.specs.declared.spelling.Spelling.{Spelling}
use Rattle.instruction_parts.specs.declared.spelling.PrefixState.{PrefixState}
use Rattle.instruction_parts.specs.Kinds.{method_of, immediate_width}
use Rattle.instruction_parts.specs.Counting.{is_16, is_32, is_64, is_prefix}
use Rattle.instruction_parts.specs.Sizes.{exists_in, is_lockable, is_vex_row, state_size, state_address_size, size_bytes, bit_r, bit_x, bit_b, bit_w}
use Rattle.instruction_parts.specs.Bytes.{state_of, modrm_byte, bit}
use Rattle.instruction_parts.specs.Front.{forbids_vex}

-- ---- tests of the parts of a row

-- the one-byte map
abbrev pub is_map_one : Map → Bool
is_map_one map = elim map [ One ↦ true | _ ↦ false ]

-- two maps are one
abbrev pub same_map : Map → Map → Bool
same_map One One = true
same_map M0f M0f = true
same_map M0f38 M0f38 = true
same_map M0f3a M0f3a = true
same_map _ _ = false

-- no repeat prefix counts
abbrev pub is_no_repeat : Rep → Bool
is_no_repeat rep = elim rep [ NoRep ↦ true | _ ↦ false ]

-- F3 counts
abbrev pub is_repeat_f3 : Rep → Bool
is_repeat_f3 rep = elim rep [ RepF3 ↦ true | _ ↦ false ]

-- F2 counts
abbrev pub is_repeat_f2 : Rep → Bool
is_repeat_f2 rep = elim rep [ RepF2 ↦ true | _ ↦ false ]

-- some operand of the row is read so
abbrev pub reads_by : (Method → Bool) → Row → Bool
reads_by p row = list_any (λ kind. p (method_of kind)) row.ops

-- read by r/m whatever mod is
abbrev pub is_any_mode : Method → Bool
is_any_mode how = elim how [ AnyMode ↦ true | _ ↦ false ]

-- read from vvvv
abbrev pub is_vvvv : Method → Bool
is_vvvv how = elim how [ Vvvv ↦ true | _ ↦ false ]

-- memory by r/m whose index is a vector register
abbrev pub is_gather : Method → Bool
is_gather how = elim how [ Gather ↦ true | _ ↦ false ]

-- memory at an absolute address behind the opcode byte
abbrev pub is_offset : Method → Bool
is_offset how = elim how [ Offset ↦ true | _ ↦ false ]

-- the row reads ModRM.mod: all do but the moves to and from control and debug registers (MOV to and from control registers, debug registers)
unfoldable pub reads_mode : Row → Bool
reads_mode row = not (reads_by is_any_mode row)

-- both hold, or neither
abbrev pub same_bool : Bool → Bool → Bool
same_bool true b = b
same_bool false b = not b

-- ---- fields

-- a test of the ModRM byte, false without one
abbrev pub has_modrm : (ModRm → Bool) → Option ModRm → Bool
has_modrm p None = false
has_modrm p (Some m) = p m

-- mod says memory
abbrev pub has_memory_mode : Option ModRm → Bool
has_memory_mode m = has_modrm (λ m. nat_lt m.mode3 3) m

-- reg is 0
abbrev pub has_reg_zero : Option ModRm → Bool
has_reg_zero m = has_modrm (λ m. m.reg == 0) m

-- a number with the bit that adds 8 to it
abbrev pub with_high_bit : Bool → ℕ → ℕ
with_high_bit b n = bit b * 8 + n

-- the field reg of a ModRM, 0 without one
abbrev pub reg_field : Option ModRm → ℕ
reg_field None = 0
reg_field (Some m) = m.reg

-- the field rm of a ModRM, 0 without one
abbrev pub rm_field : Option ModRm → ℕ
rm_field None = 0
rm_field (Some m) = m.rm

-- the number in ModRM.reg, to which R adds 8 (2.2.1.2)
unfoldable pub reg_number : PrefixState → Option ModRm → ℕ
reg_number state m = with_high_bit (bit_r state) (reg_field m)

-- the number in ModRM.rm, to which B adds 8 (2.2.1.2)
unfoldable pub rm_number : Bits → PrefixState → Option ModRm → ℕ
rm_number bits state m = with_high_bit (bit_b bits state) (rm_field m)

-- the number in vvvv, of which outside 64-bit mode the top bit is ignored (2.3.5.6)
unfoldable pub vvvv_number : Bits → PrefixState → ℕ
vvvv_number bits state =
    elim state.vex [ None ↦ 0 | Some v ↦ (if is_64 bits then v.vvvv else v.vvvv % 8) ]

-- the number in SIB.index, to which X adds 8; without a SIB the field is 0 (2.2.1.2)
unfoldable pub index_number : PrefixState → Option Sib → ℕ
index_number state sib = with_high_bit (bit_x state) (elim sib [ None ↦ 0 | Some s ↦ s.index ])

-- ---- 1. the row exists in the mode

-- the modes of the row have it
abbrev pub mode_fits : Bits → Row → Bool
mode_fits bits row = exists_in bits row

-- ---- 2. each prefix byte is one of the mode

-- legacy prefixes, and in 64-bit mode REX
unfoldable pub prefixes_fit : Bits → List ℕ → Bool
prefixes_fit bits prefixes = list_all (is_prefix bits) prefixes

-- ---- 3. the prefix class

-- on legacy rows it is a condition on 66 and the counting repeat prefix: NP has none of them, NFx no repeat prefix, NF3 no F3, 66 has 66 and no repeat prefix, F3 and F2 have that one (3.1.1.1)
unfoldable pub legacy_class_fits : Class → PrefixState → Bool
legacy_class_fits AnyClass state = true
legacy_class_fits Np state = not state.size66 && is_no_repeat state.rep
legacy_class_fits Nfx state = is_no_repeat state.rep
legacy_class_fits Nf3 state = not (is_repeat_f3 state.rep)
legacy_class_fits P66 state = state.size66 && is_no_repeat state.rep
legacy_class_fits ClassF3 state = is_repeat_f3 state.rep
legacy_class_fits ClassF2 state = is_repeat_f2 state.rep

-- on VEX rows it names the value of pp: none, 66, F3 and F2 are 0 to 3 (2.3.6.3, 3.1.1.2)
unfoldable pub vex_class_fits : Class → Vex → Bool
vex_class_fits Np v = v.pp == 0
vex_class_fits P66 v = v.pp == 1
vex_class_fits ClassF3 v = v.pp == 2
vex_class_fits ClassF2 v = v.pp == 3
vex_class_fits _ v = false

-- by the legacy prefixes on legacy rows, by pp on VEX rows (3.1.1.1)
unfoldable pub class_fits : Row → PrefixState → Bool
class_fits row state =
    elim state.vex [ None ↦ legacy_class_fits row.class state | Some v ↦ vex_class_fits row.class v ]

-- ---- 4. VEX

-- outside 64-bit mode the top two bits behind C4 or C5 are 11, by which it is a VEX (2.3.5.1)
unfoldable pub is_vex_of_mode : Bits → Vex → Bool
is_vex_of_mode bits v =
    is_64 bits || (not v.r && (if v.three then not v.x else nat_lt v.vvvv 8))

-- the byte can stand as opcode byte of a map in a mode: it is no prefix, no escape byte and not what is left out
unfoldable pub is_opcode : Bits → Map → ℕ → Bool
is_opcode bits One b = not (is_prefix bits b) && (not (b == 0x0F) && not (is_64 bits && b == 0x62))
is_opcode bits M0f b = not (b == 0x0F) && (not (b == 0x38) && not (b == 0x3A))
is_opcode bits _ b = true

-- C4 and C5 are an opcode byte only outside 64-bit mode and with memory, 62 with memory, and 8F with reg 0 (2.3.5.1; LDS, BOUND and POP)
unfoldable pub opcode_allows : Bits → Map → ℕ → Option ModRm → Bool
opcode_allows bits One b m =
    (not (b == 0xC4 || b == 0xC5) || (not (is_64 bits) && has_memory_mode m))
    && ((not (b == 0x62) || has_memory_mode m) && (not (b == 0x8F) || has_reg_zero m))
opcode_allows bits _ b m = true

-- a legacy row's opcode byte is taken as one
unfoldable pub opcode_is_kept : Bits → Map → ℕ → Option ModRm → Bool
opcode_is_kept bits map b m = is_opcode bits map b && opcode_allows bits map b m

-- a VEX stands exactly on VEX rows, has the row's map, stands where it may, and is one in the mode (2.3.2 to 2.3.5)
unfoldable pub vex_fits : Bits → Row → List ℕ → Option Vex → ℕ → Option ModRm → Bool
vex_fits bits row prefixes None opcode m = not (is_vex_row row) && opcode_is_kept bits row.map opcode m
vex_fits bits row prefixes (Some v) opcode m =
    is_vex_row row && (same_map v.map row.map && (not (forbids_vex bits prefixes) && is_vex_of_mode bits v))

-- ---- 5. the opcode byte and ModRM

-- the opcode byte, or one of eight with an added register (3.1.1.1)
unfoldable pub opcode_fits : Row → ℕ → Bool
opcode_fits row opcode =
    elim row.plus [
      | PlusRegister ↦ nat_le row.opcode opcode && nat_lt opcode (row.opcode + 8)
      | _ ↦ opcode == row.opcode
    ]

-- a fixed ModRM byte, or one of eight with an added stack number (3.1.1.1, +i)
abbrev pub is_fixed_byte : Plus → ℕ → ModRm → Bool
is_fixed_byte PlusStack b m = m.mode3 * 64 + m.reg * 8 == b
is_fixed_byte _ b m = modrm_byte m == b

-- ModRM stands exactly on the rows that have one, with the digit or the fixed byte (3.1.1.1, /r and /digit)
unfoldable pub modrm_rule_fits : Plus → ModRmRule → Option ModRm → Bool
modrm_rule_fits plus NoModRm m = is_none m
modrm_rule_fits plus AnyModRm m = is_some m
modrm_rule_fits plus (Digit d) m = has_modrm (λ m. m.reg == d) m
modrm_rule_fits plus (FixedByte b) m = has_modrm (is_fixed_byte plus b) m

-- the limit to register or memory, by ModRM.mod (2.1.5)
unfoldable pub place_allows : Place → ModRm → Bool
place_allows AnyPlace m = true
place_allows Memory m = nat_lt m.mode3 3
place_allows OnlyRegister m = m.mode3 == 3

-- the limit that an operand's kind sets by itself
abbrev pub place_of : Method → Place
place_of RegisterOnly = OnlyRegister
place_of MemoryOnly = Memory
place_of Gather = Memory
place_of _ = AnyPlace

-- the limit of the row, and of each of its kinds
unfoldable pub place_fits : Row → Option ModRm → Bool
place_fits row None = true
place_fits row (Some m) =
    place_allows row.place m && list_all (λ kind. place_allows (place_of (method_of kind)) m) row.ops

-- the opcode byte, the rule of ModRM, and the limits to register or memory
unfoldable pub opcode_and_modrm_fit : Row → ℕ → Option ModRm → Bool
opcode_and_modrm_fit row opcode m =
    opcode_fits row opcode && (modrm_rule_fits row.plus row.modrm m && place_fits row m)

-- ---- 6. operand size, W and L

-- the operand size or W that the row asks for; W is ignored outside 64-bit mode (2.2.1.2)
unfoldable pub size_fits : Bits → Size → Bits → Bool → Bool
size_fits bits NoSize size w = true
size_fits bits O16 size w = is_16 size
size_fits bits O32 size w = is_32 size
size_fits bits O64 size w = is_64 size
size_fits bits O32or64 size w = not (is_16 size)
size_fits bits SizeW0 size w = not w
size_fits bits SizeW1 size w = w

-- the row's own W is read in every mode only where the row does not take W as a size
abbrev pub takes_w_as_size : Size → Bool
takes_w_as_size SizeW0 = true
takes_w_as_size SizeW1 = true
takes_w_as_size _ = false

-- W of the notation, as a VEX stores it, in every mode (3.1.1.2)
unfoldable pub w_fits : Row → Vex → Bool
w_fits row v =
    takes_w_as_size row.size || elim row.w [ W0 ↦ not v.w | W1 ↦ v.w | _ ↦ true ]

-- L of the notation: 128 and LZ are 0, 256 is 1 (2.3.6.2, 3.1.1.2)
unfoldable pub l_fits : LBit → Vex → Bool
l_fits L128 v = not v.l
l_fits L256 v = v.l
l_fits Lz v = not v.l
l_fits _ v = true

-- the operand size or W that the row asks for, and W and L of its notation
unfoldable pub sizes_fit : Bits → Row → PrefixState → Bool
sizes_fit bits row state =
    size_fits bits row.size (state_size bits row state) (bit_w bits state)
    && elim state.vex [ None ↦ true | Some v ↦ w_fits row v && l_fits row.l v ]

-- ---- 7. a vvvv that the row does not use is stored as 1111

-- without an operand in vvvv it is 0, which is stored as 1111 (2.3.5.6)
unfoldable pub vvvv_fits : Row → PrefixState → Bool
vvvv_fits row state =
    elim state.vex [ None ↦ true | Some v ↦ v.vvvv == 0 || reads_by is_vvvv row ]

-- ---- 8. SIB, displacement and immediates (tables 2-1 to 2-3)

-- a SIB stands where rm is 4 with mod other than 3, in 32 and 64-bit addressing (2.1.5, table 2-2)
unfoldable pub needs_sib : Bits → ModRm → Bool
needs_sib asize m = not (is_16 asize) && (nat_lt m.mode3 3 && m.rm == 4)

-- the base field of a SIB, 0 without one
abbrev pub base_field : Option Sib → ℕ
base_field None = 0
base_field (Some s) = s.base

-- mod 0 has a displacement alone: with rm 6 in 16-bit addressing, else with rm 5, or base 5 of a SIB (2.1.5, tables 2-1 to 2-3)
unfoldable pub is_displacement_alone : Bits → ModRm → Option Sib → Bool
is_displacement_alone asize m sib =
    m.mode3 == 0
    && (if is_16 asize then m.rm == 6 else m.rm == 5 || (m.rm == 4 && base_field sib == 5))

-- the bytes of a displacement of full length: 2 in 16-bit addressing, else 4 (2.2.1.3)
abbrev pub full_displacement : Bits → ℕ
full_displacement asize = if is_16 asize then 2 else 4

-- the bytes of the displacement that ModRM and SIB ask for: mod 1 has one, mod 2 the full length (2.1.5)
unfoldable pub displacement_bytes : Bits → ModRm → Option Sib → ℕ
displacement_bytes asize m sib =
    if is_displacement_alone asize m sib then full_displacement asize
    else (if m.mode3 == 1 then 1 else (if m.mode3 == 2 then full_displacement asize else 0))

-- SIB and displacement are as long as ModRM asks for; an absolute address has the address size (2.2.1.4)
unfoldable pub address_fits : Bits → Row → Option ModRm → Option Sib → ℕ → Bool
address_fits asize row None sib given =
    is_none sib && given == (if reads_by is_offset row then size_bytes asize else 0)
address_fits asize row (Some m) sib given =
    if reads_mode row then same_bool (is_some sib) (needs_sib asize m) && given == displacement_bytes asize m sib
    else is_none sib && given == 0

-- the bytes that an operand has behind the instruction, by operand size (A.2.2)
unfoldable pub immediate_bytes : Bits → OpKind → ℕ
immediate_bytes size kind =
    elim (immediate_width kind) [
      | Bytes n ↦ n
      | OperandSizeWidth ↦ size_bytes size
      | WordOrDwordWidth ↦ (if is_16 size then 2 else 4)
      | PointerOfSizeWidth ↦ (if is_16 size then 4 else 6)
      | _ ↦ 0
    ]

-- the kind of operand n
abbrev pub kind_at : Row → ℕ → OpKind
kind_at row n = slice_index_or row.ops n Absent

-- the bytes of all immediates
unfoldable pub immediates_bytes : Bits → Row → ℕ
immediates_bytes size row =
    immediate_bytes size (kind_at row 0) + (immediate_bytes size (kind_at row 1)
    + (immediate_bytes size (kind_at row 2) + immediate_bytes size (kind_at row 3)))

-- SIB and displacement are those of the ModRM, and the immediates are as long as the operands ask
unfoldable pub lengths_fit : Bits → Row → PrefixState → Option ModRm → Option Sib → ℕ → ℕ → Bool
lengths_fit bits row state m sib disp imm =
    address_fits (state_address_size bits state) row m sib disp
    && imm == immediates_bytes (state_size bits row state) row

-- ---- 9. LOCK stands only on lockable rows with a memory operand first

-- the operand is memory
unfoldable pub is_memory_method : Method → Option ModRm → Bool
is_memory_method RegisterOrMemory m = has_modrm (λ m. nat_lt m.mode3 3) m
is_memory_method MemoryOnly m = true
is_memory_method Gather m = true
is_memory_method Offset m = true
is_memory_method _ m = false

-- LOCK stands only on lockable rows whose first operand is memory
unfoldable pub lock_fits : Row → PrefixState → Option ModRm → Bool
lock_fits row state m =
    not state.lock || (is_lockable row && is_memory_method (method_of (kind_at row 0)) m)

-- ---- 10. registers

-- CR0, CR2, CR3, CR4 and, in 64-bit mode, CR8 (2.2.2; MOV to and from control registers)
unfoldable pub is_control_number : Bits → ℕ → Bool
is_control_number bits n = n == 0 || n == 2 || n == 3 || n == 4 || (is_64 bits && n == 8)

-- the register in ModRM.reg is one that the kind names: one of six segment registers, a control register, and no debug register with R (2.2.2)
unfoldable pub register_fits : Bits → PrefixState → Option ModRm → OpKind → Bool
register_fits bits state m Sw = nat_lt (reg_field m) 6
register_fits bits state m Cn = is_control_number bits (reg_number state m)
register_fits bits state m Dn = not (bit_r state)
register_fits bits state m _ = true

-- a segment register that is written is not CS (MOV)
unfoldable pub destination_fits : Row → Option ModRm → Bool
destination_fits row m = elim (kind_at row 0) [ Sw ↦ not (reg_field m == 1) | _ ↦ true ]

-- a gather has 32 or 64-bit addressing and a SIB, and the numbers of its destination, index and mask differ pairwise (2.3.12)
unfoldable pub gather_fits : Bits → PrefixState → Option ModRm → Option Sib → Bool
gather_fits bits state m sib =
    has_modrm (λ m. needs_sib (state_address_size bits state) m) m
    && (not (reg_number state m == index_number state sib)
    && (not (reg_number state m == vvvv_number bits state)
    && not (index_number state sib == vvvv_number bits state)))

-- the opcode byte 90 of the one-byte map: NOP has B 0, XCHG has B 1 and no counting F3, PAUSE does not read B (NOP, XCHG, PAUSE)
unfoldable pub nop_fits : Bits → Row → PrefixState → Bool
nop_fits bits row state =
    elim row.plus [
      | PlusRegister ↦ bit_b bits state && not (is_repeat_f3 state.rep)
      | _ ↦ elim row.class [ ClassF3 ↦ true | _ ↦ not (bit_b bits state) ]
    ]

-- the byte is 90 of the one-byte map
abbrev pub is_nop_byte : Row → ℕ → Bool
is_nop_byte row opcode = not (is_vex_row row) && (is_map_one row.map && opcode == 0x90)

-- each register exists, and the destination, a gather and the byte 90 have their own conditions
unfoldable pub registers_fit : Bits → Row → PrefixState → Option ModRm → Option Sib → Bool
registers_fit bits row state m sib =
    list_all (register_fits bits state m) row.ops
    && (destination_fits row m
    && ((not (reads_by is_gather row) || gather_fits bits state m sib)
    && (not (is_nop_byte row state.opcode) || nop_fits bits row state)))

-- ---- 11. each part is a value of its field

-- each is below 256
abbrev pub are_bytes : List ℕ → Bool
are_bytes bytes = list_all (λ b. nat_lt b 256) bytes

-- vvvv is below 16 and pp below 4; a two-byte VEX has x, b and w 0 and the map 0F, and no VEX has the one-byte map (2.3.5)
unfoldable pub vex_in_range : Option Vex → Bool
vex_in_range None = true
vex_in_range (Some v) =
    nat_lt v.vvvv 16 && (nat_lt v.pp 4 && (not (is_map_one v.map)
    && (v.three || (not v.x && (not v.b && (not v.w && same_map v.map M0f))))))

-- mod is below 4, reg and rm below 8
unfoldable pub modrm_in_range : Option ModRm → Bool
modrm_in_range None = true
modrm_in_range (Some m) = nat_lt m.mode3 4 && (nat_lt m.reg 8 && nat_lt m.rm 8)

-- scale is below 4, index and base below 8
unfoldable pub sib_in_range : Option Sib → Bool
sib_in_range None = true
sib_in_range (Some s) = nat_lt s.scale 4 && (nat_lt s.index 8 && nat_lt s.base 8)

-- all parts of a spelling
unfoldable pub fields_in_range : Spelling → Bool
fields_in_range s =
    are_bytes s.prefixes.items && (vex_in_range s.vex && (nat_lt s.opcode 256
    && (modrm_in_range s.modrm && (sib_in_range s.sib && (are_bytes s.disp.items && are_bytes s.imm.items)))))

-- ---- all of them

-- the conditions that the opcode byte's row and state set on what stands behind it
unfoldable pub tail_fits : Bits → Row → PrefixState → Option ModRm → Option Sib → ℕ → ℕ → Bool
tail_fits bits row state m sib disp imm =
    opcode_and_modrm_fit row state.opcode m && (lengths_fit bits row state m sib disp imm
    && (lock_fits row state m && registers_fit bits row state m sib))

-- the conditions that the state alone decides
unfoldable pub state_fits : Bits → Row → PrefixState → Bool
state_fits bits row state =
    mode_fits bits row && (class_fits row state && (sizes_fit bits row state && vvvv_fits row state))

-- the spelling fits the row in the mode: all eleven conditions hold
unfoldable pub fits : Bits → Row → Spelling → Bool
fits bits row s =
    let state = state_of bits row s in
    state_fits bits row state
    && (prefixes_fit bits s.prefixes.items
    && (vex_fits bits row s.prefixes.items s.vex s.opcode s.modrm
    && (tail_fits bits row state s.modrm s.sib (length s.disp.items) (length s.imm.items)
    && fields_in_range s)))

-- what it is for a spelling to fit a row in a mode, with a name for each condition
pub record Fits (bits : Bits) (row : Row) (s : Spelling) : Type 0 where
  pub mode : IsTrue (mode_fits bits row)
  pub prefixes : IsTrue (prefixes_fit bits s.prefixes.items)
  pub class : IsTrue (class_fits row (state_of bits row s))
  pub vex : IsTrue (vex_fits bits row s.prefixes.items s.vex s.opcode s.modrm)
  pub opcode : IsTrue (opcode_and_modrm_fit row s.opcode s.modrm)
  pub sizes : IsTrue (sizes_fit bits row (state_of bits row s))
  pub vvvv : IsTrue (vvvv_fits row (state_of bits row s))
  pub lengths : IsTrue (lengths_fit bits row (state_of bits row s) s.modrm s.sib (length s.disp.items) (length s.imm.items))
  pub lock : IsTrue (lock_fits row (state_of bits row s) s.modrm)
  pub registers : IsTrue (registers_fit bits row (state_of bits row s) s.modrm s.sib)
  pub ranges : IsTrue (fields_in_range s)
