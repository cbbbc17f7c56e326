-- What the effects of every row keep to.
use Rattle.std.specs.Prelude.{ℕ, ◌/◌, ◌%◌, ◌==◌, nat_le, Bool, true, false, not, ◌&&◌, ◌||◌, if◌then◌else◌, List, [], ◌∷◌, codes, Option, Some, None}
use Rattle.x86_values.specs.declared.Instr.{Instr}
use Rattle.x86_values.specs.declared.Bits.{Bits}
use Rattle.instruction_parts.specs.declared.row_types.Row.{Row}
use Rattle.instruction_parts.specs.declared.row_types.OpKind.TheVariants.{One as ByOne}
use Rattle.instruction_parts.specs.declared.row_types.Map.{Map}
use Rattle.instruction_parts.specs.declared.row_types.Map.TheVariants.{One, M0f}
use Rattle.instruction_parts.specs.declared.row_types.ModRmRule.{ModRmRule}
use Rattle.instruction_parts.specs.declared.row_types.ModRmRule.TheVariants.{Fixed}
use Rattle.instruction_parts.specs.Sizes.{is_vex_row}
use Rattle.row_fit.specs.Fits.{kind_at}
use Rattle.operand_info.specs.declared.columns.Flow.{Flow}
use Rattle.operand_info.specs.declared.columns.Flow.TheVariants.{Call, IndirectCall, Return}
use Rattle.operand_info.specs.Names.{is_one_of}
use Rattle.instruction_info.specs.declared.effect.AccessKind.{AccessKind}
use Rattle.instruction_info.specs.declared.effect.AccessKind.TheVariants.{Read, Write, ReadConditionalWrite}
use Rattle.instruction_info.specs.declared.effect.RegisterGroup.{RegisterGroup}
use Rattle.instruction_info.specs.declared.effect.RegisterGroup.TheVariants as group
use Rattle.instruction_info.specs.declared.effect.SegmentRule.{SegmentRule}
use Rattle.instruction_info.specs.declared.effect.SegmentRule.TheVariants as rule
use Rattle.instruction_info.specs.declared.effect.ImpliedMemory.{ImpliedMemory}
use Rattle.instruction_info.specs.declared.registers.RegisterUse.{RegisterUse}
use Rattle.instruction_info.specs.Settings.{setting_of, register_of_size}

-- ---- conditions

-- the flags that a condition tests, by its number: O, B, E, BE, S, P, L and LE, each with its opposite (B.1.4.7)
abbrev pub tested_by : ℕ → ℕ
tested_by n =
    if n / 2 == 0 then 0x800
    else (if n / 2 == 1 then 0x1
    else (if n / 2 == 2 then 0x40
    else (if n / 2 == 3 then 0x41
    else (if n / 2 == 4 then 0x80
    else (if n / 2 == 5 then 0x4
    else (if n / 2 == 6 then 0x880
    else 0x8C0))))))

-- the flags that a move of the x87 unit tests, by its fixed ModRM byte: B, E, BE and U, each with its opposite (FCMOVcc)
abbrev pub tested_by_move : ModRmRule → Option ℕ
tested_by_move (Fixed b) =
    if b == 0xC0 then Some 0x1
    else (if b == 0xC8 then Some 0x40
    else (if b == 0xD0 then Some 0x41
    else (if b == 0xD8 then Some 0x4
    else None)))
tested_by_move _ = None

-- the flags that a legacy row of a place tests, where it is one of Jcc, SETcc, CMOVcc, FCMOVcc, LOOPcc, LOOP and JRCXZ (A.3, A.5.2)
abbrev pub tested_in : Map → ℕ → ModRmRule → Option ℕ
tested_in One op modrm =
    if op / 16 == 7 then Some (tested_by (op % 16))
    else (if op == 0xE0 || op == 0xE1 then Some 0x40
    else (if op == 0xE2 || op == 0xE3 then Some 0
    else (if op == 0xDA || op == 0xDB then tested_by_move modrm
    else None)))
tested_in M0f op modrm = if op / 16 == 4 || (op / 16 == 8 || op / 16 == 9) then Some (tested_by (op % 16)) else None
tested_in _ op modrm = None

-- the flags that a conditional row tests
unfoldable pub tested_flags : Row → Option ℕ
tested_flags row = if is_vex_row row then None else tested_in row.map row.opcode row.modrm

-- ---- the stack

-- the flow is that of a call
abbrev pub is_calling : Flow → Bool
is_calling Call = true
is_calling IndirectCall = true
is_calling _ = false

-- the flow is that of a return
abbrev pub is_returning : Flow → Bool
is_returning Return = true
is_returning _ = false

-- a return from a system call, which takes its target from registers
unfoldable pub is_system_return : List ℕ → Bool
is_system_return = is_one_of (codes "sysret" ∷ codes "sysexit" ∷ [])

-- the access is a write
abbrev pub is_write : AccessKind → Bool
is_write Write = true
is_write _ = false

-- the access is a read
abbrev pub is_read : AccessKind → Bool
is_read Read = true
is_read _ = false

-- the segment is that of the stack
abbrev pub is_stack : SegmentRule → Bool
is_stack rule.Stack = true
is_stack _ = false

-- slots of the stack that are written below its pointer
abbrev pub is_push : ImpliedMemory → Bool
is_push m = is_stack m.segment && (m.below && is_write m.access)

-- slots of the stack that are read from its pointer on
abbrev pub is_pop : ImpliedMemory → Bool
is_pop m = is_stack m.segment && (not m.below && is_read m.access)

-- the slots that a call pushes and a return pops: one of a near one, and two of a far one (CALL, RET)
unfoldable pub slots_of : List ℕ → Option ℕ
slots_of name =
    if is_one_of (codes "call" ∷ codes "ret" ∷ []) name then Some 1
    else (if is_one_of (codes "callf" ∷ codes "retf" ∷ []) name then Some 2 else None)

-- the register is the stack pointer
abbrev pub is_stack_pointer : RegisterGroup → ℕ → Bool
is_stack_pointer group.Stack n = n == 4
is_stack_pointer _ n = false

-- the memory is so many slots of the operand size at the stack pointer, in each mode
abbrev pub is_slots : ℕ → ImpliedMemory → Bool
is_slots count m = is_stack m.segment && (is_stack_pointer m.group m.number && (m.unit == 0 && (m.count == count && m.count64 == count)))

-- the memory is that and nothing else
abbrev pub are_slots : ℕ → List ImpliedMemory → Bool
are_slots count [] = false
are_slots count (m ∷ []) = is_slots count m
are_slots count (m ∷ n ∷ ms) = false

-- ---- flags of arithmetic

-- what a page says of the flags: those that are read, those that are written, those of them that become 0, those that are undefined, and those that a
-- count of 0 keeps
pub record PageFlags : Type 0 where
  pub read : ℕ
  pub written : ℕ
  pub cleared : ℕ
  pub undefined : ℕ
  pub kept : ℕ

-- CF is added, or rotated through (ADC, RCL, RCR, SBB)
unfoldable pub uses_carry : List ℕ → Bool
uses_carry = is_one_of (codes "adc" ∷ codes "rcl" ∷ codes "rcr" ∷ codes "sbb" ∷ [])

-- CF is read where it is added or rotated through, and else no flag
abbrev pub carry_read : List ℕ → ℕ
carry_read name = if uses_carry name then 0x1 else 0

-- these are written and no other is changed
abbrev pub only_written : List ℕ → ℕ → PageFlags
only_written name flags = record { read = carry_read name; written = flags; cleared = 0; undefined = 0; kept = 0 }

-- the second operand is the constant 1
abbrev pub is_by_one : Row → Bool
is_by_one row = elim (kind_at row 1) [ ByOne ↦ true | _ ↦ false ]

-- all six status flags are written: OF, SF, ZF, AF, PF and CF (ADC, ADD, CMP, CMPXCHG, NEG, SBB, SUB, XADD)
unfoldable pub is_arithmetic : List ℕ → Bool
is_arithmetic =
    is_one_of (codes "adc" ∷ codes "add" ∷ codes "cmp" ∷ codes "cmpxchg" ∷ codes "neg" ∷ codes "sbb" ∷ codes "sub" ∷ codes "xadd" ∷ [])

-- all of them but CF are written (DEC, INC)
unfoldable pub is_increment : List ℕ → Bool
is_increment = is_one_of (codes "dec" ∷ codes "inc" ∷ [])

-- OF and CF become 0, SF, ZF and PF are written, and AF is undefined (AND, OR, TEST, XOR)
unfoldable pub is_logic : List ℕ → Bool
is_logic = is_one_of (codes "and" ∷ codes "or" ∷ codes "test" ∷ codes "xor" ∷ [])

-- CF is written, and OF by 1, else undefined; a count of 0 keeps both (RCL, RCR, ROL, ROR)
unfoldable pub is_rotate : List ℕ → Bool
is_rotate = is_one_of (codes "rcl" ∷ codes "rcr" ∷ codes "rol" ∷ codes "ror" ∷ [])

-- CF, SF, ZF and PF are written, AF is undefined, and OF written by 1, else undefined; a count of 0 keeps all (SAL, SAR, SHL, SHR)
unfoldable pub is_shift : List ℕ → Bool
is_shift = is_one_of (codes "shl" ∷ codes "shr" ∷ [])

-- the same, but that OF becomes 0 by 1
unfoldable pub is_signed_shift : List ℕ → Bool
is_signed_shift = is_one_of (codes "sar" ∷ [])

abbrev pub rotate_flags : List ℕ → Bool → PageFlags
rotate_flags name true = only_written name 0x801
rotate_flags name false = record { read = carry_read name; written = 0x1; cleared = 0; undefined = 0x800; kept = 0x801 }

-- of a shift by 1 that clears these
abbrev pub shift_flags : ℕ → Bool → PageFlags
shift_flags cleared true = record { read = 0; written = 0x8C5; cleared = cleared; undefined = 0x10; kept = 0 }
shift_flags cleared false = record { read = 0; written = 0xC5; cleared = 0; undefined = 0x810; kept = 0x8D5 }

-- what the page of a row says of the flags, where it is one of these
unfoldable pub page_flags : List ℕ → Row → Option PageFlags
page_flags name row =
    if is_arithmetic name then Some (only_written name 0x8D5)
    else (if is_increment name then Some (only_written name 0x8D4)
    else (if is_logic name then Some (record { read = 0; written = 0x8C5; cleared = 0x801; undefined = 0x10; kept = 0 })
    else (if is_rotate name then Some (rotate_flags name (is_by_one row))
    else (if is_shift name then Some (shift_flags 0 (is_by_one row))
    else (if is_signed_shift name then Some (shift_flags 0x800 (is_by_one row))
    else None)))))

-- ---- strings

-- the opcode byte is that of a string instruction: INS, OUTS, MOVS, CMPS, STOS, LODS or SCAS
abbrev pub is_string_opcode : ℕ → Bool
is_string_opcode op = op / 4 == 0x1B || (op / 4 == 0x29 || (nat_le 0xAA op && nat_le op 0xAF))

-- the map is the one-byte map
abbrev pub is_one : Map → Bool
is_one One = true
is_one _ = false

-- the row is that of a string instruction, which a repeat prefix repeats (2.1.1, group 1)
unfoldable pub is_string_row : Row → Bool
is_string_row row = not (is_vex_row row) && (is_one row.map && is_string_opcode row.opcode)

-- the use of the counter of a repeat prefix
abbrev pub counter : Bits → Instr → RegisterUse
counter bits i = record { reg = register_of_size (setting_of bits i).address 1; access = ReadConditionalWrite }

-- ---- features

-- the features that only rows of version 2 need: PCLMULQDQ, FMA, AES and F16C
abbrev pub added_features : ℕ
added_features = 0x1209000
