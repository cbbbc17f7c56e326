-- What makes a spelling of a row plain, whoever made it: each prefix that is needed once and no other, and no field set that nothing
-- asks for (Intel SDM volume 2, 2.1 to 2.3).
use Rattle.std.specs.Prelude.{◌≡◌, ℕ, ◌%◌, Bool, true, false, ◌&&◌, ◌||◌, not, ◌==◌, nat_le, nat_lt, if◌then◌else◌, List, [], ◌∷◌, ◌++◌, slice_index, Option, Some, None, is_some, IsTrue}
use Rattle.std.specs.List.{list_any}
use Rattle.x86_values.specs.declared.Bits.{Bits}
use Rattle.x86_values.specs.declared.Segment.{Segment}
use Rattle.x86_values.specs.declared.Segment.TheVariants.{Es, Cs, Ss, Ds, Fs, Gs}
use Rattle.x86_values.specs.declared.Register.{Register}
use Rattle.x86_values.specs.declared.Rep.{Rep}
use Rattle.x86_values.specs.declared.Rep.TheVariants.{F2 as RepF2, F3 as RepF3}
use Rattle.x86_values.specs.declared.Operand.{Operand}
use Rattle.x86_values.specs.declared.Operand.TheVariants.{Reg, Mem as MemOperand}
use Rattle.instruction_parts.specs.declared.row_types.Row.{Row}
use Rattle.instruction_parts.specs.declared.row_types.Map.TheVariants.{M0f}
use Rattle.instruction_parts.specs.declared.row_types.Class.TheVariants.{P66, F3 as ClassF3, F2 as ClassF2}
use Rattle.instruction_parts.specs.declared.row_types.ModRmRule.TheVariants.{Any as AnyModRm, Digit}
use Rattle.instruction_parts.specs.declared.row_types.Place.TheVariants.{Register as OnlyRegister}
use Rattle.instruction_parts.specs.declared.row_types.Size.{Size}
use Rattle.instruction_parts.specs.declared.row_types.Size.TheVariants.{O16, O32, O32or64, O64, W1 as SizeW1}
use Rattle.instruction_parts.specs.declared.row_types.WBit.TheVariants.{W1}
use Rattle.instruction_parts.specs.declared.row_types.LBit.TheVariants.{L256}
use Rattle.instruction_parts.specs.declared.row_types.OpKind.{OpKind}
use Rattle.instruction_parts.specs.declared.kinds.Method.{Method}
use Rattle.instruction_parts.specs.declared.spelling.Vex.{Vex}
use Rattle.instruction_parts.specs.declared.spelling.ModRm.{ModRm}
use Rattle.instruction_parts.specs.declared.spelling.Sib.{Sib}
use Rattle.instruction_parts.specs.declared.spelling.Spelling.{Spelling}
use Rattle.instruction_parts.specs.declared.spelling.PrefixState.{PrefixState}
use Rattle.instruction_parts.specs.Kinds.{method_of}
use Rattle.instruction_parts.specs.Counting.{is_16, is_32, is_64, rex_bit}
use Rattle.instruction_parts.specs.Sizes.{is_vex_row, has_caret, has_bang, operand_size, state_size, shared_bit, bit_r, bit_x}
use Rattle.instruction_parts.specs.Bytes.{state_of}
use Rattle.row_fit.specs.Fits.{same_bool, same_map, reads_by, reads_mode, is_gather, is_repeat_f2, is_repeat_f3, has_modrm, reg_field, index_number, kind_at}
use Rattle.row_fit.specs.Sound.{reads_reg, reads_rm, reads_opcode, reads_last_byte}
use Rattle.row_meaning.specs.Meaning.{meaning, kept_repeat, kept_address_size, own_immediate}
use Rattle.x86_values.specs.Comparing.{same_bits}
use Rattle.plain_spelling.specs.PlainFront.{register_number, is_low_byte_of_rex}

-- ---- what the spelling means

-- the operands that a spelling means at an address
abbrev pub meant_operands : Bits → ℕ → Row → Spelling → List Operand
meant_operands bits ip row s = (meaning bits ip (record { 0 = 0 }) row s).ops

-- some operand passes a test, which also sees how it is read
abbrev pub any_operand : (Method → Operand → Bool) → List OpKind → List Operand → Bool
any_operand p [] ops = false
any_operand p (kind ∷ kinds) [] = false
any_operand p (kind ∷ kinds) (op ∷ ops) = p (method_of kind) op || any_operand p kinds ops

-- a register whose number does not fit into three bits (2.2.1.2)
abbrev pub is_high_register : Operand → Bool
is_high_register (Reg r) = nat_le 8 (register_number r)
is_high_register _ = false

-- a register that may be absent has a number that does not fit into three bits
abbrev pub is_high : Option Register → Bool
is_high None = false
is_high (Some r) = nat_le 8 (register_number r)

-- the base of the operand is such a register
abbrev pub has_high_base : Operand → Bool
has_high_base (MemOperand m) = is_high m.base
has_high_base _ = false

-- the index of the operand is such a register
abbrev pub has_high_index : Operand → Bool
has_high_index (MemOperand m) = is_high m.index
has_high_index _ = false

-- ---- which prefixes are needed

-- 66 gives this row a size that is not its own in the mode: a size of 16 or 32 that the row asks for (2.1.1, group 3)
abbrev pub asks_for_word_or_dword : Size → Bool
asks_for_word_or_dword O16 = true
asks_for_word_or_dword O32 = true
asks_for_word_or_dword O32or64 = true
asks_for_word_or_dword _ = false

-- the size is 16 or 32, and not the own one
abbrev pub is_other_size : Bits → Bits → Bool
is_other_size size own = (is_16 size || is_32 size) && not (same_bits size own)

-- 66 is needed on a legacy row by its class, or for an operand size of 16 or 32 that is not the row's own in the mode
unfoldable pub needs_66 : Bits → Row → PrefixState → Bool
needs_66 bits row state =
    not (is_vex_row row)
    && (elim row.class [
      | P66 ↦ true
      | _ ↦ asks_for_word_or_dword row.size && is_other_size (state_size bits row state) (operand_size bits row false false)
    ])

-- 67 is needed where the instruction has an address size, and another one than the mode's (2.1.1, group 4)
abbrev pub needs_67 : Bits → Option Bits → Bool
needs_67 bits None = false
needs_67 bits (Some asize) = not (same_bits asize bits)

-- F2 or F3 is needed by the class of a legacy row, and else for the repeat prefix that the instruction keeps (2.1.1, group 1)
unfoldable pub needed_repeat : Row → Rep → Rep
needed_repeat row kept =
    if is_vex_row row then kept else elim row.class [ ClassF2 ↦ RepF2 | ClassF3 ↦ RepF3 | _ ↦ kept ]

-- a segment prefix is needed for the segment that it names (2.1.1, group 2)
abbrev pub needs_segment : ℕ → Option Segment → Bool
needs_segment b None = false
needs_segment b (Some Es) = b == 0x26
needs_segment b (Some Cs) = b == 0x2E
needs_segment b (Some Ss) = b == 0x36
needs_segment b (Some Ds) = b == 0x3E
needs_segment b (Some Fs) = b == 0x64
needs_segment b (Some Gs) = b == 0x65

-- the legacy prefix of this number is needed: F0 for LOCK, F2, F3, 66, 67, or a segment prefix
abbrev pub needs_prefix : Option Segment → Bool → Bool → Bool → Rep → ℕ → Bool
needs_prefix segment size66 addr67 lock repeat b =
    if b == 0xF0 then lock
    else (if b == 0xF2 then is_repeat_f2 repeat
    else (if b == 0xF3 then is_repeat_f3 repeat
    else (if b == 0x66 then size66 else (if b == 0x67 then addr67 else needs_segment b segment))))

-- the eleven legacy prefixes, ascending by their number
abbrev pub legacy_prefixes : List ℕ
legacy_prefixes =
    0x26 ∷ 0x2E ∷ 0x36 ∷ 0x3E ∷ 0x64 ∷ 0x65 ∷ 0x66 ∷ 0x67 ∷ 0xF0 ∷ 0xF2 ∷ 0xF3 ∷ []

-- those of a list that pass a test, in their order
abbrev pub those_of : (ℕ → Bool) → List ℕ → List ℕ
those_of p [] = []
those_of p (b ∷ bytes) = if p b then b ∷ those_of p bytes else those_of p bytes

-- the REX, where there is one
abbrev pub rex_alone : Option ℕ → List ℕ
rex_alone None = []
rex_alone (Some rex) = rex ∷ []

-- the prefixes that a state and its ModRM need: of the eleven those that are needed, then the REX (2.2.1)
unfoldable pub needed_by : Bits → Row → PrefixState → Option ModRm → List ℕ
needed_by bits row state m =
    those_of
    (needs_prefix state.seg (needs_66 bits row state) (needs_67 bits (kept_address_size bits row state m)) state.lock
    (needed_repeat row (kept_repeat row.class state.rep))) legacy_prefixes
    ++ rex_alone state.rex

-- the prefixes that a spelling needs, each once
abbrev pub needed_prefixes : Bits → Row → Spelling → List ℕ
needed_prefixes bits row s = needed_by bits row (state_of bits row s) s.modrm

-- ---- which bits of a REX or VEX are needed

-- R is needed for a register number of 8 or more in ModRM.reg (2.2.1.2)
abbrev pub needs_r : Row → List Operand → Bool
needs_r row ops = any_operand (λ how op. reads_reg how && is_high_register op) row.ops ops

-- X for one in SIB.index (2.2.1.2)
abbrev pub needs_x : Row → List Operand → Bool
needs_x row ops = any_operand (λ how op. has_high_index op) row.ops ops

-- B for one in ModRM.rm, SIB.base or the opcode byte (2.2.1.2)
abbrev pub needs_b : Row → List Operand → Bool
needs_b row ops =
    any_operand (λ how op. (reads_rm how || reads_opcode how) && (is_high_register op || has_high_base op)) row.ops ops

-- W on a legacy row for the operand size 64 where it is not the row's own, and where the row asks for W 1 (2.2.1.2, 3.1.1.2)
unfoldable pub needs_w : Row → Bool
needs_w row =
    if is_vex_row row then (elim row.w [ W1 ↦ true | _ ↦ false ])
    else elim row.size [ O64 ↦ not (has_caret row || has_bang row) | SizeW1 ↦ true | _ ↦ false ]

-- some operand is SPL, BPL, SIL or DIL, which only a REX can name (2.2.1.2)
abbrev pub names_low_byte : List Operand → Bool
names_low_byte ops = list_any is_low_byte_of_rex ops

-- a bit stands only where it is needed
abbrev pub only_if : Bool → Bool → Bool
only_if needed b = not b || needed

-- a REX stands only where one of its bits is 1, or an operand needs one without (2.2.1.2)
unfoldable pub rex_is_needed : Option ℕ → List Operand → Bool
rex_is_needed rex ops =
    only_if (rex_bit 3 rex || (rex_bit 2 rex || (rex_bit 1 rex || (rex_bit 0 rex || names_low_byte ops)))) (is_some rex)

-- ---- VEX

-- VEX has two bytes exactly where its map is 0F and X, B and W are 0 (2.3.5)
unfoldable pub vex_is_short : Option Vex → Bool
vex_is_short None = true
vex_is_short (Some v) = same_bool v.three (not (same_map v.map M0f && (not v.x && (not v.b && not v.w))))

-- L is 1 only on rows of 256 bits (2.3.6.2)
unfoldable pub l_is_needed : Row → Option Vex → Bool
l_is_needed row None = true
l_is_needed row (Some v) = only_if (elim row.l [ L256 ↦ true | _ ↦ false ]) v.l

-- the top bit of vvvv, which is not read outside 64-bit mode, is 0 there (2.3.5.6)
unfoldable pub vvvv_is_read : Bits → Option Vex → Bool
vvvv_is_read bits None = true
vvvv_is_read bits (Some v) = is_64 bits || nat_lt v.vvvv 8

-- ---- ModRM and SIB

-- reg is 0 where neither an operand nor the row's digit or byte is in it (3.1.1.1)
unfoldable pub reg_is_read : Row → Option ModRm → Bool
reg_is_read row m = elim row.modrm [ AnyModRm ↦ reads_by reads_reg row || reg_field m == 0 | _ ↦ true ]

-- without an operand in r/m, rm is 0, and mod is 0, or 3 on rows that are limited to a register (2.1.5)
unfoldable pub lone_is_zero : Row → Option ModRm → Bool
lone_is_zero row m =
    reads_by reads_rm row
    || has_modrm (λ m. m.mode3 == (elim row.place [ OnlyRegister ↦ 3 | _ ↦ 0 ]) && m.rm == 0) m

-- rm and mod are read, or say nothing: a fixed byte, or none, is said by the row
unfoldable pub rm_is_read : Row → Option ModRm → Bool
rm_is_read row m = elim row.modrm [ AnyModRm ↦ lone_is_zero row m | Digit d ↦ lone_is_zero row m | _ ↦ true ]

-- mod is 3 on the rows that do not read it (MOV to and from control registers, debug registers)
unfoldable pub mode_is_register : Row → Option ModRm → Bool
mode_is_register row m = reads_mode row || has_modrm (λ m. m.mode3 == 3) m

-- the field index names a register: in a gather each number does, else all but 4 with X 0 (2.1.5, table 2-3; 2.3.12)
unfoldable pub has_index : Row → PrefixState → Sib → Bool
has_index row state s = reads_by is_gather row || not (index_number state (Some s) == 4)

-- the SIB says that there is no base: base 5 with mod 0 (2.1.5, table 2-3)
abbrev pub is_without_base : Option ModRm → Sib → Bool
is_without_base m s = has_modrm (λ m. m.mode3 == 0) m && s.base == 5

-- a SIB is needed for an index, for a base whose low three bits are 4, and in 64-bit mode for a displacement alone, where ModRM by
-- itself says RIP (2.1.5, table 2-2; 2.2.1.6)
unfoldable pub sib_is_needed : Bits → Row → PrefixState → Option ModRm → Option Sib → Bool
sib_is_needed bits row state m None = true
sib_is_needed bits row state m (Some s) = has_index row state s || (s.base == 4 || (is_without_base m s && is_64 bits))

-- the scale is 0 without an index (2.1.5, table 2-3)
unfoldable pub scale_is_read : Row → PrefixState → Option Sib → Bool
scale_is_read row state None = true
scale_is_read row state (Some s) = has_index row state s || s.scale == 0

-- ---- immediates

-- the last byte names a register in its upper four bits: the lower four, and outside 64-bit mode the top one, are 0 (2.3.9)
abbrev pub last_byte_is_bare : Bits → List ℕ → Bool
last_byte_is_bare bits own = slice_index own 0 % 16 == 0 && (is_64 bits || nat_lt (slice_index own 0) 128)

-- all bits of operand n are read, where it is in the last byte
unfoldable pub last_byte_is_read : Bits → Row → Spelling → ℕ → Bool
last_byte_is_read bits row s n =
    not (reads_last_byte (method_of (kind_at row n)))
    || last_byte_is_bare bits (own_immediate (state_size bits row (state_of bits row s)) row n s.imm.items)

-- all bits of the immediates are read
unfoldable pub immediates_are_read : Bits → Row → Spelling → Bool
immediates_are_read bits row s =
    last_byte_is_read bits row s 0
    && (last_byte_is_read bits row s 1 && (last_byte_is_read bits row s 2 && last_byte_is_read bits row s 3))

-- ---- all of it

-- the spelling is plain where it stands: what it means there needs each of its parts
pub record IsPlain (bits : Bits) (ip : ℕ) (row : Row) (s : Spelling) : Type 0 where
  -- each prefix that is needed stands once, ascending, then the REX, and no other stands
  pub prefixes : s.prefixes.items ≡ needed_prefixes bits row s
  -- a REX stands only where it is needed, and each of the four bits of a REX or VEX
  pub rex : IsTrue (rex_is_needed (state_of bits row s).rex (meant_operands bits ip row s))
  pub w : IsTrue (only_if (needs_w row) (shared_bit (λ v. v.w) 3 (state_of bits row s)))
  pub r : IsTrue (only_if (needs_r row (meant_operands bits ip row s)) (bit_r (state_of bits row s)))
  pub x : IsTrue (only_if (needs_x row (meant_operands bits ip row s)) (bit_x (state_of bits row s)))
  pub b : IsTrue (only_if (needs_b row (meant_operands bits ip row s)) (shared_bit (λ v. v.b) 0 (state_of bits row s)))
  -- a VEX has two bytes where they serve, and nothing in L and vvvv that is not read
  pub vex : IsTrue (vex_is_short s.vex)
  pub l : IsTrue (l_is_needed row s.vex)
  pub vvvv : IsTrue (vvvv_is_read bits s.vex)
  -- the fields of ModRM that are not read are 0, and mod is 3 where it is not read
  pub reg : IsTrue (reg_is_read row s.modrm)
  pub rm : IsTrue (rm_is_read row s.modrm)
  pub mode : IsTrue (mode_is_register row s.modrm)
  -- a SIB stands only where it is needed, and its scale is 0 without an index
  pub sib : IsTrue (sib_is_needed bits row (state_of bits row s) s.modrm s.sib)
  pub scale : IsTrue (scale_is_read row (state_of bits row s) s.sib)
  -- the bits of a last byte that are not read are 0
  pub last : IsTrue (immediates_are_read bits row s)
