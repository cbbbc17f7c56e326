-- When the parts of a row belong together: a test of the row alone.
use Rattle.std.specs.Prelude.{ℕ, ◌+◌, ◌%◌, Bool, true, false, ◌&&◌, ◌||◌, not, ◌==◌, nat_le, nat_lt, if◌then◌else◌, List, [], ◌∷◌, length, IsTrue}
use Rattle.std.specs.List.{list_any, list_all}
use Rattle.x86_values.specs.declared.Bits.{Bits}
use Rattle.x86_values.specs.declared.Bits.TheVariants.{B16, B32, B64}
use Rattle.instruction_parts.specs.declared.row_types.Row.{Row}
use Rattle.instruction_parts.specs.declared.row_types.Map.{Map}
use Rattle.instruction_parts.specs.declared.row_types.Map.TheVariants.{One, M0f}
use Rattle.instruction_parts.specs.declared.row_types.Class.{Class}
use Rattle.instruction_parts.specs.declared.row_types.Class.TheVariants.{Np, P66, F3 as ClassF3, F2 as ClassF2}
use Rattle.instruction_parts.specs.declared.row_types.Plus.TheVariants.{No as NoPlus, Register as PlusRegister, Stack as PlusStack}
use Rattle.instruction_parts.specs.declared.row_types.ModRmRule.{ModRmRule}
use Rattle.instruction_parts.specs.declared.row_types.ModRmRule.TheVariants.{No as NoModRm, Digit, Fixed as FixedByte}
use Rattle.instruction_parts.specs.declared.row_types.Place.{Place}
use Rattle.instruction_parts.specs.declared.row_types.Place.TheVariants.{Any as AnyPlace}
use Rattle.instruction_parts.specs.declared.row_types.Size.{Size}
use Rattle.instruction_parts.specs.declared.row_types.Size.TheVariants.{None as NoSize, W0 as SizeW0, W1 as SizeW1}
use Rattle.instruction_parts.specs.declared.row_types.WBit.{WBit}
use Rattle.instruction_parts.specs.declared.row_types.WBit.TheVariants.{None as NoW, W0, W1}
use Rattle.instruction_parts.specs.declared.row_types.LBit.{LBit}
use Rattle.instruction_parts.specs.declared.row_types.LBit.TheVariants.{None as NoL}
use Rattle.instruction_parts.specs.declared.kinds.Method.{Method}
use Rattle.instruction_parts.specs.declared.kinds.Method.TheVariants.{ModRmReg, RegisterOrMemory, RegisterOnly, MemoryOnly, AnyMode, OpcodeLow, Vvvv, LastByte, Gather}
use Rattle.instruction_parts.specs.declared.kinds.File.{File}
use Rattle.instruction_parts.specs.declared.kinds.File.TheVariants.{Byte as ByteFile}
use Rattle.instruction_parts.specs.Kinds.{method_of, file_of}
use Rattle.instruction_parts.specs.Counting.{is_prefix}
use Rattle.instruction_parts.specs.Sizes.{exists_in, is_vex_row}
use Rattle.row_fit.specs.Fits.{reads_by, is_any_mode, is_map_one, is_vvvv, immediates_bytes, is_offset}

-- ---- how many operands are read from a place

-- how many of the list pass the test
abbrev pub count_where : {T : Type 0} → (T → Bool) → List T → ℕ
count_where p [] = 0
count_where p (x ∷ xs) = (if p x then 1 else 0) + count_where p xs

-- at most one operand of the row is read so
abbrev pub at_most_one : (Method → Bool) → Row → Bool
at_most_one p row = nat_le (count_where (λ kind. p (method_of kind)) row.ops) 1

-- a register by ModRM.reg
abbrev pub reads_reg : Method → Bool
reads_reg how = elim how [ ModRmReg ↦ true | _ ↦ false ]

-- register or memory by r/m
abbrev pub reads_rm : Method → Bool
reads_rm how = elim how [ RegisterOrMemory ↦ true | RegisterOnly ↦ true | MemoryOnly ↦ true | AnyMode ↦ true | Gather ↦ true | _ ↦ false ]

-- a register by the low bits of the opcode byte
abbrev pub reads_opcode : Method → Bool
reads_opcode how = elim how [ OpcodeLow ↦ true | _ ↦ false ]

-- a register by the last byte
abbrev pub reads_last_byte : Method → Bool
reads_last_byte how = elim how [ LastByte ↦ true | _ ↦ false ]

-- ---- the parts

-- the row has a ModRM
abbrev pub has_modrm_rule : ModRmRule → Bool
has_modrm_rule rule = elim rule [ NoModRm ↦ false | _ ↦ true ]

-- a digit is below 8, a fixed byte is C0 or more
unfoldable pub rule_in_range : ModRmRule → Bool
rule_in_range (Digit d) = nat_lt d 8
rule_in_range (FixedByte b) = nat_le 0xC0 b && nat_lt b 256
rule_in_range _ = true

-- an added register stands with an opcode byte and no ModRM, an added stack number with a fixed ModRM byte, each a multiple of 8 (3.1.1.1)
unfoldable pub plus_is_proper : Row → Bool
plus_is_proper row =
    elim row.plus [
      | NoPlus ↦ true
      | PlusRegister ↦ not (is_vex_row row) && (not (has_modrm_rule row.modrm) && row.opcode % 8 == 0)
      | PlusStack ↦ elim row.modrm [ FixedByte b ↦ b % 8 == 0 | _ ↦ false ]
    ]

-- the opcode byte is no escape byte and no prefix that a class names
unfoldable pub opcode_is_proper : Map → ℕ → Bool
opcode_is_proper One b = not (b == 0x0F || b == 0x66 || b == 0xF2 || b == 0xF3)
opcode_is_proper M0f b = not (b == 0x38 || b == 0x3A)
opcode_is_proper _ b = true

-- the notation names no W
abbrev pub is_no_w : WBit → Bool
is_no_w w = elim w [ NoW ↦ true | _ ↦ false ]

-- the notation names no L
abbrev pub is_no_l : LBit → Bool
is_no_l l = elim l [ NoL ↦ true | _ ↦ false ]

-- a class that pp can say (2.3.6.2)
abbrev pub is_class_of_vex : Class → Bool
is_class_of_vex class = elim class [ Np ↦ true | P66 ↦ true | ClassF3 ↦ true | ClassF2 ↦ true | _ ↦ false ]

-- no operand size, or W in its place
abbrev pub is_size_of_vex : Size → Bool
is_size_of_vex size = elim size [ NoSize ↦ true | SizeW0 ↦ true | SizeW1 ↦ true | _ ↦ false ]

-- the ModRM byte is fixed
abbrev pub is_fixed_rule : ModRmRule → Bool
is_fixed_rule rule = elim rule [ FixedByte _ ↦ true | _ ↦ false ]

-- the eight opcode bytes of a row that adds a register, else its one (3.1.1.1)
abbrev pub opcodes_of : Row → List ℕ
opcodes_of row =
    elim row.plus [
      | PlusRegister ↦ row.opcode ∷ (row.opcode + 1) ∷ (row.opcode + 2) ∷ (row.opcode + 3)
          ∷ (row.opcode + 4) ∷ (row.opcode + 5) ∷ (row.opcode + 6) ∷ (row.opcode + 7) ∷ []
      | _ ↦ row.opcode ∷ []
    ]

-- a legacy row names no W and no L, reads no vvvv and no register in the last byte, and its opcode bytes are proper
unfoldable pub legacy_is_proper : Row → Bool
legacy_is_proper row =
    is_no_w row.w && (is_no_l row.l && (list_all (opcode_is_proper row.map) (opcodes_of row)
    && (not (reads_by is_vvvv row) && not (reads_by reads_last_byte row))))

-- no operand of a VEX row is a byte register
abbrev pub is_byte_file : File → Bool
is_byte_file ByteFile = true
is_byte_file _ = false

-- a row that takes W as its operand size says the same W in its notation
unfoldable pub size_says_w : Size → WBit → Bool
size_says_w SizeW0 w = elim w [ W0 ↦ true | _ ↦ false ]
size_says_w SizeW1 w = elim w [ W1 ↦ true | _ ↦ false ]
size_says_w _ w = true

-- a VEX row names W, L, a class that pp can say and a map behind an escape byte; its ModRM is not fixed, and no operand is a byte register
unfoldable pub vex_is_proper : Row → Bool
vex_is_proper row =
    not (is_no_w row.w) && (not (is_no_l row.l) && (is_class_of_vex row.class && (is_size_of_vex row.size
    && (size_says_w row.size row.w && (not (is_map_one row.map) && (not (is_fixed_rule row.modrm)
    && not (list_any (λ kind. is_byte_file (file_of kind)) row.ops)))))))

-- in a mode in which a row of the one-byte map exists, its opcode byte is no prefix
unfoldable pub opcode_is_no_prefix_in : Bits → Row → Bool
opcode_is_no_prefix_in bits row =
    not (exists_in bits row) || not (list_any (is_prefix bits) (opcodes_of row))

-- in each mode in which a row of the one-byte map exists, its opcode byte is no prefix
unfoldable pub opcode_is_no_prefix : Row → Bool
opcode_is_no_prefix row =
    not (is_map_one row.map)
    || (opcode_is_no_prefix_in B16 row && (opcode_is_no_prefix_in B32 row && opcode_is_no_prefix_in B64 row))

-- the row has no limit to register or memory
abbrev pub is_any_place : Place → Bool
is_any_place AnyPlace = true
is_any_place _ = false

-- operands that read ModRM stand on rows that have one, an absolute address on rows that have none, a register of
-- the opcode byte exactly on rows that add one, and no limit on mod where an operand does not read it
unfoldable pub operands_are_proper : Row → Bool
operands_are_proper row =
    ((not (reads_by reads_reg row) && not (reads_by reads_rm row)) || has_modrm_rule row.modrm)
    && ((not (reads_by is_offset row) || not (has_modrm_rule row.modrm))
    && ((elim row.plus [ PlusRegister ↦ reads_by reads_opcode row | _ ↦ not (reads_by reads_opcode row) ])
    && (not (reads_by is_any_mode row) || is_any_place row.place)))

-- no two operands are read from one place
unfoldable pub operands_are_apart : Row → Bool
operands_are_apart row =
    at_most_one reads_reg row && (at_most_one reads_rm row && (at_most_one is_vvvv row
    && (at_most_one reads_opcode row && (at_most_one reads_last_byte row && at_most_one is_offset row))))

-- the immediates fit their list, whatever the operand size
unfoldable pub immediates_are_short : Row → Bool
immediates_are_short row =
    nat_le (immediates_bytes B16 row) 8
    && (nat_le (immediates_bytes B32 row) 8 && nat_le (immediates_bytes B64 row) 8)

-- the row has four places for operands
unfoldable pub has_four_operands : Row → Bool
has_four_operands row = length row.ops == 4

-- the opcode bytes of the row are bytes
unfoldable pub opcodes_are_bytes : Row → Bool
opcodes_are_bytes row =
    nat_lt row.opcode 256 && nat_lt (row.opcode + (elim row.plus [ PlusRegister ↦ 7 | _ ↦ 0 ])) 256

-- the parts belong to a row of its kind
unfoldable pub kind_is_proper : Row → Bool
kind_is_proper row = if is_vex_row row then vex_is_proper row else legacy_is_proper row

-- the row is sound
unfoldable pub sound : Row → Bool
sound row =
    has_four_operands row && (opcodes_are_bytes row && (rule_in_range row.modrm && (plus_is_proper row
    && (kind_is_proper row && (opcode_is_no_prefix row && (operands_are_proper row && (operands_are_apart row
    && immediates_are_short row)))))))

-- what it is for a row to be sound, with a name for each condition
pub record Sound (row : Row) : Type 0 where
  pub four_operands : IsTrue (has_four_operands row)
  pub opcodes : IsTrue (opcodes_are_bytes row)
  pub rule : IsTrue (rule_in_range row.modrm)
  pub plus : IsTrue (plus_is_proper row)
  pub kind : IsTrue (kind_is_proper row)
  pub no_prefix : IsTrue (opcode_is_no_prefix row)
  pub operands : IsTrue (operands_are_proper row)
  pub apart : IsTrue (operands_are_apart row)
  pub immediates : IsTrue (immediates_are_short row)

-- ---- what follows from it

-- the byte is no prefix and no escape byte of the map in the mode: it can only be an opcode byte
unfoldable pub begins_nothing : Bits → Map → ℕ → Bool
begins_nothing bits One b = not (is_prefix bits b) && not (b == 0x0F)
begins_nothing bits M0f b = not (b == 0x38) && not (b == 0x3A)
begins_nothing bits _ b = true
