-- When a row has plain spellings in each mode in which it exists: a test of the row alone, which every row of the table passes.
use Rattle.std.specs.Prelude.{◌≡◌, ℕ, Bool, true, false, ◌&&◌, ◌||◌, not, ◌==◌}
use Rattle.std.specs.List.{list_all}
use Rattle.x86_values.specs.declared.Bits.{Bits}
use Rattle.x86_values.specs.declared.Bits.TheVariants.{B16, B32, B64}
use Rattle.instruction_parts.specs.declared.row_types.Row.{Row}
use Rattle.instruction_parts.specs.declared.row_types.Class.TheVariants.{Np, F3 as ClassF3}
use Rattle.instruction_parts.specs.declared.row_types.Plus.TheVariants.{Register as PlusRegister, Stack as PlusStack}
use Rattle.instruction_parts.specs.declared.row_types.ModRmRule.{ModRmRule}
use Rattle.instruction_parts.specs.declared.row_types.ModRmRule.TheVariants.{Any as AnyModRm, Digit, Fixed as FixedByte}
use Rattle.instruction_parts.specs.declared.row_types.Place.TheVariants.{Any as AnyPlace, Memory as OnlyMemory, Register as OnlyRegister}
use Rattle.instruction_parts.specs.declared.row_types.Size.{Size}
use Rattle.instruction_parts.specs.declared.row_types.Size.TheVariants.{O16, O32, O32or64, O64, W0 as SizeW0, W1 as SizeW1}
use Rattle.instruction_parts.specs.declared.row_types.OpKind.{OpKind}
use Rattle.instruction_parts.specs.declared.kinds.Method.{Method}
use Rattle.instruction_parts.specs.declared.kinds.Method.TheVariants as method
use Rattle.instruction_parts.specs.declared.kinds.File.{File}
use Rattle.instruction_parts.specs.declared.kinds.File.TheVariants as file
use Rattle.instruction_parts.specs.declared.kinds.Width.{Width}
use Rattle.instruction_parts.specs.declared.kinds.Width.TheVariants as bytes
use Rattle.instruction_parts.specs.Kinds.{method_of, file_of, immediate_width}
use Rattle.instruction_parts.specs.Counting.{is_64}
use Rattle.instruction_parts.specs.Sizes.{exists_in, is_vex_row, is_lockable, has_caret, has_bang}
use Rattle.row_fit.specs.Fits.{is_map_one, size_fits, is_opcode, reads_by, is_gather, is_nop_byte, is_vvvv}
use Rattle.row_fit.specs.Sound.{opcodes_of, reads_reg, reads_rm, reads_opcode}
use Rattle.plain_spelling.specs.PlainFront.{asks_rex_w, asks_vex_w, asks_66}
use Rattle.plain_spelling.specs.PlainTail.{plain_size}

-- ---- sizes

-- W under the plain prefixes
unfoldable pub plain_w : Bits → Row → Bool
plain_w bits row = is_64 bits && (elim (is_vex_row row) [ true ↦ asks_vex_w row | false ↦ asks_rex_w row ])

-- the plain prefixes give the size that the row asks for; a REX is asked for in 64-bit mode alone (2.2.1)
unfoldable pub has_plain_size : Bits → Row → Bool
has_plain_size bits row =
    size_fits bits row.size (plain_size bits row) (plain_w bits row) && (is_64 bits || (is_vex_row row || not (asks_rex_w row)))

-- the row says its operand size
abbrev pub says_size : Size → Bool
says_size O16 = true
says_size O32 = true
says_size O64 = true
says_size _ = false

-- the row says whether its operand size is 16
abbrev pub says_word : Size → Bool
says_word O32or64 = true
says_word size = says_size size

-- the row says its W: by its size, or by an operand size that no mark decides
unfoldable pub says_w : Row → Bool
says_w row =
    elim row.size [
      | SizeW0 ↦ true
      | SizeW1 ↦ true
      | size ↦ says_size size && not (is_vex_row row || (has_caret row || has_bang row))
    ]

-- the registers of a kind are told by the row
unfoldable pub file_is_told : Row → File → Bool
file_is_told row file.OperandSize = says_size row.size
file_is_told row file.WordOrDword = says_word row.size
file_is_told row file.ByW = says_w row
file_is_told row _ = true

-- the bytes of a kind's immediate are told by the row
unfoldable pub width_is_told : Row → Width → Bool
width_is_told row bytes.OperandSize = says_size row.size
width_is_told row bytes.WordOrDword = says_word row.size
width_is_told row bytes.PointerOfSize = says_word row.size
width_is_told row _ = true

-- the value of a kind's immediate is told by the row
unfoldable pub value_is_told : Row → Method → Bool
value_is_told row method.Extended = says_size row.size
value_is_told row method.Near = says_size row.size
value_is_told row _ = true

-- the row tells the file, the width and the value of a kind
unfoldable pub kind_is_told : Row → OpKind → Bool
kind_is_told row kind =
    file_is_told row (file_of kind) && (width_is_told row (immediate_width kind) && value_is_told row (method_of kind))

-- ---- prefixes

-- a row that allows no 66 asks for none (3.1.1.1)
unfoldable pub class_allows_size : Bits → Row → Bool
class_allows_size bits row = elim row.class [ Np ↦ not (asks_66 bits row) | _ ↦ true ]

-- LOCK stands on no VEX row (2.3.2)
unfoldable pub lock_is_legacy : Row → Bool
lock_is_legacy row = not (is_vex_row row && is_lockable row)

-- ---- the opcode byte and ModRM

-- r/m holds memory and no register
abbrev pub is_memory_only : Method → Bool
is_memory_only method.MemoryOnly = true
is_memory_only _ = false

-- r/m holds a register and no memory
abbrev pub is_register_only : Method → Bool
is_register_only method.RegisterOnly = true
is_register_only _ = false

-- reg is 0 by the rule of the row (3.1.1.1, /digit)
abbrev pub is_digit_zero : ModRmRule → Bool
is_digit_zero (Digit d) = d == 0
is_digit_zero _ = false

-- C4, C5 and 62 of the one-byte map stand with memory, C4 and C5 outside 64-bit mode, and 8F with reg 0 (2.3.5.1; LES, LDS, BOUND, POP)
unfoldable pub opcode_is_allowed : Bits → Row → ℕ → Bool
opcode_is_allowed bits row b =
    not (is_map_one row.map)
    || ((not (b == 0xC4 || b == 0xC5) || (not (is_64 bits) && reads_by is_memory_only row))
    && ((not (b == 0x62) || reads_by is_memory_only row) && (not (b == 0x8F) || is_digit_zero row.modrm)))

-- the opcode bytes of a legacy row are taken as such
unfoldable pub opcode_is_plain : Bits → Row → Bool
opcode_is_plain bits row =
    is_vex_row row
    || (list_all (is_opcode bits row.map) (opcodes_of row) && list_all (opcode_is_allowed bits row) (opcodes_of row))

-- the byte 90 without a register has no operands that ask for B, and with one it has no F3 by its class (NOP, PAUSE, XCHG)
unfoldable pub nop_is_bare : Row → Bool
nop_is_bare row =
    not (is_nop_byte row row.opcode)
    || (elim row.plus [
      | PlusRegister ↦ (elim row.class [ ClassF3 ↦ false | _ ↦ true ])
      | _ ↦ not (reads_by reads_rm row) && not (reads_by reads_opcode row)
    ])

-- a digit and a fixed byte leave no register in reg; a fixed byte has an operand in rm exactly where it adds a stack number (3.1.1.1)
unfoldable pub rule_is_plain : Row → Bool
rule_is_plain row =
    elim row.modrm [
      | Digit d ↦ not (reads_by reads_reg row)
      | FixedByte b ↦ not (reads_by reads_reg row) && (elim row.plus [ PlusStack ↦ reads_by is_register_only row | _ ↦ not (reads_by reads_rm row) ])
      | _ ↦ true
    ]

-- the limit to register or memory lets each kind's own limit be met, and a fixed byte says a register (2.1.5, 3.1.1.1)
unfoldable pub place_is_plain : Row → Bool
place_is_plain row =
    elim row.place [
      | AnyPlace ↦ true
      | OnlyMemory ↦ not (reads_by is_register_only row) && (elim row.modrm [ FixedByte b ↦ false | _ ↦ true ])
      | OnlyRegister ↦ not (reads_by is_memory_only row) && not (reads_by is_gather row)
    ]

-- the file is that of the XMM registers or of the row's vectors
abbrev pub is_vector_file : File → Bool
is_vector_file file.Xmm = true
is_vector_file file.Vector = true
is_vector_file _ = false

-- a kind that is read from reg, r/m or vvvv names vector registers
abbrev pub names_vectors : OpKind → Bool
names_vectors kind =
    is_vector_file (file_of kind) || not (reads_reg (method_of kind) || (reads_rm (method_of kind) || is_vvvv (method_of kind)))

-- a gather has a destination in reg and a mask in vvvv, and they and its index are vector registers (2.3.12)
unfoldable pub gather_is_whole : Row → Bool
gather_is_whole row =
    not (reads_by is_gather row)
    || (is_vex_row row
    && (elim row.modrm [ AnyModRm ↦ reads_by reads_reg row && (reads_by is_vvvv row && list_all names_vectors row.ops) | _ ↦ false ]))

-- ---- all of it

-- the row has plain spellings in a mode in which it exists
unfoldable pub writable_in : Bits → Row → Bool
writable_in bits row =
    not (exists_in bits row) || (has_plain_size bits row && (class_allows_size bits row && opcode_is_plain bits row))

-- the row has plain spellings
unfoldable pub writable : Row → Bool
writable row =
    writable_in B16 row && (writable_in B32 row && (writable_in B64 row && (list_all (kind_is_told row) row.ops
    && (lock_is_legacy row && (nop_is_bare row && (rule_is_plain row && (place_is_plain row && gather_is_whole row)))))))

-- what it is for a row to have plain spellings in a mode in which it exists, with a name for each condition
pub record Writable (bits : Bits) (row : Row) : Type 0 where
  pub size : has_plain_size bits row ≡ true
  pub class : class_allows_size bits row ≡ true
  pub opcode : opcode_is_plain bits row ≡ true
  pub told : list_all (kind_is_told row) row.ops ≡ true
  pub lock : lock_is_legacy row ≡ true
  pub nop : nop_is_bare row ≡ true
  pub rule : rule_is_plain row ≡ true
  pub place : place_is_plain row ≡ true
  pub gather : gather_is_whole row ≡ true
