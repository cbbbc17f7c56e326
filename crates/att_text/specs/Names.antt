-- Names in AT&T: the letters of the sizes that the operands do not show.
use Rattle.std.specs.Prelude.{ℕ, ◌/◌, Bool, true, false, not, ◌&&◌, ◌||◌, ◌==◌, nat_eq, if◌then◌else◌, List, [], ◌++◌, bytes_eq, codes}
use Rattle.std.specs.List.{list_any, starts_with}
use Rattle.x86_values.specs.declared.Bits.{Bits}
use Rattle.x86_values.specs.declared.Instr.{Instr}
use Rattle.instruction_parts.specs.declared.row_types.Row.{Row}
use Rattle.instruction_parts.specs.declared.row_types.Map.TheVariants.{One}
use Rattle.instruction_parts.specs.declared.row_types.Size.{Size}
use Rattle.instruction_parts.specs.declared.row_types.Size.TheVariants.{O16, O64}
use Rattle.instruction_parts.specs.declared.row_types.OpKind.{OpKind}
use Rattle.instruction_parts.specs.declared.kinds.File.{File}
use Rattle.instruction_parts.specs.declared.kinds.File.TheVariants.{Mmx, Xmm, Vector}
use Rattle.instruction_parts.specs.Kinds.{file_of}
use Rattle.instruction_parts.specs.Sizes.{is_vex_row}
use Rattle.row_meaning.specs.MemorySize.{memory_size}
use Rattle.text_parts.specs.PrefixWords.{shows_memory, name_text}

-- ---- kinds of rows

-- the opcode bytes D8 to DF, of the x87 unit
unfoldable pub is_x87 : Row → Bool
is_x87 row = not (is_vex_row row) && (elim row.map [ One ↦ row.opcode / 8 == 27 | _ ↦ false ])

-- MMX and vector registers
unfoldable pub is_xmm_or_ymm : File → Bool
is_xmm_or_ymm Mmx = true
is_xmm_or_ymm Xmm = true
is_xmm_or_ymm Vector = true
is_xmm_or_ymm _ = false

-- the kind of an operand names an MMX or a vector register
unfoldable pub is_vector_kind : OpKind → Bool
is_vector_kind kind = is_xmm_or_ymm (file_of kind)

-- a legacy row that is neither x87 nor MMX nor SSE
unfoldable pub is_integer : Row → Bool
is_integer row = not (is_vex_row row) && (not (is_x87 row) && not (list_any is_vector_kind row.ops))

-- ---- letters

-- the letter of a size in bytes
unfoldable pub size_letter : ℕ → List ℕ
size_letter n =
    if n == 1 then codes "b" else (if n == 2 then codes "w" else (if n == 4 then codes "l" else (if n == 8 then codes "q" else [])))

-- the letter of an integer in memory that the x87 unit reads or writes
unfoldable pub integer_letter : ℕ → List ℕ
integer_letter n =
    if n == 2 then codes "s" else (if n == 4 then codes "l" else (if n == 8 then codes "q" else []))

-- the letter of a float in memory
unfoldable pub float_letter : ℕ → List ℕ
float_letter n =
    if n == 4 then codes "s" else (if n == 8 then codes "l" else (if n == 10 then codes "t" else []))

-- the letter of the operand size of a row
unfoldable pub operand_letter : Size → List ℕ
operand_letter O16 = codes "w"
operand_letter O64 = codes "q"
operand_letter _ = codes "l"

-- the packed decimals of the x87 unit have one size
unfoldable pub is_packed_decimal : List ℕ → Bool
is_packed_decimal name = bytes_eq name (codes "fbld") || bytes_eq name (codes "fbstp")

-- x87 names that begin with fi work on integers, the others on floats
unfoldable pub x87_letter : List ℕ → ℕ → List ℕ
x87_letter name n =
    if is_packed_decimal name then []
    else (if starts_with nat_eq name (codes "fi") then integer_letter n else float_letter n)

-- the letter behind a name, where an operand is memory
unfoldable pub memory_letter : Row → List ℕ → List ℕ
memory_letter row name =
    if is_x87 row then x87_letter name (memory_size row)
    else (if is_integer row then size_letter (memory_size row) else [])

-- ---- names

-- the extension by zeros, whose name shows both sizes in AT&T
unfoldable pub is_zero_extension : List ℕ → Bool
is_zero_extension name = bytes_eq name (codes "movzx")

-- the extensions by the sign, whose names do the same
unfoldable pub is_sign_extension : List ℕ → Bool
is_sign_extension name = bytes_eq name (codes "movsx") || bytes_eq name (codes "movsxd")

-- the letters of an extension: of its source, in a register or in memory, and of its destination
unfoldable pub extension_letters : Row → List ℕ
extension_letters row = size_letter (memory_size row) ++ operand_letter row.size

-- the name of an instruction whose row has this name, with its letters
unfoldable pub att_name : Bits → Row → List ℕ → Instr → List ℕ
att_name bits row name instr =
    if is_zero_extension name then codes "movz" ++ extension_letters row
    else (if is_sign_extension name then codes "movs" ++ extension_letters row
    else (name_text bits name instr ++ (if shows_memory instr then memory_letter row name else [])))

-- ---- rows without letters

-- the row is no x87 row, and no integer row that has memory of a size
unfoldable pub has_no_letter_by_size : Row → Bool
has_no_letter_by_size row = not (is_x87 row) && (not (is_integer row) || memory_size row == 0)
