-- The text of a well-formed instruction in AT&T is ASCII.
use Rattle.std.proofs.Common.{◌≡◌, ℕ, true, List, [], ◌++◌, Option, refl}
use Rattle.std.specs.Prelude.{◌==◌, ◌&&◌, nat_eq, IsTrue, codes}
use Rattle.std.specs.List.{starts_with}
use Rattle.std.specs.Str.{IsAscii}
use Rattle.x86_values.specs.declared.Bits.{Bits}
use Rattle.x86_values.specs.declared.Segment.{Segment}
use Rattle.x86_values.specs.declared.Mem.{Mem}
use Rattle.x86_values.specs.declared.Operand.{Operand}
use Rattle.x86_values.specs.declared.Operand.TheVariants.{Absent as AbsentOperand, Reg, Mem as MemOperand, Imm, Near, Far}
use Rattle.x86_values.specs.declared.Instr.{Instr}
use Rattle.instruction_parts.specs.declared.row_types.Row.{Row}
use Rattle.instruction_parts.specs.declared.row_types.Size.{Size}
use Rattle.instruction_parts.specs.declared.row_types.Size.TheVariants.{O16, O64}
use Rattle.row_fit.specs.Fits.{kind_at}
use Rattle.row_meaning.specs.MemorySize.{memory_size}
use Rattle.opcode_rows.specs.Table.{name_of}
use Rattle.opcode_rows.specs.Allowed.{is_well_formed}
use Rattle.text_parts.specs.declared.style.Style.TheVariants.{Att}
use Rattle.text_parts.specs.Numbers.{number}
use Rattle.text_parts.specs.Registers.{register, segment_override}
use Rattle.text_parts.specs.Addresses.{is_relative, is_absolute, signed_displacement, base_text, scale_text}
use Rattle.text_parts.specs.PrefixWords.{shows_memory, prefix_words, name_text, text_address_size}
use Rattle.text_parts.specs.Layout.{nth_operand, separator}
use Rattle.text_parts.proofs.Ascii.{all_ascii, ascii-if, ascii-append, number-ascii, register-ascii, segment_override-ascii}
use Rattle.text_parts.proofs.AddressAscii.{IsPrintable, signed_displacement-ascii, lone_displacement-ascii, base_text-ascii, scale_text-ascii, unless_absent}
use Rattle.text_parts.proofs.LayoutAscii.{is_printable, ArePrintable, printable-address, prefix_words-ascii, name_text-ascii, separator-ascii}
use Rattle.text_rows.proofs.TextAscii.{name_of-ascii, are_printable, at_code-ascii}
use Rattle.att_text.specs.Names.{size_letter, integer_letter, float_letter, operand_letter, is_packed_decimal, x87_letter, is_x87, is_integer, memory_letter, is_zero_extension, is_sign_extension, extension_letters, att_name}
use Rattle.att_text.specs.Operands.{att_index, att_registers, att_relative, att_address, att_memory, att_operand, is_branch_name, holds_target, star, is_last, att_part}
use Rattle.att_text.specs.Text.{text_of, text}

-- ---- names

size_letter-ascii : (n : ℕ) → all_ascii (size_letter n) ≡ true
unfolding all_ascii size_letter
size_letter-ascii n = ascii-if (n == 1) _ _ refl (ascii-if (n == 2) _ _ refl (ascii-if (n == 4) _ _ refl (ascii-if (n == 8) _ _ refl refl)))

integer_letter-ascii : (n : ℕ) → all_ascii (integer_letter n) ≡ true
unfolding all_ascii integer_letter
integer_letter-ascii n = ascii-if (n == 2) _ _ refl (ascii-if (n == 4) _ _ refl (ascii-if (n == 8) _ _ refl refl))

float_letter-ascii : (n : ℕ) → all_ascii (float_letter n) ≡ true
unfolding all_ascii float_letter
float_letter-ascii n = ascii-if (n == 4) _ _ refl (ascii-if (n == 8) _ _ refl (ascii-if (n == 10) _ _ refl refl))

operand_letter-ascii : (size : Size) → all_ascii (operand_letter size) ≡ true
unfolding all_ascii operand_letter
operand_letter-ascii O16 = refl
operand_letter-ascii O64 = refl
operand_letter-ascii _ = refl

x87_letter-ascii : (name : List ℕ) (n : ℕ) → all_ascii (x87_letter name n) ≡ true
unfolding all_ascii x87_letter
x87_letter-ascii name n = ascii-if (is_packed_decimal name) _ _ refl (ascii-if (starts_with nat_eq name (codes "fi")) (integer_letter n) (float_letter n) (integer_letter-ascii n) (float_letter-ascii n))

memory_letter-ascii : (row : Row) (name : List ℕ) → all_ascii (memory_letter row name) ≡ true
unfolding all_ascii memory_letter
memory_letter-ascii row name =
    ascii-if (is_x87 row) _ _ (x87_letter-ascii name (memory_size row))
    (ascii-if (is_integer row) _ _ (size_letter-ascii (memory_size row)) refl)

extension_letters-ascii : (row : Row) → all_ascii (extension_letters row) ≡ true
unfolding extension_letters
extension_letters-ascii row =
    ascii-append (size_letter (memory_size row)) _ (size_letter-ascii (memory_size row)) (operand_letter-ascii row.size)

att_name-ascii : (bits : Bits) (row : Row) (name : List ℕ) (instr : Instr) → all_ascii name ≡ true → all_ascii (att_name bits row name instr) ≡ true
unfolding all_ascii att_name
att_name-ascii bits row name instr h =
    ascii-if (is_zero_extension name) _ _ (ascii-append (codes "movz") (extension_letters row) refl (extension_letters-ascii row))
    (ascii-if (is_sign_extension name) _ _ (ascii-append (codes "movs") (extension_letters row) refl (extension_letters-ascii row))
    (ascii-append (name_text bits name instr) _ (name_text-ascii bits name instr h)
    (ascii-if (shows_memory instr) _ _ (memory_letter-ascii row name) refl)))

-- ---- operands

att_index-ascii : (asize : Bits) (m : Mem) → IsPrintable m → all_ascii (att_index asize m) ≡ true
unfolding all_ascii att_index
att_index-ascii asize m p =
    unless_absent m.index _ p.index
    (λ r named. ascii-append (codes ",") (register Att r ++ scale_text (codes ",") asize m.scale) refl
    (ascii-append (register Att r) _ (register-ascii Att r named) (scale_text-ascii (codes ",") asize m.scale p.scale refl)))

att_registers-ascii : (asize : Bits) (m : Mem) → IsPrintable m → all_ascii (att_registers asize m) ≡ true
unfolding all_ascii att_registers
att_registers-ascii asize m p =
    ascii-append (codes "(") (base_text Att m.base ++ (att_index asize m ++ codes ")")) refl
    (ascii-append (base_text Att m.base) (att_index asize m ++ codes ")") (base_text-ascii Att m.base p.base)
    (ascii-append (att_index asize m) (codes ")") (att_index-ascii asize m p) refl))

att_relative-ascii : (m : Mem) → IsPrintable m → all_ascii (att_relative m) ≡ true
unfolding all_ascii att_relative
att_relative-ascii m p =
    ascii-append (number Att m.disp) (codes "(" ++ (base_text Att m.base ++ codes ")")) (number-ascii Att m.disp)
    (ascii-append (codes "(") (base_text Att m.base ++ codes ")") refl
    (ascii-append (base_text Att m.base) (codes ")") (base_text-ascii Att m.base p.base) refl))

att_address-ascii : (asize : Bits) (m : Mem) → IsPrintable m → all_ascii (att_address asize m) ≡ true
unfolding att_address
att_address-ascii asize m p =
    ascii-if (is_relative m) _ _ (att_relative-ascii m p)
    (ascii-if (is_absolute m) _ _ (lone_displacement-ascii Att m)
    (ascii-append (signed_displacement Att asize m) _ (signed_displacement-ascii Att asize m) (att_registers-ascii asize m p)))

att_memory-ascii : (seg : Option Segment) (asize : Bits) (m : Mem) → IsPrintable m → all_ascii (att_memory seg asize m) ≡ true
unfolding att_memory
att_memory-ascii seg asize m p = ascii-append (segment_override Att seg) _ (segment_override-ascii Att seg) (att_address-ascii asize m p)

att_operand-ascii : (bits : Bits) (instr : Instr) (op : Operand) → is_printable op ≡ true → all_ascii (att_operand bits instr op) ≡ true
unfolding all_ascii att_operand is_printable
att_operand-ascii bits instr AbsentOperand h = refl
att_operand-ascii bits instr (Reg r) h = register-ascii Att r h
att_operand-ascii bits instr (Imm x) h = ascii-append (codes "$") (number Att x) refl (number-ascii Att x)
att_operand-ascii bits instr (Near x) h = number-ascii Att x
att_operand-ascii bits instr (Far selector offset) h =
    ascii-append (codes "$") (number Att selector ++ (codes ", $" ++ number Att offset)) refl
    (ascii-append (number Att selector) (codes ", $" ++ number Att offset) (number-ascii Att selector)
    (ascii-append (codes ", $") (number Att offset) refl (number-ascii Att offset)))
att_operand-ascii bits instr (MemOperand m) h = att_memory-ascii instr.seg (text_address_size bits instr) m (printable-address m h)

star-ascii : (row : Row) (name : List ℕ) (n : ℕ) → all_ascii (star row name n) ≡ true
unfolding all_ascii star
star-ascii row name n = ascii-if ((n == 0) && (is_branch_name name && holds_target (kind_at row 0))) (codes "*") [] refl refl

att_part-ascii : (bits : Bits) (row : Row) (name : List ℕ) (instr : Instr) (n : ℕ) → is_printable (nth_operand instr n) ≡ true
    → all_ascii (att_part bits row name instr n) ≡ true
unfolding att_part
att_part-ascii bits row name instr n h =
    ascii-append (separator (is_last instr n) (nth_operand instr n)) _ (separator-ascii _ _)
    (ascii-append (star row name n) _ (star-ascii row name n) (att_operand-ascii bits instr (nth_operand instr n) h))

-- ---- the whole text

text_of-ascii : (bits : Bits) (row : Row) (name : List ℕ) (instr : Instr) → all_ascii name ≡ true → ArePrintable instr
    → all_ascii (text_of bits row name instr) ≡ true
unfolding text_of
text_of-ascii bits row name instr h p =
    ascii-append (prefix_words bits row name instr) _ (prefix_words-ascii bits row name instr)
    (ascii-append (att_name bits row name instr) _ (att_name-ascii bits row name instr h)
    (ascii-append (att_part bits row name instr 3) _ (att_part-ascii bits row name instr 3 p.fourth)
    (ascii-append (att_part bits row name instr 2) _ (att_part-ascii bits row name instr 2 p.third)
    (ascii-append (att_part bits row name instr 1) (att_part bits row name instr 0) (att_part-ascii bits row name instr 1 p.second)
    (att_part-ascii bits row name instr 0 p.first)))))

-- the AT&T text of a well-formed instruction is ASCII
pub text-ascii : (bits : Bits) (i : Instr) → IsTrue (is_well_formed i) → IsAscii (text bits i)
unfolding text
text-ascii bits i h =
    at_code-ascii (λ row. text_of bits row (name_of i.code.0) i) i.code.0
    (λ row. text_of-ascii bits row (name_of i.code.0) i (name_of-ascii i.code.0) (are_printable i h))
