-- A text in AT&T has at most 160 bytes.
use Rattle.std.proofs.Common.{◌≡◌, ℕ, ◌+◌, ◌*◌, ◌≤◌, List, ◌++◌, length, Option, ap, length-append, arith, rules}
use Rattle.std.specs.Prelude.{if◌then◌else◌, IsTrue, codes}
use Rattle.std.proofs.lemmas.Bool.{leb-true}
use Rattle.x86_values.specs.declared.Bits.{Bits}
use Rattle.x86_values.specs.declared.Segment.{Segment}
use Rattle.x86_values.specs.declared.Mem.{Mem}
use Rattle.x86_values.specs.declared.Operand.{Operand}
use Rattle.x86_values.specs.declared.Operand.TheVariants.{Absent as AbsentOperand, Reg, Mem as MemOperand, Imm, Near, Far}
use Rattle.x86_values.specs.declared.Instr.{Instr}
use Rattle.instruction_parts.specs.declared.row_types.Row.{Row}
use Rattle.instruction_parts.specs.declared.row_types.Size.{Size}
use Rattle.instruction_parts.specs.declared.row_types.Size.TheVariants.{O16, O64}
use Rattle.row_meaning.specs.MemorySize.{memory_size}
use Rattle.text_parts.specs.declared.style.Style.TheVariants.{Att}
use Rattle.text_parts.specs.Numbers.{number}
use Rattle.text_parts.specs.Registers.{register, segment_override}
use Rattle.text_parts.specs.Addresses.{is_relative, is_absolute, signed_displacement, base_text}
use Rattle.text_parts.specs.PrefixWords.{shows_memory, prefix_words, name_text, text_address_size}
use Rattle.text_parts.specs.Layout.{nth_operand, separator, is_long, long_at, has_one_long}
use Rattle.text_parts.proofs.Bounds.{short_if, short_append, number-le, register-le, segment_override-le}
use Rattle.text_parts.proofs.AddressBounds.{signed_displacement-le, lone_displacement-le, base_text-le, scale_text-le, unless_absent}
use Rattle.text_parts.proofs.LayoutBounds.{prefix_words-le, name_text-le, separator-le}
use Rattle.att_text.specs.Names.{size_letter, integer_letter, float_letter, operand_letter, x87_letter, is_x87, is_integer, memory_letter, is_zero_extension, is_sign_extension, extension_letters, att_name}
use Rattle.att_text.specs.Operands.{att_index, att_registers, att_relative, att_address, att_memory, att_operand, star, is_last, att_part}
use Rattle.att_text.specs.Text.{text_of}

-- ---- names

size_letter-le : (n : ℕ) → length (size_letter n) ≤ 1
unfolding size_letter
size_letter-le n = search (rules, short_if)

operand_letter-le : (size : Size) → length (operand_letter size) ≤ 1
unfolding operand_letter
operand_letter-le O16 = omega arith
operand_letter-le O64 = omega arith
operand_letter-le _ = omega arith

x87_letter-le : (name : List ℕ) (n : ℕ) → length (x87_letter name n) ≤ 1
unfolding x87_letter integer_letter float_letter
x87_letter-le name n = search (rules, short_if)

memory_letter-le : (row : Row) (name : List ℕ) → length (memory_letter row name) ≤ 1
unfolding memory_letter
memory_letter-le row name =
    short_if (is_x87 row) _ _ 1 (x87_letter-le name (memory_size row))
    (short_if (is_integer row) _ _ 1 (size_letter-le (memory_size row)) (omega arith))

extension_letters-le : (row : Row) → length (extension_letters row) ≤ 2
unfolding extension_letters
extension_letters-le row =
    short_append (size_letter (memory_size row)) _ 1 1 (size_letter-le (memory_size row)) (operand_letter-le row.size)

extension-le : (front : List ℕ) (row : Row) → length front ≤ 4 → length (front ++ extension_letters row) ≤ 21
extension-le front row h =
    omega (arith, short_append front (extension_letters row) 4 2 h (extension_letters-le row))

-- a name with its letters has at most 21
pub att_name-le : (bits : Bits) (row : Row) (name : List ℕ) (instr : Instr) → length name ≤ 20 → length (att_name bits row name instr) ≤ 21
unfolding att_name
att_name-le bits row name instr h =
    short_if (is_zero_extension name) _ _ 21 (extension-le (codes "movz") row (omega arith))
    (short_if (is_sign_extension name) _ _ 21 (extension-le (codes "movs") row (omega arith))
    (short_append (name_text bits name instr) _ 20 1 (name_text-le bits name instr h)
    (short_if (shows_memory instr) _ _ 1 (memory_letter-le row name) (omega arith))))

-- ---- operands

att_index-le : (asize : Bits) (m : Mem) → length (att_index asize m) ≤ 11
unfolding att_index
att_index-le asize m =
    unless_absent m.index _ 11
    (λ r. short_append (codes ",") _ 1 10 (omega arith)
    (short_append (register Att r) _ 7 3 (register-le Att r) (scale_text-le (codes ",") asize m.scale (omega arith))))

att_registers-le : (asize : Bits) (m : Mem) → length (att_registers asize m) ≤ 20
unfolding att_registers
att_registers-le asize m =
    short_append (codes "(") _ 1 19 (omega arith)
    (short_append (base_text Att m.base) _ 7 12 (base_text-le Att m.base)
    (short_append (att_index asize m) _ 11 1 (att_index-le asize m) (omega arith)))

att_relative-le : (m : Mem) → length (att_relative m) ≤ 27
unfolding att_relative
att_relative-le m =
    short_append (number Att m.disp) _ 18 9 (number-le Att m.disp)
    (short_append (codes "(") _ 1 8 (omega arith)
    (short_append (base_text Att m.base) _ 7 1 (base_text-le Att m.base) (omega arith)))

att_address-le : (asize : Bits) (m : Mem) → length (att_address asize m) ≤ 39
unfolding att_address
att_address-le asize m =
    short_if (is_relative m) _ _ 39 (omega (arith, att_relative-le m))
    (short_if (is_absolute m) _ _ 39 (omega (arith, lone_displacement-le Att m))
    (short_append (signed_displacement Att asize m) _ 19 20 (signed_displacement-le Att asize m) (att_registers-le asize m)))

att_memory-le : (seg : Option Segment) (asize : Bits) (m : Mem) → length (att_memory seg asize m) ≤ 43
unfolding att_memory
att_memory-le seg asize m =
    short_append (segment_override Att seg) _ 4 39 (segment_override-le Att seg) (att_address-le asize m)

-- how many bytes an operand's text has at most, by whether it is long
abbrev most : Operand → ℕ
most op = 19 + 24 * (if is_long op then 1 else 0)

att_operand-le : (bits : Bits) (instr : Instr) (op : Operand) → length (att_operand bits instr op) ≤ most op
unfolding att_operand is_long
att_operand-le bits instr AbsentOperand = omega arith
att_operand-le bits instr (Reg r) = omega (arith, register-le Att r)
att_operand-le bits instr (Imm x) = short_append (codes "$") (number Att x) 1 18 (omega arith) (number-le Att x)
att_operand-le bits instr (Near x) = omega (arith, number-le Att x)
att_operand-le bits instr (Far selector offset) =
    omega (
      arith,
      short_append (codes "$") (number Att selector ++ (codes ", $" ++ number Att offset)) 1 39 (omega arith)
          (short_append (number Att selector) (codes ", $" ++ number Att offset) 18 21 (number-le Att selector)
          (short_append (codes ", $") (number Att offset) 3 18 (omega arith) (number-le Att offset))),
    )
att_operand-le bits instr (MemOperand m) = att_memory-le instr.seg (text_address_size bits instr) m

-- a star has at most 1
pub star-le : (row : Row) (name : List ℕ) (n : ℕ) → length (star row name n) ≤ 1
unfolding star
star-le row name n = search (rules, short_if)

att_part-le : (bits : Bits) (row : Row) (name : List ℕ) (instr : Instr) (n : ℕ) → length (att_part bits row name instr n) ≤ 22 + 24 * long_at instr n
unfolding att_part
att_part-le bits row name instr n =
    omega (
      arith,
      short_append (separator (is_last instr n) (nth_operand instr n)) _ 2 (1 + most (nth_operand instr n)) (separator-le _ _)
          (short_append (star row name n) _ 1 (most (nth_operand instr n)) (star-le row name n) (att_operand-le bits instr (nth_operand instr n))),
    )

-- ---- the whole text

whole_is_short : (words name p3 p2 p1 p0 : List ℕ) (w3 w2 w1 w0 : ℕ) → length words ≤ 22 → length name ≤ 21 → length p3 ≤ 22 + 24 * w3 → length p2 ≤ 22 + 24 * w2 → length p1 ≤ 22 + 24 * w1 → length p0 ≤ 22 + 24 * w0 → w0 + (w1 + (w2 + w3)) ≤ 1 → length (words ++ (name ++ (p3 ++ (p2 ++ (p1 ++ p0))))) ≤ 160
whole_is_short words name p3 p2 p1 p0 w3 w2 w1 w0 hw hn h3 h2 h1 h0 one = simp length-append (omega arith)

-- an AT&T text has at most 160 bytes
pub text_of-le : (bits : Bits) (row : Row) (name : List ℕ) (instr : Instr) → length name ≤ 20 → IsTrue (has_one_long instr) → length (text_of bits row name instr) ≤ 160
unfolding text_of has_one_long
text_of-le bits row name instr short one =
    whole_is_short (prefix_words bits row name instr) (att_name bits row name instr) _ _ _ _
    (long_at instr 3) (long_at instr 2) (long_at instr 1) (long_at instr 0)
    (prefix_words-le bits row name instr) (att_name-le bits row name instr short)
    (att_part-le bits row name instr 3) (att_part-le bits row name instr 2)
    (att_part-le bits row name instr 1) (att_part-le bits row name instr 0)
    (leb-true _ 1 one)

-- ---- behind what is there

-- where 160 more bytes fit, the text fits
pub text_fits : (bits : Bits) (row : Row) (name : List ℕ) (instr : Instr) (held capacity : ℕ) → length name ≤ 20 → IsTrue (has_one_long instr) → held + 160 ≤ capacity → held + length (text_of bits row name instr) ≤ capacity
text_fits bits row name instr held capacity short one room =
    omega (arith, room, text_of-le bits row name instr short one)

-- the text takes 160 bytes at most
pub text_len : (bits : Bits) (row : Row) (name : List ℕ) (instr : Instr) (old new : List ℕ) → new ≡ old ++ text_of bits row name instr → length name ≤ 20 → IsTrue (has_one_long instr) → length new ≤ length old + 160
text_len bits row name instr old new e short one =
    omega (arith, ap length e, length-append old (text_of bits row name instr), text_of-le bits row name instr short one)

pub ruleset text_bounds = (text_fits, text_len)
