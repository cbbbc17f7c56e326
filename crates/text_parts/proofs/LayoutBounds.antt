-- A text has at most 160 bytes.
use Rattle.std.proofs.Common.{◌≡◌, ℕ, ◌+◌, ◌*◌, ◌≤◌, Bool, true, false, List, [], ◌∷◌, ◌++◌, length, Option, Some, None, ap, length-append, arith, rules}
use Rattle.std.specs.Prelude.{if◌then◌else◌, ◌==◌, IsTrue, codes}
use Rattle.std.proofs.lemmas.Bool.{leb-true}
use Rattle.x86_values.specs.declared.Bits.{Bits}
use Rattle.x86_values.specs.declared.Bits.TheVariants.{B16, B32, B64}
use Rattle.x86_values.specs.declared.Segment.{Segment}
use Rattle.x86_values.specs.declared.Operand.{Operand}
use Rattle.x86_values.specs.declared.Operand.TheVariants.{Absent as AbsentOperand, Reg, Mem as MemOperand, Imm, Near, Far}
use Rattle.x86_values.specs.declared.Rep.{Rep}
use Rattle.x86_values.specs.declared.Rep.TheVariants.{None as NoRep, F2, F3}
use Rattle.x86_values.specs.declared.Instr.{Instr}
use Rattle.instruction_parts.specs.declared.row_types.Row.{Row}
use Rattle.instruction_parts.specs.declared.row_types.Size.{Size}
use Rattle.instruction_parts.specs.declared.row_types.Size.TheVariants.{O16, O64}
use Rattle.row_fit.specs.Fits.{kind_at}
use Rattle.row_meaning.specs.MemorySize.{memory_size}
use Rattle.text_parts.specs.declared.style.Style.{Style}
use Rattle.text_parts.specs.declared.style.Style.TheVariants.{Intel, Masm, Att}
use Rattle.text_parts.specs.Numbers.{number}
use Rattle.text_parts.specs.Registers.{segment_name}
use Rattle.text_parts.specs.PrefixWords.{lock_word, repeat_word, shows_memory, segment_word, size_digits, sized_word, needs_address_word, address_word, is_sized, named_size, differs, usual_size, operand_size_word, prefix_words, is_counter_jump, counter_jump, name_text, text_address_size}
use Rattle.text_parts.specs.Layout.{size_name, far_name, is_far_pointer, operand_size_name, behind_size, size_word, nth_operand, separator, bracket_operand, operand_part, bracket_layout, is_long, long_at, has_one_long}
use Rattle.text_parts.proofs.Bounds.{short_if, short_append, number-le, segment_name-le, register-le}
use Rattle.text_parts.proofs.AddressBounds.{bracketed-le}

-- ---- prefix words

lock_word-le : (lock : Bool) → length (lock_word lock) ≤ 5
unfolding lock_word
lock_word-le true = omega arith
lock_word-le false = omega arith

repeat_word-le : (rep : Rep) → length (repeat_word rep) ≤ 6
unfolding repeat_word
repeat_word-le NoRep = omega arith
repeat_word-le F2 = omega arith
repeat_word-le F3 = omega arith

-- nothing, or a text of the segment that is there
unless_no_segment : (s : Option Segment) (text : Segment → List ℕ) (k : ℕ) → ((s : Segment) → length (text s) ≤ k) → length (elim s as (λ _. List ℕ) [ None ↦ [] | Some s ↦ text s ]) ≤ k
unless_no_segment None text k h = omega arith
unless_no_segment (Some s) text k h = h s

segment_word-le : (instr : Instr) → length (segment_word instr) ≤ 3
unfolding segment_word
segment_word-le instr =
    short_if (shows_memory instr) _ _ 3 (omega arith)
    (unless_no_segment instr.seg _ 3 (λ s. short_append (segment_name s) _ 2 1 (segment_name-le s) (omega arith)))

sized_word-le : (letter : List ℕ) (size : Bits) → length letter ≤ 1 → length (sized_word letter size) ≤ 4
unfolding sized_word size_digits
sized_word-le letter B16 h = short_append letter _ 1 3 h (omega arith)
sized_word-le letter B32 h = short_append letter _ 1 3 h (omega arith)
sized_word-le letter B64 h = short_append letter _ 1 3 h (omega arith)

-- nothing, or a text of the size that is there
unless_no_size : (size : Option Bits) (text : Bits → List ℕ) (k : ℕ) → ((size : Bits) → length (text size) ≤ k) → length (elim size as (λ _. List ℕ) [ None ↦ [] | Some size ↦ text size ]) ≤ k
unless_no_size None text k h = omega arith
unless_no_size (Some size) text k h = h size

address_word-le : (bits : Bits) (name : List ℕ) (instr : Instr) → length (address_word bits name instr) ≤ 4
unfolding address_word
address_word-le bits name instr =
    unless_no_size instr.asize _ 4
    (λ size. short_if (needs_address_word bits size name instr) _ _ 4 (sized_word-le (codes "a") size (omega arith)) (omega arith))

operand_size_word-le : (bits : Bits) (row : Row) → length (operand_size_word bits row) ≤ 4
unfolding operand_size_word
operand_size_word-le bits row =
    short_if (is_sized row) _ _ 4
    (unless_no_size (named_size row.size) _ 4 (λ size. short_if (differs size (usual_size bits row)) (sized_word (codes "o") size) [] 4 (sized_word-le (codes "o") size (omega arith)) (omega arith)))
    (omega arith)

-- the prefix words have at most 22 bytes
pub prefix_words-le : (bits : Bits) (row : Row) (name : List ℕ) (instr : Instr) → length (prefix_words bits row name instr) ≤ 22
unfolding prefix_words
prefix_words-le bits row name instr =
    short_append (lock_word instr.lock) _ 5 17 (lock_word-le instr.lock)
    (short_append (repeat_word instr.rep) _ 6 11 (repeat_word-le instr.rep)
    (short_append (segment_word instr) _ 3 8 (segment_word-le instr)
    (short_append (address_word bits name instr) _ 4 4 (address_word-le bits name instr) (operand_size_word-le bits row))))

counter_jump-le : (asize : Bits) → length (counter_jump asize) ≤ 20
unfolding counter_jump
counter_jump-le B16 = omega arith
counter_jump-le B32 = omega arith
counter_jump-le B64 = omega arith

-- a name as it is printed has at most 20
pub name_text-le : (bits : Bits) (name : List ℕ) (instr : Instr) → length name ≤ 20 → length (name_text bits name instr) ≤ 20
unfolding name_text
name_text-le bits name instr h = short_if (is_counter_jump name) _ _ 20 (counter_jump-le _) h

-- ---- operands

size_name-le : (n : ℕ) → length (size_name n) ≤ 7
unfolding size_name
size_name-le n = search (rules, short_if)

far_name-le : (size : Size) → length (far_name size) ≤ 7
unfolding far_name
far_name-le O16 = omega arith
far_name-le O64 = omega arith
far_name-le _ = omega arith

operand_size_name-le : (row : Row) (n : ℕ) → length (operand_size_name row n) ≤ 7
unfolding operand_size_name
operand_size_name-le row n =
    short_if (is_far_pointer (kind_at row n)) _ _ 7 (far_name-le row.size) (size_name-le (memory_size row))

behind_size-le : (style : Style) (name : List ℕ) → length (behind_size style name) ≤ 5
unfolding behind_size
behind_size-le style [] = omega arith
behind_size-le Intel (c ∷ cs) = omega arith
behind_size-le Masm (c ∷ cs) = omega arith
behind_size-le Att (c ∷ cs) = omega arith

size_word-le : (style : Style) (row : Row) (n : ℕ) → length (size_word style row n) ≤ 12
unfolding size_word
size_word-le style row n =
    short_append (operand_size_name row n) _ 7 5 (operand_size_name-le row n) (behind_size-le style _)

-- what separates operands has at most 2
pub separator-le : (first : Bool) (op : Operand) → length (separator first op) ≤ 2
unfolding separator
separator-le first AbsentOperand = omega arith
separator-le true _ = omega arith
separator-le false _ = omega arith

-- how many bytes an operand's text has at most, by whether it is long
abbrev most : Operand → ℕ
most op = 18 + 37 * (if is_long op then 1 else 0)

bracket_operand-le : (style : Style) (bits : Bits) (row : Row) (instr : Instr) (n : ℕ) (op : Operand) → length (bracket_operand style bits row instr n op) ≤ most op
unfolding bracket_operand is_long
bracket_operand-le style bits row instr n AbsentOperand = omega arith
bracket_operand-le style bits row instr n (Reg r) = omega (arith, register-le style r)
bracket_operand-le style bits row instr n (Imm x) = number-le style x
bracket_operand-le style bits row instr n (Near x) = number-le style x
bracket_operand-le style bits row instr n (Far selector offset) =
    omega (arith, short_append (number style selector) (codes ":" ++ number style offset) 18 19 (number-le style selector) (short_append (codes ":") (number style offset) 1 18 (omega arith) (number-le style offset)))
bracket_operand-le style bits row instr n (MemOperand m) =
    short_append (size_word style row n) _ 12 43 (size_word-le style row n)
    (bracketed-le style instr.seg (text_address_size bits instr) m)

operand_part-le : (style : Style) (bits : Bits) (row : Row) (instr : Instr) (n : ℕ) → length (operand_part style bits row instr n) ≤ 20 + 37 * long_at instr n
unfolding operand_part
operand_part-le style bits row instr n =
    omega (arith, short_append (separator (n == 0) (nth_operand instr n)) _ 2 (most (nth_operand instr n)) (separator-le _ _) (bracket_operand-le style bits row instr n (nth_operand instr n)))

-- ---- the whole text

-- prefix words, a name and four operands of which one at most is long
pub whole_is_short : (words name p0 p1 p2 p3 : List ℕ) (w0 w1 w2 w3 : ℕ) → length words ≤ 22 → length name ≤ 20 → length p0 ≤ 20 + 37 * w0 → length p1 ≤ 20 + 37 * w1 → length p2 ≤ 20 + 37 * w2 → length p3 ≤ 20 + 37 * w3 → w0 + (w1 + (w2 + w3)) ≤ 1 → length (words ++ (name ++ (p0 ++ (p1 ++ (p2 ++ p3))))) ≤ 160
whole_is_short words name p0 p1 p2 p3 w0 w1 w2 w3 hw hn h0 h1 h2 h3 one = simp length-append (omega arith)

-- a text with brackets has at most 160
pub bracket_layout-le : (style : Style) (bits : Bits) (row : Row) (name : List ℕ) (instr : Instr) → length name ≤ 20 → IsTrue (has_one_long instr) → length (bracket_layout style bits row name instr) ≤ 160
unfolding bracket_layout has_one_long
bracket_layout-le style bits row name instr short one =
    whole_is_short (prefix_words bits row name instr) (name_text bits name instr) _ _ _ _
    (long_at instr 0) (long_at instr 1) (long_at instr 2) (long_at instr 3)
    (prefix_words-le bits row name instr) (name_text-le bits name instr short)
    (operand_part-le style bits row instr 0) (operand_part-le style bits row instr 1)
    (operand_part-le style bits row instr 2) (operand_part-le style bits row instr 3)
    (leb-true _ 1 one)

-- ---- behind what is there

-- where 160 more bytes fit, the text fits
pub layout_fits : (style : Style) (bits : Bits) (row : Row) (name : List ℕ) (instr : Instr) (held capacity : ℕ) → length name ≤ 20 → IsTrue (has_one_long instr) → held + 160 ≤ capacity → held + length (bracket_layout style bits row name instr) ≤ capacity
layout_fits style bits row name instr held capacity short one room =
    omega (arith, room, bracket_layout-le style bits row name instr short one)

-- the text takes 160 bytes at most
pub layout_len : (style : Style) (bits : Bits) (row : Row) (name : List ℕ) (instr : Instr) (old new : List ℕ) → new ≡ old ++ bracket_layout style bits row name instr → length name ≤ 20 → IsTrue (has_one_long instr) → length new ≤ length old + 160
layout_len style bits row name instr old new e short one =
    omega (arith, ap length e, length-append old (bracket_layout style bits row name instr), bracket_layout-le style bits row name instr short one)

pub ruleset layout_bounds = (layout_fits, layout_len)
