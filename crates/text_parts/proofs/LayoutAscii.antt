-- The text of an instruction in a style with brackets is ASCII.
use Rattle.std.proofs.Common.{◌≡◌, ℕ, Bool, true, false, ◌&&◌, List, [], ◌∷◌, ◌++◌, Option, Some, None, refl}
use Rattle.std.specs.Prelude.{◌==◌, nat_lt, codes}
use Rattle.std.proofs.lemmas.Bool.{and_parts, ltb-true}
use Rattle.x86_values.specs.declared.Bits.{Bits}
use Rattle.x86_values.specs.declared.Bits.TheVariants.{B16, B32, B64}
use Rattle.x86_values.specs.declared.Segment.{Segment}
use Rattle.x86_values.specs.declared.Operand.{Operand}
use Rattle.x86_values.specs.declared.Operand.TheVariants.{Absent as AbsentOperand, Reg, Mem as MemOperand, Imm, Near, Far}
use Rattle.x86_values.specs.declared.Mem.{Mem}
use Rattle.x86_values.specs.declared.Rep.{Rep}
use Rattle.x86_values.specs.declared.Rep.TheVariants.{None as NoRep, F2, F3}
use Rattle.x86_values.specs.declared.Instr.{Instr}
use Rattle.x86_values.specs.Named.{is_named, is_named_if}
use Rattle.instruction_parts.specs.declared.row_types.Row.{Row}
use Rattle.instruction_parts.specs.declared.row_types.Size.{Size}
use Rattle.instruction_parts.specs.declared.row_types.Size.TheVariants.{O16, O64}
use Rattle.row_fit.specs.Fits.{kind_at}
use Rattle.row_meaning.specs.MemorySize.{memory_size}
use Rattle.text_parts.specs.declared.style.Style.{Style}
use Rattle.text_parts.specs.declared.style.Style.TheVariants.{Intel, Masm, Att}
use Rattle.text_parts.specs.Numbers.{number}
use Rattle.text_parts.specs.Registers.{segment_name}
use Rattle.text_parts.specs.PrefixWords.{lock_word, repeat_word, shows_memory, segment_word, size_digits, sized_word, needs_address_word, address_word, is_sized, named_size, differs, usual_size, operand_size_word, prefix_words, is_counter_jump, counter_jump, name_text, text_address_size}
use Rattle.text_parts.specs.Layout.{size_name, far_name, is_far_pointer, operand_size_name, behind_size, size_word, nth_operand, separator, bracket_operand, operand_part, bracket_layout}
use Rattle.text_parts.proofs.Ascii.{all_ascii, ascii-if, ascii-append, number-ascii, segment_name-ascii, register-ascii}
use Rattle.text_parts.proofs.AddressAscii.{IsPrintable, bracketed-ascii}

-- ---- prefix words

lock_word-ascii : (lock : Bool) → all_ascii (lock_word lock) ≡ true
unfolding all_ascii lock_word
lock_word-ascii true = refl
lock_word-ascii false = refl

repeat_word-ascii : (rep : Rep) → all_ascii (repeat_word rep) ≡ true
unfolding all_ascii repeat_word
repeat_word-ascii NoRep = refl
repeat_word-ascii F2 = refl
repeat_word-ascii F3 = refl

-- nothing, or a text of the segment that is there
unless_no_segment : (s : Option Segment) (text : Segment → List ℕ) → ((s : Segment) → all_ascii (text s) ≡ true)
    → all_ascii (elim s as (λ _. List ℕ) [ None ↦ [] | Some s ↦ text s ]) ≡ true
unfolding all_ascii
unless_no_segment None text h = refl
unless_no_segment (Some s) text h = h s

segment_word-ascii : (instr : Instr) → all_ascii (segment_word instr) ≡ true
unfolding all_ascii segment_word
segment_word-ascii instr =
    ascii-if (shows_memory instr) _ _ refl
    (unless_no_segment instr.seg _ (λ s. ascii-append (segment_name s) (codes " ") (segment_name-ascii s) refl))

sized_word-ascii : (letter : List ℕ) (size : Bits) → all_ascii letter ≡ true → all_ascii (sized_word letter size) ≡ true
unfolding all_ascii sized_word size_digits
sized_word-ascii letter B16 h = ascii-append letter _ h refl
sized_word-ascii letter B32 h = ascii-append letter _ h refl
sized_word-ascii letter B64 h = ascii-append letter _ h refl

-- nothing, or a text of the size that is there
unless_no_size : (size : Option Bits) (text : Bits → List ℕ) → ((size : Bits) → all_ascii (text size) ≡ true)
    → all_ascii (elim size as (λ _. List ℕ) [ None ↦ [] | Some size ↦ text size ]) ≡ true
unfolding all_ascii
unless_no_size None text h = refl
unless_no_size (Some size) text h = h size

address_word-ascii : (bits : Bits) (name : List ℕ) (instr : Instr) → all_ascii (address_word bits name instr) ≡ true
unfolding all_ascii address_word
address_word-ascii bits name instr =
    unless_no_size instr.asize _
    (λ size. ascii-if (needs_address_word bits size name instr) _ _ (sized_word-ascii (codes "a") size refl) refl)

operand_size_word-ascii : (bits : Bits) (row : Row) → all_ascii (operand_size_word bits row) ≡ true
unfolding all_ascii operand_size_word
operand_size_word-ascii bits row =
    ascii-if (is_sized row) _ _
    (unless_no_size (named_size row.size) _
    (λ size. ascii-if (differs size (usual_size bits row)) (sized_word (codes "o") size) [] (sized_word-ascii (codes "o") size refl) refl))
    refl

-- the prefix words are ASCII
pub prefix_words-ascii : (bits : Bits) (row : Row) (name : List ℕ) (instr : Instr) → all_ascii (prefix_words bits row name instr) ≡ true
unfolding prefix_words
prefix_words-ascii bits row name instr =
    ascii-append (lock_word instr.lock) _ (lock_word-ascii instr.lock)
    (ascii-append (repeat_word instr.rep) _ (repeat_word-ascii instr.rep)
    (ascii-append (segment_word instr) _ (segment_word-ascii instr)
    (ascii-append (address_word bits name instr) _ (address_word-ascii bits name instr) (operand_size_word-ascii bits row))))

counter_jump-ascii : (asize : Bits) → all_ascii (counter_jump asize) ≡ true
unfolding all_ascii counter_jump
counter_jump-ascii B16 = refl
counter_jump-ascii B32 = refl
counter_jump-ascii B64 = refl

-- so is a name as it is printed
pub name_text-ascii : (bits : Bits) (name : List ℕ) (instr : Instr) → all_ascii name ≡ true → all_ascii (name_text bits name instr) ≡ true
unfolding name_text
name_text-ascii bits name instr h = ascii-if (is_counter_jump name) _ _ (counter_jump-ascii _) h

-- ---- operands

size_name-ascii : (n : ℕ) → all_ascii (size_name n) ≡ true
unfolding all_ascii size_name
size_name-ascii n =
    ascii-if (n == 1) _ _ refl (ascii-if (n == 2) _ _ refl (ascii-if (n == 4) _ _ refl (ascii-if (n == 8) _ _ refl
    (ascii-if (n == 10) _ _ refl (ascii-if (n == 16) _ _ refl (ascii-if (n == 32) _ _ refl refl))))))

far_name-ascii : (size : Size) → all_ascii (far_name size) ≡ true
unfolding all_ascii far_name
far_name-ascii O16 = refl
far_name-ascii O64 = refl
far_name-ascii _ = refl

operand_size_name-ascii : (row : Row) (n : ℕ) → all_ascii (operand_size_name row n) ≡ true
unfolding operand_size_name
operand_size_name-ascii row n = ascii-if (is_far_pointer (kind_at row n)) _ _ (far_name-ascii row.size) (size_name-ascii (memory_size row))

behind_size-ascii : (style : Style) (name : List ℕ) → all_ascii (behind_size style name) ≡ true
unfolding all_ascii behind_size
behind_size-ascii style [] = refl
behind_size-ascii Intel (c ∷ cs) = refl
behind_size-ascii Masm (c ∷ cs) = refl
behind_size-ascii Att (c ∷ cs) = refl

size_word-ascii : (style : Style) (row : Row) (n : ℕ) → all_ascii (size_word style row n) ≡ true
unfolding size_word
size_word-ascii style row n = ascii-append (operand_size_name row n) _ (operand_size_name-ascii row n) (behind_size-ascii style _)

-- so is what separates operands
pub separator-ascii : (first : Bool) (op : Operand) → all_ascii (separator first op) ≡ true
unfolding all_ascii separator
separator-ascii first AbsentOperand = refl
separator-ascii true _ = refl
separator-ascii false _ = refl

-- the registers of an operand exist, and its scale is below 80
unfoldable pub is_printable : Operand → Bool
is_printable (Reg r) = is_named r
is_printable (MemOperand m) = nat_lt m.scale 80 && (is_named_if m.base && is_named_if m.index)
is_printable _ = true

-- a printable memory operand has registers and a scale that are printable
pub printable-address : (m : Mem) → is_printable (MemOperand m) ≡ true → IsPrintable m
unfolding is_printable
printable-address m h =
    let p = and_parts (nat_lt m.scale 80) (is_named_if m.base && is_named_if m.index) h in
    let q = and_parts (is_named_if m.base) (is_named_if m.index) p.1 in
    record { base = q.0; index = q.1; scale = ltb-true m.scale 80 p.0 }

bracket_operand-ascii : (style : Style) (bits : Bits) (row : Row) (instr : Instr) (n : ℕ) (op : Operand) → is_printable op ≡ true
    → all_ascii (bracket_operand style bits row instr n op) ≡ true
unfolding all_ascii bracket_operand is_printable
bracket_operand-ascii style bits row instr n AbsentOperand h = refl
bracket_operand-ascii style bits row instr n (Reg r) h = register-ascii style r h
bracket_operand-ascii style bits row instr n (Imm x) h = number-ascii style x
bracket_operand-ascii style bits row instr n (Near x) h = number-ascii style x
bracket_operand-ascii style bits row instr n (Far selector offset) h =
    ascii-append (number style selector) (codes ":" ++ number style offset) (number-ascii style selector)
    (ascii-append (codes ":") (number style offset) refl (number-ascii style offset))
bracket_operand-ascii style bits row instr n (MemOperand m) h =
    ascii-append (size_word style row n) _ (size_word-ascii style row n)
    (bracketed-ascii style instr.seg (text_address_size bits instr) m (printable-address m h))

operand_part-ascii : (style : Style) (bits : Bits) (row : Row) (instr : Instr) (n : ℕ) → is_printable (nth_operand instr n) ≡ true
    → all_ascii (operand_part style bits row instr n) ≡ true
unfolding operand_part
operand_part-ascii style bits row instr n h =
    ascii-append (separator (n == 0) (nth_operand instr n)) _ (separator-ascii _ _) (bracket_operand-ascii style bits row instr n (nth_operand instr n) h)

-- ---- the whole text

-- each operand can be printed
pub record ArePrintable (instr : Instr) : Type 0 where
  pub first : is_printable (nth_operand instr 0) ≡ true
  pub second : is_printable (nth_operand instr 1) ≡ true
  pub third : is_printable (nth_operand instr 2) ≡ true
  pub fourth : is_printable (nth_operand instr 3) ≡ true

-- a text with brackets is ASCII
pub bracket_layout-ascii : (style : Style) (bits : Bits) (row : Row) (name : List ℕ) (instr : Instr) → all_ascii name ≡ true → ArePrintable instr
    → all_ascii (bracket_layout style bits row name instr) ≡ true
unfolding bracket_layout
bracket_layout-ascii style bits row name instr h p =
    ascii-append (prefix_words bits row name instr) _ (prefix_words-ascii bits row name instr)
    (ascii-append (name_text bits name instr) _ (name_text-ascii bits name instr h)
    (ascii-append (operand_part style bits row instr 0) _ (operand_part-ascii style bits row instr 0 p.first)
    (ascii-append (operand_part style bits row instr 1) _ (operand_part-ascii style bits row instr 1 p.second)
    (ascii-append (operand_part style bits row instr 2) (operand_part style bits row instr 3) (operand_part-ascii style bits row instr 2 p.third)
    (operand_part-ascii style bits row instr 3 p.fourth)))))
