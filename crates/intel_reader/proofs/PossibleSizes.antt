-- The size words of an address in a text in pieces are those of the rows that take its operands.
use Rattle.std.proofs.Common.{◌≡◌, inl, inr, zero, suc, ℕ, ◌<◌, ◌==◌, Bool, true, false, List, Some, refl, ap, sym, ◌∙◌, arith, if◌then◌else◌, [], ◌∷◌, Option, slice_index_or, subst}
use Rattle.std.proofs.lemmas.Bool.{and_parts}
use Rattle.x86_values.specs.declared.Bits.{Bits}
use Rattle.x86_values.specs.declared.Operand.{Operand}
use Rattle.x86_values.specs.declared.Instr.{Instr}
use Rattle.instruction_parts.specs.declared.row_types.Row.{Row}
use Rattle.opcode_rows.specs.Table.{name_of}
use Rattle.text_parts.specs.declared.style.Style.TheVariants.{Intel}
use Rattle.text_parts.specs.Layout.{nth_operand, bracket_layout}
use Rattle.text_parts.specs.PrefixWords.{name_text}
use Rattle.intel_words.specs.declared.words.IntelWords.{IntelWords}
use Rattle.intel_words.specs.declared.words.OperandText.{OperandText}
use Rattle.intel_words.specs.declared.words.OperandText.TheVariants.{Absent, Reg, Number, Far, Mem as Address}
use Rattle.intel_words.specs.declared.words.SizeName.{SizeName}
use Rattle.intel_words.specs.Pieces.{sized_operand, sized_nth, sized_words, is_unsized, are_commaless, are_leading, operands_of_pieces, ends_in_name, is_unsized_in, is_told}
use Rattle.intel_words.specs.ReadAddresses.{operand_in}
use Rattle.intel_words.specs.ReadWords.{four}
use Rattle.intel_words.specs.Printable.{is_printable}
use Rattle.intel_words.specs.Words.{size_word_of, operand_of, words_of}
use Rattle.intel_reader.specs.declared.sizes.SizeSet.{SizeSet}
use Rattle.intel_reader.specs.Assembled.{IsNoText}
use Rattle.intel_reader.specs.Candidate.{text_at}
use Rattle.intel_reader.specs.Possible.{is_counter_word, text_class, takes_words}
use Rattle.intel_reader.specs.Sizes.{has_size, IsRowSize}
use Rattle.intel_reader.proofs.Choosing.{code_below, name_or_counter, printed_facts, row_of_candidate}
use Rattle.intel_reader.proofs.SizedWords.{shown_sized}
use Rattle.intel_reader.proofs.TakenRows.{taken_there}

clash : true ≡ false → ⊥
clash h = cc

-- ---- a size word does not change which rows take the operands

class_sized : (b : Bool) (s : SizeName) (op : OperandText) → text_class (if b then sized_operand s op else op) ≡ text_class op
unfolding text_class sized_operand
class_sized true s Absent = refl
class_sized true s (Reg r) = refl
class_sized true s (Number x) = refl
class_sized true s (Far selector offset) = refl
class_sized true s (Address a) = refl
class_sized false s op = refl

class_nth : (s : SizeName) (n k : ℕ) (words : IntelWords) → text_class (sized_nth s n k words) ≡ text_class (text_at words k)
unfolding sized_nth
class_nth s n k words = class_sized (n == k) s (text_at words k)

takes_same : (bits : Bits) (row : Row) (s : SizeName) (n : ℕ) (words : IntelWords) → takes_words bits row (sized_words s n words) ≡ takes_words bits row words
unfolding sized_words
takes_same bits row s n words = rw (class_nth s n 0 words, class_nth s n 1 words, class_nth s n 2 words, class_nth s n 3 words) refl

-- ---- the size word of the text is that of the row

by_four : (P : ℕ → Type 0) → P 0 → P 1 → P 2 → P 3 → (n : ℕ) → n < 4 → P n
by_four P a b c d zero h = a
by_four P a b c d (suc zero) h = b
by_four P a b c d (suc (suc zero)) h = c
by_four P a b c d (suc (suc (suc zero))) h = d
by_four P a b c d (suc (suc (suc (suc n)))) h = absurd (omega (arith, h))

operand_sized : (bits : Bits) (row : Row) (i : Instr) (n : ℕ) (o : Operand) (s : SizeName) (op : OperandText) → is_unsized op ≡ true
    → operand_of bits row i n o ≡ sized_operand s op → s ≡ size_word_of row n
unfolding sized_operand is_unsized
operand_sized bits row i n o s (Address a) u e = shown_sized bits row i n o (record a { size = s }) e
operand_sized bits row i n o s Absent u e = absurd (clash (sym u))
operand_sized bits row i n o s (Reg r) u e = absurd (clash (sym u))
operand_sized bits row i n o s (Number x) u e = absurd (clash (sym u))
operand_sized bits row i n o s (Far selector offset) u e = absurd (clash (sym u))

-- where an instruction shows the words with a size word at operand n
abbrev IsShownSized : Bits → Row → List ℕ → Instr → SizeName → IntelWords → ℕ → Type 0
IsShownSized bits row name i s words n = is_unsized (text_at words n) ≡ true → words_of bits row name i ≡ sized_words s n words → s ≡ size_word_of row n

shown_at : (bits : Bits) (row : Row) (name : List ℕ) (i : Instr) (s : SizeName) (words : IntelWords) (n : ℕ) → n < 4 → IsShownSized bits row name i s words n
unfolding words_of sized_words sized_nth
shown_at bits row name i s words n below =
    by_four (λ (k : ℕ). IsShownSized bits row name i s words k)
    (λ u e. operand_sized bits row i 0 (nth_operand i 0) s (text_at words 0) u (ap (λ (w : IntelWords). text_at w 0) e))
    (λ u e. operand_sized bits row i 1 (nth_operand i 1) s (text_at words 1) u (ap (λ (w : IntelWords). text_at w 1) e))
    (λ u e. operand_sized bits row i 2 (nth_operand i 2) s (text_at words 2) u (ap (λ (w : IntelWords). text_at w 2) e))
    (λ u e. operand_sized bits row i 3 (nth_operand i 3) s (text_at words 3) u (ap (λ (w : IntelWords). text_at w 3) e))
    n below

-- ---- the text

-- the text has this name, and these words with this size word at operand n
abbrev pub ShowsSized : Bits → List ℕ → List ℕ → IntelWords → SizeName → ℕ → Type 0
ShowsSized bits text name words s n =
    (row : Row) (own : List ℕ) (i : Instr) → is_printable bits row own i ≡ true → bracket_layout Intel bits row own i ≡ text
    → (name ≡ name_text bits own i) × (words_of bits row own i ≡ sized_words s n words)

-- **the text with a size word that no such row has is of no instruction**
pub refused_size : (bits : Bits) (ip : ℕ) (text name : List ℕ) (words : IntelWords) (n : ℕ) (s : SizeName) (set : SizeSet) → n < 4 → is_unsized (text_at words n) ≡ true
    → is_counter_word name ≡ false → ShowsSized bits text name words s n → (IsRowSize bits words name n s → has_size set s ≡ true) → has_size set s ≡ false → IsNoText bits ip text
refused_size bits ip text name words n s set below u other shows has none b k =
    let there = row_of_candidate bits ip text b k in
    let row : Row = there.0 in
    let own : List ℕ = name_of b.instr.code.0 in
    let p = printed_facts bits ip text b row k there.1 in
    let is = shows row own b.instr p.printable p.layout in
    let taken : takes_words bits row words ≡ true =
    sym (takes_same bits row s n words) ∙ taken_there bits ip text b row (sized_words s n words) k there.1 (sym is.1) in
    let size : s ≡ size_word_of row n = shown_at bits row own b.instr s words n below u is.1 in
    elim (name_or_counter bits own name b.instr is.0) [
      | inl e ↦ clash (sym (has (record {
        code = b.instr.code.0;
        row = row;
        below = code_below bits ip text b k;
        row_is = there.1;
        named = e;
        takes = taken;
        sized = sym size;
      })) ∙ none)
      | inr e ↦ clash (sym e.1 ∙ other)
    ]

-- ---- where the pieces tell

four_below : (n : ℕ) (a b c d : OperandText) → is_unsized (slice_index_or (a ∷ b ∷ c ∷ d ∷ []) n Absent) ≡ true → n < 4
unfolding is_unsized
four_below zero a b c d h = omega arith
four_below (suc zero) a b c d h = omega arith
four_below (suc (suc zero)) a b c d h = omega arith
four_below (suc (suc (suc zero))) a b c d h = omega arith
four_below (suc (suc (suc (suc n)))) a b c d h = absurd (clash (sym h))

read_below : (n : ℕ) (a b c d : Option OperandText) → is_unsized_in n (four a b c d) ≡ true → n < 4
unfolding is_unsized_in four
read_below n (Some a) (Some b) (Some c) (Some d) h = four_below n a b c d h
read_below n _ _ _ _ h = absurd (clash (sym h))

-- there are four operands
pub told_below : (n : ℕ) (head a b c d : List ℕ) → is_told n head a b c d ≡ true → n < 4
unfolding is_told operands_of_pieces
told_below n head a b c d h =
    let h1 = (and_parts (are_commaless a b c d) _ h).1 in
    let h2 = (and_parts (are_leading a b c d) _ h1).1 in
    let h3 = (and_parts (ends_in_name head) _ h2).1 in
    read_below n (operand_in a) (operand_in b) (operand_in c) (operand_in d) h3

-- a row is told by the words that were read, and by those of the pieces
pub row_size_of : (bits : Bits) (words others : IntelWords) (name other : List ℕ) (n : ℕ) (size : SizeName) → words ≡ others → name ≡ other
    → IsRowSize bits words name n size → IsRowSize bits others other n size
row_size_of bits words others name other n size ew en s =
    subst (λ (x : List ℕ). IsRowSize bits others x n size) en (subst (λ (w : IntelWords). IsRowSize bits w name n size) ew s)
