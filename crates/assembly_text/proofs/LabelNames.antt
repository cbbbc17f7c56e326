-- Names with a dot in front: no word, no prefix and no instruction begins so.
use Rattle.std.proofs.Common.{◌≡◌, ℕ, zero, suc, ◌<◌, ◌≤◌, Bool, true, false, List, [], ◌∷◌, ◌++◌, length, get_or, map, refl, sym, ap, subst, ◌∙◌, arith, Option, None}
use Rattle.std.specs.Prelude.{◌&&◌, ◌||◌, ◌==◌, cond, bytes_eq, nat_le, nat_lt, IsTrue}
use Rattle.std.proofs.lemmas.Bool.Decides.{nat_tests}
use Rattle.std.proofs.lemmas.Slice.Eq.{bytes_eq-Decides}
use Rattle.text_parts.specs.PrefixWords.{counter_jump}
use Rattle.intel_words.specs.ReadRegisters.{register_named, register_from, register_of_letters, two_letters, letter_number, segment_by, word_number, pointer_byte}
use Rattle.opcode_rows.specs.declared.generated_spots.TheConstants.{ROWS}
use Rattle.opcode_rows.specs.Table.{name_of}
use Rattle.opcode_rows.specs.Words.{is_name}
use Rattle.intel_reader.specs.Possible.{is_counter_word}
use Rattle.intel_reader.specs.Mnemonics.{is_named_below, is_mnemonic}
use Rattle.assembly_text.specs.declared.classes.Class.TheVariants.{Name}
use Rattle.assembly_text.specs.Lines.{is_digit, is_name_byte, lower_byte}
use Rattle.assembly_text.specs.Classes.{is_skipped, long_size_class, size_class, letters_class, register_class, word_class, class_of}
use Rattle.assembly_text.specs.Constants.{is_name_class, is_free_name}
use Rattle.assembly_text.specs.Names.{is_set, is_move, before_condition, other_name, plain_name, is_plain_prefix, is_segment, prefix_of, stem, ending, is_instruction_name}
use Rattle.assembly_text.specs.Labels.{is_label_name}
use Rattle.assembly_text.proofs.Naming.{whole_name}

-- ---- tests

not_true : (b : Bool) → (b ≡ true → ⊥) → b ≡ false
not_true true h = absurd (h refl)
not_true false h = refl

and_false : (a : Bool) → (a && false) ≡ false
and_false true = refl
and_false false = refl

or_false : (a b : Bool) → a ≡ false → b ≡ false → (a || b) ≡ false
or_false a b x y = rw (x, y) refl

cond_none : {X : Type 0} (b : Bool) (o : Option X) → o ≡ None → cond b None o ≡ None
cond_none true o h = refl
cond_none false o h = h

-- ---- no register

letter_none : letter_number 46 ≡ None
unfolding letter_number
letter_none = refl

word_none : (b : ℕ) → word_number 46 b ≡ None
unfolding word_number
word_none b = rw letter_none (cond_none (b == 120) _ (cond_none (b == 112) _ (cond_none (b == 105) None refl)))

two_none : (b : ℕ) → two_letters 46 b ≡ None
unfolding two_letters segment_by
two_none b = rw (letter_none, word_none b) (cond_none (b == 108) _ (cond_none (b == 104) _ (cond_none (b == 115) None refl)))

letters_none : (ms : List ℕ) → register_of_letters 46 ms ≡ None
unfolding register_of_letters pointer_byte
letters_none [] = refl
letters_none (b ∷ []) = two_none b
letters_none (b ∷ c ∷ []) = rw (word_none b) (cond_none (c == 108) None refl)
letters_none (b ∷ c ∷ d ∷ more) = refl

-- nor another word of an operand
dot_class : (ms : List ℕ) → (get_or ms 1 0 == 40) ≡ false → class_of (46 ∷ ms) ≡ Name
unfolding class_of word_class register_named register_from register_class letters_class is_skipped size_class long_size_class is_digit is_name_byte
dot_class ms other = rw (other, letters_none ms) refl

-- ---- no instruction

dot_segment : (ms : List ℕ) → is_segment (46 ∷ ms) ≡ false
unfolding is_segment
dot_segment ms =
    ap (λ (b : Bool). (length (46 ∷ ms) == 2) && b) (and_false (get_or ms 0 0 == 115)) ∙ and_false (length (46 ∷ ms) == 2)

dot_prefix : (ms : List ℕ) → prefix_of (46 ∷ ms) ≡ []
unfolding prefix_of is_plain_prefix
dot_prefix ms = rw (dot_segment ms) refl

dot_whole : (ms : List ℕ) → stem (46 ∷ ms) ++ ending (46 ∷ ms) ≡ 46 ∷ ms
unfolding before_condition is_set is_move plain_name other_name
dot_whole ms = whole_name (46 ∷ ms) refl refl

dot_name : (ms : List ℕ) → is_name (46 ∷ ms) ≡ false
unfolding is_name
dot_name ms =
    ap (λ (b : Bool). nat_lt 0 (length (46 ∷ ms)) && b) (and_false (nat_le (length (46 ∷ ms)) 16)) ∙ and_false (nat_lt 0 (length (46 ∷ ms)))

-- what is no word of the table's names is none of them
not_named : (w : List ℕ) → is_name w ≡ false → ((code : ℕ) → code < ROWS → IsTrue (is_name (name_of code))) → (n : ℕ) → n ≤ ROWS
    → is_named_below n w ≡ false
unfolding is_named_below
not_named w none words zero le = refl
not_named w none words (suc n) le =
    or_false (bytes_eq (name_of n) w) (is_named_below n w)
    (not_true (bytes_eq (name_of n) w) (λ e.
    let yes : is_name w ≡ true = subst (λ (x : List ℕ). is_name x ≡ true) ((bytes_eq-Decides (name_of n) w).0 e) (words n (omega arith)) in
    cc))
    (not_named w none words n (omega arith))

dot_mnemonic : (ms : List ℕ) → ((code : ℕ) → code < ROWS → IsTrue (is_name (name_of code))) → is_mnemonic (46 ∷ ms) ≡ false
unfolding is_mnemonic is_counter_word counter_jump
dot_mnemonic ms words =
    or_false (is_named_below ROWS (46 ∷ ms)) false (not_named (46 ∷ ms) (dot_name ms) words ROWS (omega arith)) refl

dot_instruction : (ms : List ℕ) → ((code : ℕ) → code < ROWS → IsTrue (is_name (name_of code))) → is_instruction_name (46 ∷ ms) ≡ false
unfolding is_instruction_name
dot_instruction ms words =
    or_false (nat_lt 0 (length (prefix_of (46 ∷ ms)))) (is_mnemonic (stem (46 ∷ ms) ++ ending (46 ∷ ms)))
    (ap (λ (p : List ℕ). nat_lt 0 (length p)) (dot_prefix ms)) (ap (λ (w : List ℕ). is_mnemonic w) (dot_whole ms) ∙ dot_mnemonic ms words)

-- ---- in any case

low_other : (c : ℕ) → (c == 40) ≡ false → (lower_byte c == 40) ≡ false
unfolding lower_byte
low_other c other = grind (arith, nat_tests)

low_third : (cs : List ℕ) → (get_or cs 1 0 == 40) ≡ false → (get_or (map lower_byte cs) 1 0 == 40) ≡ false
low_third [] other = refl
low_third (c ∷ []) other = refl
low_third (c ∷ d ∷ ds) other = low_other d other

dot_label : (cs : List ℕ) → (get_or cs 1 0 == 40) ≡ false → ((code : ℕ) → code < ROWS → IsTrue (is_name (name_of code))) → is_label_name (46 ∷ cs) ≡ true
unfolding is_label_name is_free_name is_name_class lower_byte
dot_label cs other words =
    let low = map lower_byte cs in
    rw (dot_class low (low_third cs other), dot_instruction low words) refl

-- such a name may be that of a label
pub dotted : (name : List ℕ) → get_or name 0 0 ≡ 46 → (get_or name 2 0 == 40) ≡ false → ((code : ℕ) → code < ROWS → IsTrue (is_name (name_of code)))
    → is_label_name name ≡ true
dotted [] dot other words = absurd (omega arith)
dotted (c ∷ cs) dot other words = subst (λ (x : ℕ). is_label_name (x ∷ cs) ≡ true) (sym dot) (dot_label cs other words)
