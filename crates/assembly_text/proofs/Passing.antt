-- One word more of an operand, and digits that are none.
use Rattle.std.proofs.Common.{◌≡◌, ℕ, zero, suc, drop-cons, get_or, ◌+◌, ◌-◌, ◌<◌, ◌≤◌, List, [], ◌∷◌, length, take, drop, Option, Some, None, refl, ap, ◌∙◌, arith}
use Rattle.assembly_text.specs.declared.drafts.Draft.{Draft}
use Rattle.assembly_text.specs.Classes.{class_of}
use Rattle.text_parts.specs.declared.digit_values.LetterCase.TheVariants.{Lower}
use Rattle.text_parts.specs.DigitValues.{digit_value}
use Rattle.assembly_text.specs.Digits.{with_digit, digits_behind}
use Rattle.assembly_text.specs.Drafts.{with_word, with_words, word_len}

-- bytes of a word before are passed
pub passed : (d : Draft) (at skip : ℕ) (text : List ℕ) → with_words d at skip text ≡ with_words d (at + skip) 0 (drop skip text)
unfolding with_words
passed d at zero text = let e : at + 0 ≡ at = omega arith in rw e
passed d at (suc skip) [] = refl
passed d at (suc skip) (c ∷ cs) = let e : at + suc skip ≡ at + 1 + skip = omega arith in rw e (passed d (at + 1) skip cs)

-- the first word is taken
pub one_word : (d : Draft) (at n : ℕ) (text : List ℕ) → 0 < n → n ≡ word_len text → 0 < length text
    → with_words d at 0 text ≡ with_words (with_word d at (class_of (take n text))) (at + n) 0 (drop n text)
unfolding with_words
one_word d at n [] some is long = absurd (omega arith)
one_word d at zero (c ∷ cs) some is long = absurd (omega arith)
one_word d at (suc n) (c ∷ cs) some is long =
    let e : at + suc n ≡ at + 1 + n = omega arith in
    let less : suc n - 1 ≡ n = omega arith in
    rw (← is, e, less) (passed (with_word d at (class_of (c ∷ take n cs))) (at + 1) n cs)

-- no words
pub no_word : (d : Draft) (at : ℕ) (text : List ℕ) → length text ≤ 0 → with_words d at 0 text ≡ d
unfolding with_words
no_word d at [] none = refl
no_word d at (c ∷ cs) none = absurd (omega arith)

-- behind what is no number stand no digits
pub no_number : (radix : ℕ) (cs : List ℕ) → digits_behind radix None cs ≡ None
unfolding digits_behind
no_number radix [] = refl
no_number radix (c ∷ cs) = refl

-- a byte that is no digit
pub bad_digit : (radix value k : ℕ) (text : List ℕ) → k < length text → with_digit radix value (digit_value Lower (get_or text k 0)) ≡ None
    → digits_behind radix (Some value) (drop k text) ≡ None
unfolding digits_behind
bad_digit radix value k text lt none = rw (drop-cons text k 0) (ap (λ (o : Option ℕ). digits_behind radix o (drop (suc k) text)) none ∙ no_number radix (drop (suc k) text))
