-- The texts of registers, features and rows are short.
use Rattle.std.proofs.Common.{◌≡◌, ℕ, ◌+◌, ◌/◌, ◌%◌, ◌<◌, ◌≤◌, Bool, true, false, List, [], ◌∷◌, ◌++◌, length, Option, Some, None, refl, sym, ap, ◌∙◌, subst, length-append, arith, rules}
use Rattle.std.specs.Prelude.{nat_lt, nat_le, ◌&&◌, IsTrue, Result, Ok, Err, if◌then◌else◌, codes}
use Rattle.std.specs.List.{list_all}
use Rattle.std.proofs.lemmas.Bool.{and_parts, leb-true, ltb-true, lt-ltb, cond-true}
use Rattle.x86_values.specs.declared.Segment.{Segment}
use Rattle.x86_values.specs.declared.Register.{Register}
use Rattle.x86_values.specs.declared.Register.TheVariants.{Low8, High8, R16, R32, R64, Seg, Cr, Dr, St, Mm, Xmm, Ymm, Eip, Rip}
use Rattle.x86_values.specs.Named.{is_named}
use Rattle.opcode_rows.specs.declared.generated_spots.TheConstants.{ROWS}
use Rattle.opcode_rows.specs.Table.{name_of}
use Rattle.opcode_rows.specs.Words.{is_name, is_name_byte}
use Rattle.text_parts.specs.declared.style.Style.{Style}
use Rattle.text_parts.specs.declared.style.Style.TheVariants.{Intel, Masm, Att}
use Rattle.text_parts.specs.Numbers.{decimal}
use Rattle.text_parts.specs.Registers.{word_name, low_byte_name, high_byte_name, name_with_number, general_name, stack_name, register_name, sigil, register}
use Rattle.text_parts.proofs.Bounds.{short_if, short_append, decimal-le, segment_name-le}
use Rattle.c_calls.specs.declared.refusal.Refusal.{Refusal}
use Rattle.c_calls.specs.declared.refusal.Refusal.TheVariants.{Code, Register as NoRegister}
use Rattle.c_calls.specs.Answers.{name_answer}
use Rattle.c_calls.specs.Effects.{feature_answer}
use Rattle.c_calls.specs.Names.{shown_register}
use Rattle.c_calls.specs.Sizes.{HasAtMost}
use Rattle.c_calls.proofs.FeatureNames.{feature_short}

-- ---- registers

word_name-le : (n : ℕ) → length (word_name n) ≤ 2
unfolding word_name
word_name-le n = search (rules, short_if)

low_byte_name-le : (n : ℕ) → length (low_byte_name n) ≤ 3
unfolding low_byte_name
low_byte_name-le n = search (rules, short_if)

high_byte_name-le : (n : ℕ) → length (high_byte_name n) ≤ 2
unfolding high_byte_name
high_byte_name-le n = search (rules, short_if)

-- a number below 8 has one digit
digit-le : (n : ℕ) → n < 8 → length (decimal n) ≤ 1
unfolding decimal
digit-le n lt =
    let one : (if nat_lt n 10 then (48 + n) ∷ [] else ((48 + n / 10) ∷ (48 + n % 10) ∷ [])) ≡ (48 + n) ∷ [] =
    cond-true (nat_lt n 10) _ _ (lt-ltb n 10 (omega (arith, lt))) in
    omega (arith, ap length one)

numbered-le : (front : List ℕ) (n digits : ℕ) (back : List ℕ) → length (decimal n) ≤ digits → length (name_with_number front n back) ≤ length front + (digits + length back)
numbered-le front n digits back h =
    short_append front _ (length front) (digits + length back) (omega arith) (short_append (decimal n) back digits (length back) h (omega arith))

general_name-le : (front : List ℕ) (n : ℕ) (letter : List ℕ) → length front ≤ 2 → length letter ≤ 1 → length (general_name front n letter) ≤ 4
general_name-le front n letter hf hl =
    short_if (nat_lt n 8) _ _ 4
    (omega (arith, short_append front (word_name n) 2 2 hf (word_name-le n)))
    (omega (arith, numbered-le (codes "r") n 2 letter (decimal-le n)))

-- the name of a register that there is, without the sign of a style
name-le : (style : Style) (r : Register) → is_named r ≡ true → length (register_name style r) ≤ 5
unfolding is_named register_name stack_name
name-le style (Low8 n) h = short_if (nat_lt n 8) _ _ 5 (omega (arith, low_byte_name-le n)) (omega (arith, numbered-le (codes "r") n 2 (codes "b") (decimal-le n)))
name-le style (High8 n) h = omega (arith, high_byte_name-le n)
name-le style (R16 n) h = omega (arith, general_name-le [] n (codes "w") (omega arith) (omega arith))
name-le style (R32 n) h = omega (arith, general_name-le (codes "e") n (codes "d") (omega arith) (omega arith))
name-le style (R64 n) h = omega (arith, general_name-le (codes "r") n [] (omega arith) (omega arith))
name-le style (Seg s) h = omega (arith, segment_name-le s)
name-le style (Cr n) h = omega (arith, numbered-le (codes "cr") n 2 [] (decimal-le n))
name-le style (Dr n) h = omega (arith, numbered-le (codes "dr") n 2 [] (decimal-le n))
name-le Intel (St n) h = omega (arith, numbered-le (codes "st") n 2 [] (decimal-le n))
name-le Masm (St n) h = omega (arith, numbered-le (codes "st(") n 1 (codes ")") (digit-le n (ltb-true n 8 h)))
name-le Att (St n) h = omega (arith, numbered-le (codes "st(") n 1 (codes ")") (digit-le n (ltb-true n 8 h)))
name-le style (Mm n) h = omega (arith, numbered-le (codes "mm") n 2 [] (decimal-le n))
name-le style (Xmm n) h = omega (arith, numbered-le (codes "xmm") n 2 [] (decimal-le n))
name-le style (Ymm n) h = omega (arith, numbered-le (codes "ymm") n 2 [] (decimal-le n))
name-le style Eip h = omega arith
name-le style Rip h = omega arith

sigil-le : (style : Style) → length (sigil style) ≤ 1
unfolding sigil
sigil-le Intel = omega arith
sigil-le Masm = omega arith
sigil-le Att = omega arith

text-le : (style : Style) (r : Register) → is_named r ≡ true → length (register style r) ≤ 6
unfolding register
text-le style r h = short_append (sigil style) _ 1 5 (sigil-le style) (name-le style r h)

shown-by : (style : Style) (r : Register) (b : Bool) → is_named r ≡ b → HasAtMost 6 (if b then Ok (register style r) else Err NoRegister)
shown-by style r true h = text-le style r h
shown-by style r false h = tt

-- **the text of a register has at most 6 bytes**
pub registers-short : (style : Option Style) (r : Option Register) → HasAtMost 6 (shown_register style r)
unfolding shown_register
registers-short None r = tt
registers-short (Some style) None = tt
registers-short (Some style) (Some r) = shown-by style r (is_named r) refl

-- ---- features

feature-by : (bit : ℕ) (a : Result (List ℕ) Refusal) → feature_answer bit ≡ a → HasAtMost 10 a
feature-by bit (Ok name) h = feature_short bit name h
feature-by bit (Err why) h = tt

-- **the name of a feature has at most 10 bytes**
pub features-short : (bit : ℕ) → HasAtMost 10 (feature_answer bit)
features-short bit = feature-by bit (feature_answer bit) refl

-- ---- rows

word-le : (name : List ℕ) → is_name name ≡ true → length name ≤ 16
unfolding is_name
word-le name h =
    let some = and_parts (nat_lt 0 (length name)) (nat_le (length name) 16 && list_all is_name_byte name) h in
    let few = and_parts (nat_le (length name) 16) (list_all is_name_byte name) some.1 in
    leb-true (length name) 16 few.0

name-by : (words : (code : ℕ) → code < ROWS → IsTrue (is_name (name_of code))) (code : ℕ) (b : Bool) → nat_lt code ROWS ≡ b → HasAtMost 16 (if b then Ok (name_of code) else Err Code)
name-by words code true h = word-le (name_of code) (words code (ltb-true code ROWS h))
name-by words code false h = tt

-- **the name of a row has at most 16 bytes**
pub names-short : (words : (code : ℕ) → code < ROWS → IsTrue (is_name (name_of code))) (code : ℕ) → HasAtMost 16 (name_answer code)
unfolding name_answer
names-short words code = name-by words code (nat_lt code ROWS) refl
