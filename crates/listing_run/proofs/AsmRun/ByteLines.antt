-- The line of a single byte shows it in one or two digits.
use Rattle.std.proofs.Common.{◌≡◌, ◌≢◌, ◌⊎◌, inl, inr, ℕ, zero, suc, ◌+◌, ◌-◌, ◌*◌, ◌/◌, ◌%◌, ◌<◌, ◌≤◌, Bool, true, false, ◌&&◌, List, [], ◌∷◌, ◌++◌, refl, sym, ap, ◌∙◌, subst, arith, length, take, drop, Bor, Option, Some, None}
use Rattle.std.specs.Prelude.{◌==◌, nat_lt, if◌then◌else◌, bytes_eq, codes, MatchOption}
use Rattle.std.specs.Int.Count.{count_leading_zeros}
use Rattle.std.proofs.lemmas.Bool.Decides.{nat_tests}
use Rattle.std.proofs.lemmas.Slice.Eq.{bytes_eq-Decides}
use Rattle.std.proofs.lemmas.List.{take-append-drop}
use Rattle.std.proofs.lemmas.Bool.{and_parts}
use Rattle.text_parts.specs.declared.style.Style.TheVariants.{Intel}
use Rattle.sweep.specs.SweepText.Listing.{byte_directive, single_byte_text}
use Rattle.text_parts.specs.Numbers.{hex_digit, digit_at, last_digits, digit_count, hexadecimal, number}
use Rattle.text_parts.specs.declared.digit_values.LetterCase.TheVariants.{Lower}
use Rattle.text_parts.specs.DigitValues.{digit_value, upper_value}
use Rattle.listing_run.specs.AsmRun.Bytes.{two_digits, byte_of_digits}
use Rattle.listing_run.specs.AsmRun.Lines.{IsByteLine}

-- ---- tests of many numbers

-- a test of all numbers below one
unfoldable all_below : (ℕ → Bool) → ℕ → Bool
all_below P zero = true
all_below P (suc n) = P n && all_below P n

last_or_below : (k n : ℕ) → k < suc n → (k ≡ n) ⊎ (k < n)
last_or_below k n h = grind (arith, nat_tests)

at_each : (P : ℕ → Bool) (n k : ℕ) → all_below P n ≡ true → k < n → P k ≡ true
unfolding all_below
at_each P zero k h lt = absurd (omega arith)
at_each P (suc n) k h lt = elim (last_or_below k n lt) [
  | inl e ↦ subst (λ (x : ℕ). P x ≡ true) (sym e) (and_parts (P n) (all_below P n) h).0
  | inr below ↦ at_each P n k (and_parts (P n) (all_below P n) h).1 below
]

-- ---- the digits of a byte

-- some digits are read as a byte
abbrev is_read_as : ℕ → Option ℕ → Bool
is_read_as b None = false
is_read_as b (Some c) = c == b

read_as : (b : ℕ) (o : Option ℕ) → is_read_as b o ≡ true → o ≡ Some b
read_as b None h = cc
read_as b (Some c) h = let e : c ≡ b = grind (arith, nat_tests, h) in ap Some e

unfoldable reads_back : ℕ → Bool
reads_back b = is_read_as b (byte_of_digits (hexadecimal b))

all_read_back : all_below reads_back 256 ≡ true
unfolding all_below reads_back byte_of_digits two_digits digit_value upper_value hexadecimal last_digits digit_at hex_digit digit_count count_leading_zeros
all_read_back = refl

-- the digits of a byte are read as it
digits_read : (b : ℕ) → b < 256 → byte_of_digits (hexadecimal b) ≡ Some b
unfolding reads_back
digits_read b lt = read_as b (byte_of_digits (hexadecimal b)) (at_each reads_back 256 b all_read_back lt)

-- the digits of a number below 16, and of one below 256
unfoldable has_one : ℕ → Bool
has_one b = bytes_eq (hexadecimal b) (hex_digit b ∷ [])

all_one : all_below has_one 16 ≡ true
unfolding all_below has_one hexadecimal last_digits digit_at hex_digit digit_count count_leading_zeros
all_one = refl

unfoldable has_two : ℕ → Bool
has_two b = bytes_eq (hexadecimal (16 + b)) (hex_digit (1 + b / 16) ∷ (hex_digit (b % 16) ∷ []))

all_two : all_below has_two 240 ≡ true
unfolding all_below has_two hexadecimal last_digits digit_at hex_digit digit_count count_leading_zeros
all_two = refl

same_bytes : (xs ys : List ℕ) → bytes_eq xs ys ≡ true → xs ≡ ys
same_bytes xs ys h = (bytes_eq-Decides xs ys).0 h

one_digit : (d : ℕ) → d < 16 → hexadecimal d ≡ hex_digit d ∷ []
unfolding has_one
one_digit d lt = same_bytes _ _ (at_each has_one 16 d all_one lt)

two_of : (high low : ℕ) → 0 < high → high < 16 → low < 16 → hexadecimal (16 * high + low) ≡ hex_digit high ∷ (hex_digit low ∷ [])
unfolding has_two
two_of high low some h l =
    let b : ℕ = 16 * (high - 1) + low in
    let e : hexadecimal (16 + b) ≡ hex_digit (1 + b / 16) ∷ (hex_digit (b % 16) ∷ []) = same_bytes _ _ (at_each has_two 240 b all_two (omega arith)) in
    let whole : 16 + b ≡ 16 * high + low = omega arith in
    let first : 1 + b / 16 ≡ high = omega arith in
    let second : b % 16 ≡ low = omega arith in
    ap hexadecimal (sym whole) ∙ (e ∙ (ap (λ (x : ℕ). hex_digit x ∷ (hex_digit (b % 16) ∷ [])) first ∙ ap (λ (x : ℕ). hex_digit high ∷ (hex_digit x ∷ [])) second))

-- ---- what is read

digit_read : (c d : ℕ) → digit_value Lower c ≡ Some d → (d < 16) × (c ≡ hex_digit d)
unfolding digit_value upper_value hex_digit
digit_read c d h = grind (arith, nat_tests)

same_value : (x y : ℕ) → Some x ≡ Some y → x ≡ y
same_value x y e = cc

chosen : (t : Bool) (n b : ℕ) → (if t then None else Some n) ≡ Some b → (t ≡ false) × (n ≡ b)
chosen true n b e = cc
chosen false n b e = (refl, same_value n b e)

-- two digits that are read
both_read : (high low : ℕ) (h l : Option ℕ) (b : ℕ) → digit_value Lower high ≡ h → digit_value Lower low ≡ l → two_digits h l ≡ Some b →
    (b < 256) × (high ∷ (low ∷ []) ≡ hexadecimal b)
unfolding two_digits
both_read high low None l b he le e = cc
both_read high low (Some x) None b he le e = cc
both_read high low (Some x) (Some y) b he le e =
    let hx = digit_read high x he in
    let hy = digit_read low y le in
    let is = chosen (x == 0) (16 * x + y) b e in
    let some : 0 < x = grind (arith, nat_tests, is.0) in
    let text : hexadecimal (16 * x + y) ≡ hex_digit x ∷ (hex_digit y ∷ []) = two_of x y some hx.0 hy.0 in
    (omega (arith, hx.0, hy.0, is.1), ap (λ (c : ℕ). c ∷ (low ∷ [])) hx.1 ∙ (ap (λ (c : ℕ). hex_digit x ∷ (c ∷ [])) hy.1 ∙ (sym text ∙ ap hexadecimal is.1)))

-- digits that are read as a byte are its digits
read_digits : (digits : List ℕ) (b : ℕ) → byte_of_digits digits ≡ Some b → (b < 256) × (digits ≡ hexadecimal b)
unfolding byte_of_digits
read_digits [] b e = cc
read_digits (low ∷ []) b e =
    let d = digit_read low b e in
    (omega (arith, d.0), ap (λ (c : ℕ). c ∷ []) d.1 ∙ sym (one_digit b d.0))
read_digits (high ∷ (low ∷ [])) b e = both_read high low _ _ b refl refl e
read_digits (x ∷ (y ∷ (z ∷ zs))) b e = cc

-- ---- the line

-- the front of the line of a byte
abbrev pub front : List ℕ
front = codes "db 0x"

-- the text of a single byte is its front and the byte in hexadecimal
pub line_text : (b : ℕ) → single_byte_text Intel b ≡ front ++ hexadecimal b
unfolding single_byte_text byte_directive number
line_text b = refl

-- digits behind the front that are read make the line of a byte
read_line : (line digits : List ℕ) (b : ℕ) → line ≡ front ++ digits → byte_of_digits digits ≡ Some b → IsByteLine line (b ∷ [])
read_line line digits b is e =
    let d = read_digits digits b e in
    record { byte = b; is_byte = d.0; line_is = is ∙ (ap (λ (xs : List ℕ). front ++ xs) d.1 ∙ sym (line_text b)); bytes_are = refl }

-- where they are not read it is not one
unread_line : (line digits : List ℕ) (bytes : List ℕ) → line ≡ front ++ digits → byte_of_digits digits ≡ None → IsByteLine line bytes → ⊥
unread_line line digits bytes is e h =
    let text : front ++ hexadecimal h.byte ≡ front ++ digits = sym (line_text h.byte) ∙ (sym h.line_is ∙ is) in
    let same : hexadecimal h.byte ≡ digits = cc in
    let read : byte_of_digits digits ≡ Some h.byte = subst (λ (xs : List ℕ). byte_of_digits xs ≡ Some h.byte) same (digits_read h.byte h.is_byte) in
    cc

-- nor is a line without the front
pub other_line : (line bytes : List ℕ) → ((rest : List ℕ) → line ≢ front ++ rest) → IsByteLine line bytes → ⊥
other_line line bytes none h = none (hexadecimal h.byte) (h.line_is ∙ line_text h.byte)

-- a line shows one byte
pub byte_unique : (line xs ys : List ℕ) → IsByteLine line xs → IsByteLine line ys → xs ≡ ys
byte_unique line xs ys h k =
    let text : front ++ hexadecimal h.byte ≡ front ++ hexadecimal k.byte = sym (line_text h.byte) ∙ (sym h.line_is ∙ (k.line_is ∙ line_text k.byte)) in
    let same : hexadecimal h.byte ≡ hexadecimal k.byte = cc in
    let a = digits_read h.byte h.is_byte in
    let b = digits_read k.byte k.is_byte in
    let read : Some h.byte ≡ Some k.byte = sym a ∙ (ap byte_of_digits same ∙ b) in
    let byte : h.byte ≡ k.byte = cc in
    h.bytes_are ∙ (ap (λ (x : ℕ). x ∷ []) byte ∙ sym k.bytes_are)

-- ---- the front, taken away

-- the line without its front, where it has it
pub stripped : (line : List ℕ) (r : Option (Bor (List ℕ))) →
    MatchOption r (bytes_eq (take 5 line) front ≡ false)
    (λ x. (bytes_eq (take 5 line) front ≡ true) × (x.now ≡ drop 5 line) × (length x.now + 5 ≡ length line)) →
    MatchOption r ((rest : List ℕ) → line ≢ front ++ rest) (λ x. line ≡ front ++ x.now)
stripped line None h =
    λ rest e.
    let t : bytes_eq (take 5 line) front ≡ true = ap (λ (xs : List ℕ). bytes_eq (take 5 xs) front) e in
    let both : true ≡ false = sym t ∙ h in cc
stripped line (Some x) h =
    let first : take 5 line ≡ front = same_bytes _ _ h.0 in
    sym (take-append-drop 5 line) ∙ (ap (λ (xs : List ℕ). xs ++ drop 5 line) first ∙ ap (λ (xs : List ℕ). front ++ xs) (sym h.1))

-- what reading the digits answers
pub digits_answer : (line digits : List ℕ) (o : Option ℕ) → line ≡ front ++ digits → o ≡ byte_of_digits digits →
    MatchOption o ((bytes : List ℕ) → IsByteLine line bytes → ⊥) (λ byte. IsByteLine line (byte ∷ []))
digits_answer line digits None is e = λ bytes h. unread_line line digits bytes is (sym e) h
digits_answer line digits (Some b) is e = read_line line digits b is (sym e)
