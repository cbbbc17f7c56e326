-- The parts of a text are ASCII.
use Rattle.std.proofs.Common.{◌≡◌, ℕ, zero, suc, ◌+◌, ◌/◌, ◌%◌, ◌<◌, ◌≤◌, Bool, true, false, ◌&&◌, List, [], ◌∷◌, ◌++◌, Option, Some, None, refl, arith, lit<}
use Rattle.std.specs.Prelude.{if◌then◌else◌, ◌==◌, nat_lt, codes}
use Rattle.std.specs.Str.{IsAscii}
use Rattle.std.proofs.lemmas.Bool.{and_parts, and_from, ltb-true, lt-ltb}
use Rattle.x86_values.specs.declared.Segment.{Segment}
use Rattle.x86_values.specs.declared.Segment.TheVariants.{Es, Cs, Ss, Ds, Fs, Gs}
use Rattle.x86_values.specs.declared.Register.{Register}
use Rattle.x86_values.specs.declared.Register.TheVariants.{Low8, High8, R16, R32, R64, Seg, Cr, Dr, St, Mm, Xmm, Ymm, Eip, Rip}
use Rattle.x86_values.specs.Named.{is_named}
use Rattle.text_parts.specs.declared.style.Style.{Style}
use Rattle.text_parts.specs.declared.style.Style.TheVariants.{Intel, Masm, Att}
use Rattle.text_parts.specs.Numbers.{hex_digit, digit_at, last_digits, digit_count, hexadecimal, leading_zero, number, decimal}
use Rattle.text_parts.specs.Registers.{word_name, low_byte_name, high_byte_name, segment_name, name_with_number, general_name, stack_name, register_name, sigil, register, segment_override}

-- each byte is one of ASCII
unfoldable pub all_ascii : List ℕ → Bool
all_ascii [] = true
all_ascii (b ∷ bs) = nat_lt b 128 && all_ascii bs

-- it is so in the word of the contracts
pub ascii-from : (bs : List ℕ) → all_ascii bs ≡ true → IsAscii bs
unfolding all_ascii
ascii-from [] h i = lit< tt
ascii-from (b ∷ bs) h zero = ltb-true b 128 (and_parts (nat_lt b 128) (all_ascii bs) h).0
ascii-from (b ∷ bs) h (suc i) = ascii-from bs (and_parts (nat_lt b 128) (all_ascii bs) h).1 i

-- two texts one behind the other
pub ascii-append : (x y : List ℕ) → all_ascii x ≡ true → all_ascii y ≡ true → all_ascii (x ++ y) ≡ true
unfolding all_ascii
ascii-append [] y hx hy = hy
ascii-append (b ∷ bs) y hx hy =
    let p = and_parts (nat_lt b 128) (all_ascii bs) hx in
    and_from (nat_lt b 128) (all_ascii (bs ++ y)) p.0 (ascii-append bs y p.1 hy)

-- a choice
pub ascii-if : (b : Bool) (x y : List ℕ) → all_ascii x ≡ true → all_ascii y ≡ true → all_ascii (if b then x else y) ≡ true
ascii-if true x y hx hy = hx
ascii-if false x y hx hy = hy

-- one byte
ascii-one : (b : ℕ) (bs : List ℕ) → b < 128 → all_ascii bs ≡ true → all_ascii (b ∷ bs) ≡ true
unfolding all_ascii
ascii-one b bs lt h = and_from (nat_lt b 128) (all_ascii bs) (lt-ltb b 128 lt) h

-- ---- numbers

lt-if : (b : Bool) (x y k : ℕ) → x < k → y < k → (if b then x else y) < k
lt-if true x y k hx hy = hx
lt-if false x y k hx hy = hy

hex_digit-lt : (d : ℕ) → d < 16 → hex_digit d < 128
unfolding hex_digit
hex_digit-lt d lt = lt-if (nat_lt d 10) (48 + d) (87 + d) 128 (omega arith) (omega arith)

last_digits-ascii : (k n : ℕ) → all_ascii (last_digits k n) ≡ true
unfolding all_ascii last_digits digit_at
last_digits-ascii zero n = refl
last_digits-ascii (suc k) n =
    let d : digit_at n k < 16 = omega arith in
    ascii-one (hex_digit (digit_at n k)) (last_digits k n) (hex_digit-lt (digit_at n k) d) (last_digits-ascii k n)

hexadecimal-ascii : (n : ℕ) → all_ascii (hexadecimal n) ≡ true
unfolding hexadecimal
hexadecimal-ascii n = last_digits-ascii (digit_count n) n

leading_zero-ascii : (n : ℕ) → all_ascii (leading_zero n) ≡ true
unfolding all_ascii leading_zero
leading_zero-ascii n = ascii-if (nat_lt _ 10) [] (codes "0") refl refl

-- a number is ASCII
pub number-ascii : (style : Style) (n : ℕ) → all_ascii (number style n) ≡ true
unfolding all_ascii number
number-ascii Masm n =
    ascii-append (leading_zero n) _ (leading_zero-ascii n) (ascii-append (hexadecimal n) (codes "h") (hexadecimal-ascii n) refl)
number-ascii Intel n = ascii-append (codes "0x") (hexadecimal n) refl (hexadecimal-ascii n)
number-ascii Att n = ascii-append (codes "0x") (hexadecimal n) refl (hexadecimal-ascii n)

decimal-two : (n : ℕ) → n < 80 → all_ascii ((48 + n / 10) ∷ (48 + n % 10) ∷ []) ≡ true
unfolding all_ascii
decimal-two n lt = ascii-one (48 + n / 10) ((48 + n % 10) ∷ []) (omega arith) (ascii-one (48 + n % 10) [] (omega arith) refl)

decimal-one : (n : ℕ) → n < 80 → all_ascii ((48 + n) ∷ []) ≡ true
unfolding all_ascii
decimal-one n lt = ascii-one (48 + n) [] (omega arith) refl

-- so is a number in decimal
pub decimal-ascii : (n : ℕ) → n < 80 → all_ascii (decimal n) ≡ true
unfolding decimal
decimal-ascii n lt = ascii-if (nat_lt n 10) _ _ (decimal-one n lt) (decimal-two n lt)

-- ---- registers

word_name-ascii : (n : ℕ) → all_ascii (word_name n) ≡ true
unfolding all_ascii word_name
word_name-ascii n =
    ascii-if (n == 0) _ _ refl (ascii-if (n == 1) _ _ refl (ascii-if (n == 2) _ _ refl (ascii-if (n == 3) _ _ refl
    (ascii-if (n == 4) _ _ refl (ascii-if (n == 5) _ _ refl (ascii-if (n == 6) _ _ refl refl))))))

low_byte_name-ascii : (n : ℕ) → all_ascii (low_byte_name n) ≡ true
unfolding all_ascii low_byte_name
low_byte_name-ascii n =
    ascii-if (n == 0) _ _ refl (ascii-if (n == 1) _ _ refl (ascii-if (n == 2) _ _ refl (ascii-if (n == 3) _ _ refl
    (ascii-if (n == 4) _ _ refl (ascii-if (n == 5) _ _ refl (ascii-if (n == 6) _ _ refl refl))))))

high_byte_name-ascii : (n : ℕ) → all_ascii (high_byte_name n) ≡ true
unfolding all_ascii high_byte_name
high_byte_name-ascii n = ascii-if (n == 0) _ _ refl (ascii-if (n == 1) _ _ refl (ascii-if (n == 2) _ _ refl refl))

-- so is the name of a segment register
pub segment_name-ascii : (s : Segment) → all_ascii (segment_name s) ≡ true
unfolding all_ascii segment_name
segment_name-ascii Es = refl
segment_name-ascii Cs = refl
segment_name-ascii Ss = refl
segment_name-ascii Ds = refl
segment_name-ascii Fs = refl
segment_name-ascii Gs = refl

numbered-ascii : (front : List ℕ) (n : ℕ) (back : List ℕ) → n < 80 → all_ascii front ≡ true → all_ascii back ≡ true
    → all_ascii (name_with_number front n back) ≡ true
numbered-ascii front n back lt hf hb = ascii-append front _ hf (ascii-append (decimal n) back (decimal-ascii n lt) hb)

general_name-ascii : (front : List ℕ) (n : ℕ) (letter : List ℕ) → n < 80 → all_ascii front ≡ true → all_ascii letter ≡ true
    → all_ascii (general_name front n letter) ≡ true
unfolding all_ascii
general_name-ascii front n letter lt hf hl =
    ascii-if (nat_lt n 8) _ _ (ascii-append front (word_name n) hf (word_name-ascii n)) (numbered-ascii (codes "r") n letter lt refl hl)

below-80 : (n k : ℕ) → nat_lt n k ≡ true → k ≤ 16 → n < 80
below-80 n k h le = omega (arith, ltb-true n k h, le)

register_name-ascii : (style : Style) (r : Register) → is_named r ≡ true → all_ascii (register_name style r) ≡ true
unfolding all_ascii register_name stack_name is_named
register_name-ascii style (Low8 n) h =
    ascii-if (nat_lt n 8) _ _ (low_byte_name-ascii n) (numbered-ascii (codes "r") n (codes "b") (below-80 n 16 h (omega arith)) refl refl)
register_name-ascii style (High8 n) h = high_byte_name-ascii n
register_name-ascii style (R16 n) h = general_name-ascii [] n (codes "w") (below-80 n 16 h (omega arith)) refl refl
register_name-ascii style (R32 n) h = general_name-ascii (codes "e") n (codes "d") (below-80 n 16 h (omega arith)) refl refl
register_name-ascii style (R64 n) h = general_name-ascii (codes "r") n [] (below-80 n 16 h (omega arith)) refl refl
register_name-ascii style (Seg s) h = segment_name-ascii s
register_name-ascii style (Cr n) h = numbered-ascii (codes "cr") n [] (below-80 n 16 h (omega arith)) refl refl
register_name-ascii style (Dr n) h = numbered-ascii (codes "dr") n [] (below-80 n 8 h (omega arith)) refl refl
register_name-ascii Intel (St n) h = numbered-ascii (codes "st") n [] (below-80 n 8 h (omega arith)) refl refl
register_name-ascii Masm (St n) h = numbered-ascii (codes "st(") n (codes ")") (below-80 n 8 h (omega arith)) refl refl
register_name-ascii Att (St n) h = numbered-ascii (codes "st(") n (codes ")") (below-80 n 8 h (omega arith)) refl refl
register_name-ascii style (Mm n) h = numbered-ascii (codes "mm") n [] (below-80 n 8 h (omega arith)) refl refl
register_name-ascii style (Xmm n) h = numbered-ascii (codes "xmm") n [] (below-80 n 16 h (omega arith)) refl refl
register_name-ascii style (Ymm n) h = numbered-ascii (codes "ymm") n [] (below-80 n 16 h (omega arith)) refl refl
register_name-ascii style Eip h = refl
register_name-ascii style Rip h = refl

sigil-ascii : (style : Style) → all_ascii (sigil style) ≡ true
unfolding all_ascii sigil
sigil-ascii Intel = refl
sigil-ascii Masm = refl
sigil-ascii Att = refl

-- so is the name of a register
pub register-ascii : (style : Style) (r : Register) → is_named r ≡ true → all_ascii (register style r) ≡ true
unfolding register
register-ascii style r h = ascii-append (sigil style) _ (sigil-ascii style) (register_name-ascii style r h)

-- so is a segment override
pub segment_override-ascii : (style : Style) (seg : Option Segment) → all_ascii (segment_override style seg) ≡ true
unfolding all_ascii segment_override
segment_override-ascii style None = refl
segment_override-ascii style (Some s) =
    ascii-append (sigil style) _ (sigil-ascii style) (ascii-append (segment_name s) (codes ":") (segment_name-ascii s) refl)
