-- How long the parts of a text are at most.
use Rattle.std.proofs.Common.{ℕ, ◌+◌, ◌≤◌, Bool, true, false, List, [], ◌++◌, length, Option, Some, None, length-append, arith, rules}
use Rattle.std.specs.Prelude.{if◌then◌else◌, nat_lt, codes}
use Rattle.x86_values.specs.declared.Segment.{Segment}
use Rattle.x86_values.specs.declared.Segment.TheVariants.{Es, Cs, Ss, Ds, Fs, Gs}
use Rattle.x86_values.specs.declared.Register.{Register}
use Rattle.x86_values.specs.declared.Register.TheVariants.{Low8, High8, R16, R32, R64, Seg, Cr, Dr, St, Mm, Xmm, Ymm, Eip, Rip}
use Rattle.text_parts.specs.declared.style.Style.{Style}
use Rattle.text_parts.specs.declared.style.Style.TheVariants.{Intel, Masm, Att}
use Rattle.text_parts.specs.Numbers.{digit_count, hexadecimal, leading_zero, number, decimal}
use Rattle.text_parts.specs.Registers.{word_name, low_byte_name, high_byte_name, segment_name, name_with_number, general_name, stack_name, register_name, sigil, register, segment_override}
use Rattle.text_parts.proofs.Digits.{length-last_digits}

-- a choice is as short as both
pub short_if : (b : Bool) (x y : List ℕ) (k : ℕ) → length x ≤ k → length y ≤ k → length (if b then x else y) ≤ k
short_if true x y k hx hy = hx
short_if false x y k hx hy = hy

-- two lists one behind the other
pub short_append : (x y : List ℕ) (a b : ℕ) → length x ≤ a → length y ≤ b → length (x ++ y) ≤ a + b
short_append x y a b hx hy = omega (arith, length-append x y)

digit_count-le : (n : ℕ) → digit_count n ≤ 16
unfolding digit_count
digit_count-le n = omega arith

hexadecimal-le : (n : ℕ) → length (hexadecimal n) ≤ 16
unfolding hexadecimal
hexadecimal-le n = omega (arith, length-last_digits (digit_count n) n, digit_count-le n)

leading_zero-le : (n : ℕ) → length (leading_zero n) ≤ 1
unfolding leading_zero
leading_zero-le n = search (rules, short_if)

-- a number has at most 18 bytes
pub number-le : (style : Style) (n : ℕ) → length (number style n) ≤ 18
unfolding number
number-le Masm n =
    short_append (leading_zero n) _ 1 17 (leading_zero-le n) (short_append (hexadecimal n) _ 16 1 (hexadecimal-le n) (omega arith))
number-le Intel n = omega (arith, hexadecimal-le n)
number-le Att n = omega (arith, hexadecimal-le n)

-- a register number in decimal has at most 2
pub decimal-le : (n : ℕ) → length (decimal n) ≤ 2
unfolding decimal
decimal-le n = search (rules, short_if)

word_name-le : (n : ℕ) → length (word_name n) ≤ 2
unfolding word_name
word_name-le n = search (rules, short_if)

low_byte_name-le : (n : ℕ) → length (low_byte_name n) ≤ 3
unfolding low_byte_name
low_byte_name-le n = search (rules, short_if)

high_byte_name-le : (n : ℕ) → length (high_byte_name n) ≤ 2
unfolding high_byte_name
high_byte_name-le n = search (rules, short_if)

-- the name of a segment register has at most 2
pub segment_name-le : (s : Segment) → length (segment_name s) ≤ 2
unfolding segment_name
segment_name-le Es = omega arith
segment_name-le Cs = omega arith
segment_name-le Ss = omega arith
segment_name-le Ds = omega arith
segment_name-le Fs = omega arith
segment_name-le Gs = omega arith

numbered-le : (front : List ℕ) (n : ℕ) (back : List ℕ) → length (name_with_number front n back) ≤ length front + (2 + length back)
numbered-le front n back =
    short_append front _ (length front) (2 + length back) (omega arith)
    (short_append (decimal n) back 2 (length back) (decimal-le n) (omega arith))

general_name-le : (front : List ℕ) (n : ℕ) (letter : List ℕ) → length front ≤ 2 → length letter ≤ 1 → length (general_name front n letter) ≤ 4
general_name-le front n letter hf hl =
    short_if (nat_lt n 8) _ _ 4
    (omega (arith, short_append front (word_name n) 2 2 hf (word_name-le n)))
    (omega (arith, numbered-le (codes "r") n letter))

register_name-le : (style : Style) (r : Register) → length (register_name style r) ≤ 6
unfolding register_name stack_name
register_name-le style (Low8 n) = short_if (nat_lt n 8) _ _ 6 (omega (arith, low_byte_name-le n)) (omega (arith, numbered-le (codes "r") n (codes "b")))
register_name-le style (High8 n) = omega (arith, high_byte_name-le n)
register_name-le style (R16 n) = omega (arith, general_name-le [] n (codes "w") (omega arith) (omega arith))
register_name-le style (R32 n) = omega (arith, general_name-le (codes "e") n (codes "d") (omega arith) (omega arith))
register_name-le style (R64 n) = omega (arith, general_name-le (codes "r") n [] (omega arith) (omega arith))
register_name-le style (Seg s) = omega (arith, segment_name-le s)
register_name-le style (Cr n) = omega (arith, numbered-le (codes "cr") n [])
register_name-le style (Dr n) = omega (arith, numbered-le (codes "dr") n [])
register_name-le Intel (St n) = omega (arith, numbered-le (codes "st") n [])
register_name-le Masm (St n) = omega (arith, numbered-le (codes "st(") n (codes ")"))
register_name-le Att (St n) = omega (arith, numbered-le (codes "st(") n (codes ")"))
register_name-le style (Mm n) = omega (arith, numbered-le (codes "mm") n [])
register_name-le style (Xmm n) = omega (arith, numbered-le (codes "xmm") n [])
register_name-le style (Ymm n) = omega (arith, numbered-le (codes "ymm") n [])
register_name-le style Eip = omega arith
register_name-le style Rip = omega arith

sigil-le : (style : Style) → length (sigil style) ≤ 1
unfolding sigil
sigil-le Intel = omega arith
sigil-le Masm = omega arith
sigil-le Att = omega arith

-- the name of a register has at most 7
pub register-le : (style : Style) (r : Register) → length (register style r) ≤ 7
unfolding register
register-le style r = short_append (sigil style) _ 1 6 (sigil-le style) (register_name-le style r)

-- a segment override has at most 4
pub segment_override-le : (style : Style) (seg : Option Segment) → length (segment_override style seg) ≤ 4
unfolding segment_override
segment_override-le style None = omega arith
segment_override-le style (Some s) =
    short_append (sigil style) _ 1 3 (sigil-le style) (short_append (segment_name s) _ 2 1 (segment_name-le s) (omega arith))
