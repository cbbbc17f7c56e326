-- Names and numbers have characters.
use Rattle.std.proofs.Common.{◌≡◌, ℕ, ◌+◌, ◌≤◌, Bool, true, false, List, [], ◌∷◌, ◌++◌, length, rules, arith, length-append}
use Rattle.std.specs.Prelude.{if◌then◌else◌, nat_lt, ◌==◌, codes}
use Rattle.x86_values.specs.declared.Segment.{Segment}
use Rattle.x86_values.specs.declared.Segment.TheVariants.{Es, Cs, Ss, Ds, Fs, Gs}
use Rattle.x86_values.specs.declared.Register.{Register}
use Rattle.x86_values.specs.declared.Register.TheVariants.{Low8, High8, R16, R32, R64, Seg, Cr, Dr, St, Mm, Xmm, Ymm, Eip, Rip}
use Rattle.text_parts.specs.declared.style.Style.{Style}
use Rattle.text_parts.specs.declared.style.Style.TheVariants.{Intel, Masm, Att}
use Rattle.text_parts.specs.Numbers.{number, leading_zero, hexadecimal, decimal}
use Rattle.text_parts.specs.Registers.{word_name, low_byte_name, high_byte_name, segment_name, name_with_number, general_name, stack_name, register_name, sigil, register}

some-if : (b : Bool) (xs ys : List ℕ) → 1 ≤ length xs → 1 ≤ length ys → 1 ≤ length (if b then xs else ys)
some-if true xs ys h k = h
some-if false xs ys h k = k

some-behind : (xs ys : List ℕ) → 1 ≤ length ys → 1 ≤ length (xs ++ ys)
some-behind xs ys h = omega (arith, length-append xs ys)

word_name-some : (n : ℕ) → 1 ≤ length (word_name n)
unfolding word_name
word_name-some n = search (rules, some-if)

low_byte_name-some : (n : ℕ) → 1 ≤ length (low_byte_name n)
unfolding low_byte_name
low_byte_name-some n = search (rules, some-if)

high_byte_name-some : (n : ℕ) → 1 ≤ length (high_byte_name n)
unfolding high_byte_name
high_byte_name-some n = search (rules, some-if)

segment_name-some : (s : Segment) → 1 ≤ length (segment_name s)
unfolding segment_name
segment_name-some Es = omega arith
segment_name-some Cs = omega arith
segment_name-some Ss = omega arith
segment_name-some Ds = omega arith
segment_name-some Fs = omega arith
segment_name-some Gs = omega arith

decimal-some : (n : ℕ) → 1 ≤ length (decimal n)
unfolding decimal
decimal-some n = search (rules, some-if)

numbered-some : (front : List ℕ) (n : ℕ) (back : List ℕ) → 1 ≤ length (name_with_number front n back)
numbered-some front n back = some-behind front _ (omega (arith, length-append (decimal n) back, decimal-some n))

general_name-some : (front : List ℕ) (n : ℕ) (letter : List ℕ) → 1 ≤ length (general_name front n letter)
general_name-some front n letter =
    some-if (nat_lt n 8) _ _ (some-behind front (word_name n) (word_name-some n)) (numbered-some (codes "r") n letter)

stack_name-some : (style : Style) (n : ℕ) → 1 ≤ length (stack_name style n)
unfolding stack_name
stack_name-some Intel n = numbered-some (codes "st") n []
stack_name-some Masm n = numbered-some (codes "st(") n (codes ")")
stack_name-some Att n = numbered-some (codes "st(") n (codes ")")

register_name-some : (style : Style) (r : Register) → 1 ≤ length (register_name style r)
unfolding register_name
register_name-some style (Low8 n) = some-if (nat_lt n 8) _ _ (low_byte_name-some n) (numbered-some (codes "r") n (codes "b"))
register_name-some style (High8 n) = high_byte_name-some n
register_name-some style (R16 n) = general_name-some [] n (codes "w")
register_name-some style (R32 n) = general_name-some (codes "e") n (codes "d")
register_name-some style (R64 n) = general_name-some (codes "r") n []
register_name-some style (Seg s) = segment_name-some s
register_name-some style (Cr n) = numbered-some (codes "cr") n []
register_name-some style (Dr n) = numbered-some (codes "dr") n []
register_name-some style (St n) = stack_name-some style n
register_name-some style (Mm n) = numbered-some (codes "mm") n []
register_name-some style (Xmm n) = numbered-some (codes "xmm") n []
register_name-some style (Ymm n) = numbered-some (codes "ymm") n []
register_name-some style Eip = omega arith
register_name-some style Rip = omega arith

-- a register has a character
pub register-some : (style : Style) (r : Register) → 1 ≤ length (register style r)
unfolding register
register-some style r = some-behind (sigil style) (register_name style r) (register_name-some style r)

-- a number has a character
pub number-some : (style : Style) (n : ℕ) → 1 ≤ length (number style n)
unfolding number
number-some Masm n = some-behind (leading_zero n) _ (some-behind (hexadecimal n) (codes "h") (omega arith))
number-some Intel n = omega arith
number-some Att n = omega arith
