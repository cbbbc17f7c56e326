-- How long names and numbers are at most.
use Rattle.std.proofs.Common.{◌≡◌, ◌+◌, ◌≤◌, length, refl, arith}
use Rattle.std.specs.Prelude.{IsTrue}
use Rattle.std.proofs.lemmas.Bool.{leb-true}
use Rattle.x86_values.specs.declared.Bits.{Bits}
use Rattle.x86_values.specs.declared.Bits.TheVariants.{B16, B32, B64}
use Rattle.x86_values.specs.declared.Instr.{Instr}
use Rattle.x86_values.specs.declared.Segment.{Segment}
use Rattle.x86_values.specs.declared.Register.TheVariants.{Seg}
use Rattle.text_parts.specs.declared.style.Style.{Style}
use Rattle.text_parts.specs.declared.style.Style.TheVariants.{Intel, Masm, Att}
use Rattle.text_parts.specs.Registers.{register, register_name, sigil}
use Rattle.text_parts.specs.PrefixWords.{size_digits}
use Rattle.text_parts.specs.Layout.{long_at, has_one_long}
use Rattle.text_parts.proofs.Bounds.{number-le, decimal-le, segment_name-le, register-le}
use Rattle.text_pieces.proofs.Some.{number-some, register-some}
use Rattle.text_parts.proofs.LayoutBounds.{name_text-le}

-- a size has two digits
pub size_digits-length : (size : Bits) → length (size_digits size) ≡ 2
unfolding size_digits
size_digits-length B16 = refl
size_digits-length B32 = refl
size_digits-length B64 = refl

pub ruleset segment_short = (segment_name-le)

pub ruleset digits_short = (size_digits-length)

pub ruleset name_short = (name_text-le)

pub ruleset number_short = (number-le, number-some)

pub ruleset register_short = (register-le, register-some)

pub ruleset decimal_short = (decimal-le)

-- a segment register has at most three characters
pub segment_register-le : (style : Style) (s : Segment) → length (register style (Seg s)) ≤ 3
unfolding register register_name sigil
segment_register-le Intel s = omega (arith, segment_name-le s)
segment_register-le Masm s = omega (arith, segment_name-le s)
segment_register-le Att s = omega (arith, segment_name-le s)

pub ruleset segment_register_short = (segment_register-le)

-- at most one operand is memory or a far pointer
pub one-long : (i : Instr) → IsTrue (has_one_long i) → long_at i 0 + (long_at i 1 + (long_at i 2 + long_at i 3)) ≤ 1
unfolding has_one_long
one-long i h = leb-true _ 1 h
