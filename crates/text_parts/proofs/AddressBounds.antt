-- How long the text of an address is at most.
use Rattle.std.proofs.Common.{ℕ, ◌≤◌, Bool, true, false, List, [], length, Option, Some, None, arith}
use Rattle.std.specs.Prelude.{codes}
use Rattle.x86_values.specs.declared.Bits.{Bits}
use Rattle.x86_values.specs.declared.Bits.TheVariants.{B16, B32, B64}
use Rattle.x86_values.specs.declared.Segment.{Segment}
use Rattle.x86_values.specs.declared.Register.{Register}
use Rattle.x86_values.specs.declared.Register.TheVariants.{Eip}
use Rattle.x86_values.specs.declared.DispSize.{DispSize}
use Rattle.x86_values.specs.declared.DispSize.TheVariants.{D0, D8, D16, D32, D64}
use Rattle.x86_values.specs.declared.Mem.{Mem}
use Rattle.text_parts.specs.declared.style.Style.{Style}
use Rattle.text_parts.specs.declared.style.Style.TheVariants.{Intel, Masm, Att}
use Rattle.text_parts.specs.Numbers.{number, decimal}
use Rattle.text_parts.specs.Registers.{register}
use Rattle.text_parts.specs.Addresses.{is_absolute, is_relative, sign, signed_displacement, lone_displacement, relative_word, base_text, joint, scale_text, index_text, sum_text, inside, bracket_segment, bracketed_address}
use Rattle.text_parts.proofs.Bounds.{short_if, short_append, number-le, decimal-le, register-le, segment_override-le}

sign-le : (style : Style) (negative : Bool) → length (sign style negative) ≤ 1
unfolding sign
sign-le Intel true = omega arith
sign-le Masm true = omega arith
sign-le Att true = omega arith
sign-le Intel false = omega arith
sign-le Masm false = omega arith
sign-le Att false = omega arith

-- nothing, or a text that is short
unless_none : (size : DispSize) (text : List ℕ) (k : ℕ) → length text ≤ k → length (elim size as (λ _. List ℕ) [ D0 ↦ [] | _ ↦ text ]) ≤ k
unless_none D0 text k h = omega arith
unless_none D8 text k h = h
unless_none D16 text k h = h
unless_none D32 text k h = h
unless_none D64 text k h = h

-- a displacement behind registers has at most 19 bytes
pub signed_displacement-le : (style : Style) (asize : Bits) (m : Mem) → length (signed_displacement style asize m) ≤ 19
unfolding signed_displacement
signed_displacement-le style asize m =
    unless_none m.disp_size _ 19
    (short_append (sign style _) (number style _) 1 18 (sign-le style _) (number-le style _))

-- a displacement alone has at most 18
pub lone_displacement-le : (style : Style) (m : Mem) → length (lone_displacement style m) ≤ 18
unfolding lone_displacement
lone_displacement-le style m = unless_none m.disp_size _ 18 (number-le style _)

rel_word-le : (base : Option Register) → length (relative_word Intel base) ≤ 6
unfolding relative_word
rel_word-le None = omega arith
rel_word-le (Some Eip) = omega arith
rel_word-le (Some _) = omega arith

relative_word-le : (style : Style) (base : Option Register) → length (relative_word style base) ≤ 6
unfolding relative_word
relative_word-le Intel base = rel_word-le base
relative_word-le Masm base = omega arith
relative_word-le Att base = omega arith

-- a base register has at most 7
pub base_text-le : (style : Style) (base : Option Register) → length (base_text style base) ≤ 7
unfolding base_text
base_text-le style None = omega arith
base_text-le style (Some r) = register-le style r

joint-le : (base : Option Register) → length (joint base) ≤ 1
unfolding joint
joint-le None = omega arith
joint-le (Some r) = omega arith

-- a scale has at most 3
pub scale_text-le : (mark : List ℕ) (asize : Bits) (scale : ℕ) → length mark ≤ 1 → length (scale_text mark asize scale) ≤ 3
unfolding scale_text
scale_text-le mark B16 scale h = omega arith
scale_text-le mark B32 scale h = short_append mark (decimal scale) 1 2 h (decimal-le scale)
scale_text-le mark B64 scale h = short_append mark (decimal scale) 1 2 h (decimal-le scale)

-- nothing, or a text of the register that is there
pub unless_absent : (r : Option Register) (text : Register → List ℕ) (k : ℕ) → ((r : Register) → length (text r) ≤ k) → length (elim r as (λ _. List ℕ) [ None ↦ [] | Some r ↦ text r ]) ≤ k
unless_absent None text k h = omega arith
unless_absent (Some r) text k h = h r

index_text-le : (style : Style) (asize : Bits) (m : Mem) → length (index_text style asize m) ≤ 11
unfolding index_text
index_text-le style asize m =
    unless_absent m.index _ 11
    (λ r. short_append (joint m.base) _ 1 10 (joint-le m.base)
    (short_append (register style r) _ 7 3 (register-le style r) (scale_text-le (codes "*") asize m.scale (omega arith))))

sum_text-le : (style : Style) (asize : Bits) (m : Mem) → length (sum_text style asize m) ≤ 37
unfolding sum_text
sum_text-le style asize m =
    short_append (base_text style m.base) _ 7 30 (base_text-le style m.base)
    (short_append (index_text style asize m) _ 11 19 (index_text-le style asize m) (signed_displacement-le style asize m))

inside-le : (style : Style) (asize : Bits) (m : Mem) → length (inside style asize m) ≤ 37
unfolding inside
inside-le style asize m =
    short_if (is_relative m) _ _ 37
    (omega (arith, short_append (relative_word style m.base) (number style m.disp) 6 18 (relative_word-le style m.base) (number-le style m.disp)))
    (short_if (is_absolute m) _ _ 37 (omega (arith, lone_displacement-le style m)) (sum_text-le style asize m))

bracket_segment-le : (style : Style) (seg : Option Segment) (m : Mem) → length (bracket_segment style seg m) ≤ 4
unfolding bracket_segment
bracket_segment-le Masm None m = short_if (is_absolute m) _ _ 4 (omega arith) (omega arith)
bracket_segment-le Masm (Some s) m = segment_override-le Masm (Some s)
bracket_segment-le Intel seg m = segment_override-le Intel seg
bracket_segment-le Att seg m = segment_override-le Att seg

-- an address in brackets has at most 43
pub bracketed-le : (style : Style) (seg : Option Segment) (asize : Bits) (m : Mem) → length (bracketed_address style seg asize m) ≤ 43
unfolding bracketed_address
bracketed-le style seg asize m =
    short_append (bracket_segment style seg m) _ 4 39 (bracket_segment-le style seg m)
    (short_append (codes "[") _ 1 38 (omega arith)
    (short_append (inside style asize m) _ 37 1 (inside-le style asize m) (omega arith)))
