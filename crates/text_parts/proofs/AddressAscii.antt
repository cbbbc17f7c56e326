-- The text of an address is ASCII.
use Rattle.std.proofs.Common.{◌≡◌, ℕ, ◌<◌, Bool, true, false, List, [], ◌++◌, Option, Some, None, refl}
use Rattle.std.specs.Prelude.{codes}
use Rattle.x86_values.specs.declared.Bits.{Bits}
use Rattle.x86_values.specs.declared.Bits.TheVariants.{B16, B32, B64}
use Rattle.x86_values.specs.declared.Segment.{Segment}
use Rattle.x86_values.specs.declared.Register.{Register}
use Rattle.x86_values.specs.declared.Register.TheVariants.{Eip}
use Rattle.x86_values.specs.declared.DispSize.{DispSize}
use Rattle.x86_values.specs.declared.DispSize.TheVariants.{D0, D8, D16, D32, D64}
use Rattle.x86_values.specs.declared.Mem.{Mem}
use Rattle.x86_values.specs.Named.{is_named, is_named_if}
use Rattle.text_parts.specs.declared.style.Style.{Style}
use Rattle.text_parts.specs.declared.style.Style.TheVariants.{Intel, Masm, Att}
use Rattle.text_parts.specs.Numbers.{number, decimal}
use Rattle.text_parts.specs.Registers.{register}
use Rattle.text_parts.specs.Addresses.{is_absolute, is_relative, sign, signed_displacement, lone_displacement, relative_word, base_text, joint, scale_text, index_text, sum_text, inside, bracket_segment, bracketed_address}
use Rattle.text_parts.proofs.Ascii.{all_ascii, ascii-if, ascii-append, number-ascii, decimal-ascii, register-ascii, segment_override-ascii}

sign-ascii : (style : Style) (negative : Bool) → all_ascii (sign style negative) ≡ true
unfolding all_ascii sign
sign-ascii Intel true = refl
sign-ascii Masm true = refl
sign-ascii Att true = refl
sign-ascii Intel false = refl
sign-ascii Masm false = refl
sign-ascii Att false = refl

-- nothing, or a text that is ASCII
unless_none : (size : DispSize) (text : List ℕ) → all_ascii text ≡ true → all_ascii (elim size as (λ _. List ℕ) [ D0 ↦ [] | _ ↦ text ]) ≡ true
unfolding all_ascii
unless_none D0 text h = refl
unless_none D8 text h = h
unless_none D16 text h = h
unless_none D32 text h = h
unless_none D64 text h = h

-- a displacement behind registers is ASCII
pub signed_displacement-ascii : (style : Style) (asize : Bits) (m : Mem) → all_ascii (signed_displacement style asize m) ≡ true
unfolding signed_displacement
signed_displacement-ascii style asize m =
    unless_none m.disp_size _ (ascii-append (sign style _) (number style _) (sign-ascii style _) (number-ascii style _))

-- so is a displacement alone
pub lone_displacement-ascii : (style : Style) (m : Mem) → all_ascii (lone_displacement style m) ≡ true
unfolding lone_displacement
lone_displacement-ascii style m = unless_none m.disp_size _ (number-ascii style _)

rel_word-ascii : (base : Option Register) → all_ascii (relative_word Intel base) ≡ true
unfolding all_ascii relative_word
rel_word-ascii None = refl
rel_word-ascii (Some Eip) = refl
rel_word-ascii (Some _) = refl

relative_word-ascii : (style : Style) (base : Option Register) → all_ascii (relative_word style base) ≡ true
unfolding all_ascii relative_word
relative_word-ascii Intel base = rel_word-ascii base
relative_word-ascii Masm base = refl
relative_word-ascii Att base = refl

-- so is a base register
pub base_text-ascii : (style : Style) (base : Option Register) → is_named_if base ≡ true → all_ascii (base_text style base) ≡ true
unfolding all_ascii base_text is_named_if
base_text-ascii style None h = refl
base_text-ascii style (Some r) h = register-ascii style r h

joint-ascii : (base : Option Register) → all_ascii (joint base) ≡ true
unfolding all_ascii joint
joint-ascii None = refl
joint-ascii (Some r) = refl

-- so is a scale
pub scale_text-ascii : (mark : List ℕ) (asize : Bits) (scale : ℕ) → scale < 80 → all_ascii mark ≡ true → all_ascii (scale_text mark asize scale) ≡ true
unfolding all_ascii scale_text
scale_text-ascii mark B16 scale lt h = refl
scale_text-ascii mark B32 scale lt h = ascii-append mark (decimal scale) h (decimal-ascii scale lt)
scale_text-ascii mark B64 scale lt h = ascii-append mark (decimal scale) h (decimal-ascii scale lt)

-- nothing, or a text of the register that is there
pub unless_absent : (r : Option Register) (text : Register → List ℕ) → is_named_if r ≡ true
    → ((r : Register) → is_named r ≡ true → all_ascii (text r) ≡ true)
    → all_ascii (elim r as (λ _. List ℕ) [ None ↦ [] | Some r ↦ text r ]) ≡ true
unfolding all_ascii is_named_if
unless_absent None text h each = refl
unless_absent (Some r) text h each = each r h

-- the registers of an address exist, and its scale is below 80
pub record IsPrintable (m : Mem) : Type 0 where
  pub base : is_named_if m.base ≡ true
  pub index : is_named_if m.index ≡ true
  pub scale : m.scale < 80

index_text-ascii : (style : Style) (asize : Bits) (m : Mem) → IsPrintable m → all_ascii (index_text style asize m) ≡ true
unfolding all_ascii index_text
index_text-ascii style asize m p =
    unless_absent m.index _ p.index
    (λ r named. ascii-append (joint m.base) _ (joint-ascii m.base)
    (ascii-append (register style r) _ (register-ascii style r named) (scale_text-ascii (codes "*") asize m.scale p.scale refl)))

sum_text-ascii : (style : Style) (asize : Bits) (m : Mem) → IsPrintable m → all_ascii (sum_text style asize m) ≡ true
unfolding sum_text
sum_text-ascii style asize m p =
    ascii-append (base_text style m.base) _ (base_text-ascii style m.base p.base)
    (ascii-append (index_text style asize m) _ (index_text-ascii style asize m p) (signed_displacement-ascii style asize m))

inside-ascii : (style : Style) (asize : Bits) (m : Mem) → IsPrintable m → all_ascii (inside style asize m) ≡ true
unfolding inside
inside-ascii style asize m p =
    ascii-if (is_relative m) _ _
    (ascii-append (relative_word style m.base) (number style m.disp) (relative_word-ascii style m.base) (number-ascii style m.disp))
    (ascii-if (is_absolute m) _ _ (lone_displacement-ascii style m) (sum_text-ascii style asize m p))

bracket_segment-ascii : (style : Style) (seg : Option Segment) (m : Mem) → all_ascii (bracket_segment style seg m) ≡ true
unfolding all_ascii bracket_segment
bracket_segment-ascii Masm None m = ascii-if (is_absolute m) _ _ refl refl
bracket_segment-ascii Masm (Some s) m = segment_override-ascii Masm (Some s)
bracket_segment-ascii Intel seg m = segment_override-ascii Intel seg
bracket_segment-ascii Att seg m = segment_override-ascii Att seg

-- so is an address in brackets
pub bracketed-ascii : (style : Style) (seg : Option Segment) (asize : Bits) (m : Mem) → IsPrintable m
    → all_ascii (bracketed_address style seg asize m) ≡ true
unfolding all_ascii bracketed_address
bracketed-ascii style seg asize m p =
    ascii-append (bracket_segment style seg m) _ (bracket_segment-ascii style seg m)
    (ascii-append (codes "[") (inside style asize m ++ codes "]") refl (ascii-append (inside style asize m) (codes "]") (inside-ascii style asize m p) refl))
