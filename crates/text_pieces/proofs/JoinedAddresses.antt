-- The characters of the pieces of an address are its text.
use Rattle.std.proofs.Common.{◌≡◌, ℕ, List, [], ◌++◌, Option, Some, None, refl, ap, ◌∙◌, append_assoc}
use Rattle.std.specs.Prelude.{codes}
use Rattle.std.proofs.lemmas.List.{append-nil}
use Rattle.x86_values.specs.declared.Bits.{Bits}
use Rattle.x86_values.specs.declared.Bits.TheVariants.{B16, B32, B64}
use Rattle.x86_values.specs.declared.Segment.{Segment}
use Rattle.x86_values.specs.declared.Register.{Register}
use Rattle.x86_values.specs.declared.Register.TheVariants.{Eip}
use Rattle.x86_values.specs.declared.DispSize.{DispSize}
use Rattle.x86_values.specs.declared.DispSize.TheVariants.{D0, D8, D16, D32, D64}
use Rattle.x86_values.specs.declared.Mem.{Mem}
use Rattle.text_parts.specs.declared.style.Style.{Style}
use Rattle.text_parts.specs.declared.style.Style.TheVariants.{Intel, Masm, Att}
use Rattle.text_parts.specs.Numbers.{number, decimal}
use Rattle.text_parts.specs.Registers.{register_name, register, sigil, segment_name, segment_override}
use Rattle.text_parts.specs.Addresses.{is_relative, is_absolute, is_negative, magnitude, sign, signed_displacement, lone_displacement, relative_word, base_text, joint, scale_text, index_text, sum_text, inside, bracket_segment, bracketed_address}
use Rattle.text_pieces.specs.Tokens.{Token, joined}
use Rattle.text_pieces.specs.Addresses.{register_pieces, signed_pieces, lone_pieces, relative_pieces, base_pieces, joint_pieces, scale_mark, scale_pieces, index_pieces, sum_pieces, inside_pieces, override_pieces, bracket_segment_pieces, bracketed_pieces}
use Rattle.text_pieces.proofs.Joined.{joined-both, joined-if, joined-either, joined-option, nil-behind}

-- a register
pub register-joined : (style : Style) (n : ℕ) (r : Register) → joined (register_pieces style n r) ≡ register style r
register-joined style n r = append-nil (register style r)

-- nothing, or a part, by the size of a displacement
pub joined-displaced : (size : DispSize) (xs : List Token) (text : List ℕ) → joined xs ≡ text
    → joined (elim size as (λ _. List Token) [ D0 ↦ [] | _ ↦ xs ]) ≡ (elim size as (λ _. List ℕ) [ D0 ↦ [] | _ ↦ text ])
joined-displaced D0 xs text h = refl
joined-displaced D8 xs text h = h
joined-displaced D16 xs text h = h
joined-displaced D32 xs text h = h
joined-displaced D64 xs text h = h

-- a displacement beside a register
pub signed-joined : (style : Style) (asize : Bits) (n : ℕ) (m : Mem) → joined (signed_pieces style asize n m) ≡ signed_displacement style asize m
unfolding signed_pieces signed_displacement
signed-joined style asize n m =
    joined-displaced m.disp_size _ _ (nil-behind (sign style (is_negative asize m.disp)) (number style (magnitude asize m.disp)))

-- a displacement that stands alone
pub lone-joined : (style : Style) (asize : Bits) (n : ℕ) (m : Mem) → joined (lone_pieces style asize n m) ≡ lone_displacement style m
unfolding lone_pieces lone_displacement
lone-joined style asize n m = joined-displaced m.disp_size _ _ (append-nil (number style m.disp))

relative-joined : (style : Style) (n : ℕ) (base : Option Register) → joined (relative_pieces style n base) ≡ relative_word style base
unfolding relative_pieces relative_word
relative-joined Intel n (Some Eip) = refl
relative-joined Intel n _ = refl
relative-joined Masm n base = refl
relative-joined Att n base = refl

-- a base or nothing
pub base-joined : (style : Style) (n : ℕ) (base : Option Register) → joined (base_pieces style n base) ≡ base_text style base
unfolding base_pieces base_text
base-joined style n None = refl
base-joined style n (Some r) = register-joined style n r

joint-joined : (n : ℕ) (base : Option Register) → joined (joint_pieces n base) ≡ joint base
unfolding joint_pieces joint
joint-joined n None = refl
joint-joined n (Some r) = refl

-- what stands in front of a scale, as characters
abbrev pub mark_of : Style → List ℕ
mark_of Att = codes ","
mark_of _ = codes "*"

-- a scale
pub scale-joined : (style : Style) (asize : Bits) (n : ℕ) (m : Mem) → joined (scale_pieces style asize n m) ≡ scale_text (mark_of style) asize m.scale
unfolding scale_pieces scale_mark scale_text
scale-joined style B16 n m = refl
scale-joined Intel B32 n m = nil-behind (codes "*") (decimal m.scale)
scale-joined Masm B32 n m = nil-behind (codes "*") (decimal m.scale)
scale-joined Att B32 n m = nil-behind (codes ",") (decimal m.scale)
scale-joined Intel B64 n m = nil-behind (codes "*") (decimal m.scale)
scale-joined Masm B64 n m = nil-behind (codes "*") (decimal m.scale)
scale-joined Att B64 n m = nil-behind (codes ",") (decimal m.scale)

-- a style with brackets
abbrev pub HasBrackets : Style → Type 0
HasBrackets style = mark_of style ≡ codes "*"

index-joined : (style : Style) (asize : Bits) (n : ℕ) (m : Mem) → HasBrackets style → joined (index_pieces style asize n m) ≡ index_text style asize m
unfolding index_pieces index_text
index-joined style asize n m h =
    joined-option m.index _ _
    (λ r. joined-both (joint_pieces n m.base) _ (joint m.base) _ (joint-joined n m.base)
    (joined-both (register_pieces style n r) (scale_pieces style asize n m) (register style r) _ (register-joined style n r)
    (scale-joined style asize n m ∙ ap (λ (mark : List ℕ). scale_text mark asize m.scale) h)))

sum-joined : (style : Style) (asize : Bits) (n : ℕ) (m : Mem) → HasBrackets style → joined (sum_pieces style asize n m) ≡ sum_text style asize m
unfolding sum_pieces sum_text
sum-joined style asize n m h =
    joined-both (base_pieces style n m.base) _ _ _ (base-joined style n m.base)
    (joined-both (index_pieces style asize n m) _ _ _ (index-joined style asize n m h) (signed-joined style asize n m))

target-joined : (style : Style) (asize : Bits) (n : ℕ) (m : Mem) (xs : List Token) → joined xs ≡ number style m.disp
    → joined (relative_pieces style n m.base ++ xs) ≡ relative_word style m.base ++ number style m.disp
target-joined style asize n m xs h = joined-both (relative_pieces style n m.base) xs _ _ (relative-joined style n m.base) h

inside-joined : (style : Style) (asize : Bits) (n : ℕ) (m : Mem) → HasBrackets style → joined (inside_pieces style asize n m) ≡ inside style asize m
unfolding inside_pieces inside
inside-joined style asize n m h =
    joined-either (is_relative m) _ _ _ _
    (target-joined style asize n m _ (append-nil (number style m.disp)))
    (joined-either (is_absolute m) _ _ _ _ (lone-joined style asize n m) (sum-joined style asize n m h))

-- a segment in front of an address
pub override-joined : (style : Style) (n : ℕ) (seg : Option Segment) → joined (override_pieces style n seg) ≡ segment_override style seg
unfolding override_pieces segment_override register register_name
override-joined style n None = refl
override-joined style n (Some s) = append_assoc (sigil style) (segment_name s) (codes ":")

bracket_segment-joined : (style : Style) (n : ℕ) (seg : Option Segment) (m : Mem) → joined (bracket_segment_pieces style n seg m) ≡ bracket_segment style seg m
unfolding bracket_segment_pieces bracket_segment
bracket_segment-joined Masm n None m = joined-if (is_absolute m) _ (codes "ds:") refl
bracket_segment-joined Masm n (Some s) m = override-joined Masm n (Some s)
bracket_segment-joined Intel n seg m = override-joined Intel n seg
bracket_segment-joined Att n seg m = override-joined Att n seg

-- an address in brackets
pub bracketed-joined : (style : Style) (seg : Option Segment) (asize : Bits) (n : ℕ) (m : Mem) → HasBrackets style
    → joined (bracketed_pieces style seg asize n m) ≡ bracketed_address style seg asize m
unfolding bracketed_pieces bracketed_address
bracketed-joined style seg asize n m h =
    joined-both (bracket_segment_pieces style n seg m) _ _ _ (bracket_segment-joined style n seg m)
    (ap (λ (text : List ℕ). codes "[" ++ text) (joined-both (inside_pieces style asize n m) _ _ (codes "]") (inside-joined style asize n m h) refl))
