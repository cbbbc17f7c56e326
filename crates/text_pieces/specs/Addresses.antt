-- The pieces of addresses.
use Rattle.std.specs.Prelude.{ℕ, if◌then◌else◌, List, [], ◌++◌, Option, Some, None, codes}
use Rattle.x86_values.specs.declared.Bits.{Bits}
use Rattle.x86_values.specs.declared.Bits.TheVariants.{B16}
use Rattle.x86_values.specs.declared.Segment.{Segment}
use Rattle.x86_values.specs.declared.Register.{Register}
use Rattle.x86_values.specs.declared.Register.TheVariants.{Seg, Eip}
use Rattle.x86_values.specs.declared.DispSize.TheVariants.{D0}
use Rattle.x86_values.specs.declared.Mem.{Mem}
use Rattle.text_parts.specs.declared.style.Style.{Style}
use Rattle.text_parts.specs.declared.style.Style.TheVariants.{Intel, Masm, Att}
use Rattle.text_parts.specs.Numbers.{decimal}
use Rattle.text_parts.specs.Registers.{register}
use Rattle.text_parts.specs.Addresses.{is_relative, is_absolute, is_negative, magnitude, sign}
use Rattle.text_pieces.specs.declared.piece.Kind.TheVariants as kind
use Rattle.text_pieces.specs.Tokens.{Token, token, space, keyword, punctuation, operator}
use Rattle.text_pieces.specs.Numbers.{displacement, address, index_scale, number_pieces}

-- a register of operand n
abbrev pub register_pieces : Style → ℕ → Register → List Token
register_pieces style n r = token (Some n) kind.Register (register style r)

-- ---- displacements

-- a displacement beside a register: its sign, if one is written, and its distance from zero
unfoldable pub signed_pieces : Style → Bits → ℕ → Mem → List Token
signed_pieces style asize n m =
    elim m.disp_size [
      | D0 ↦ []
      | _ ↦
          operator n (sign style (is_negative asize m.disp))
          ++ number_pieces style n (magnitude asize m.disp) (displacement asize m)
    ]

-- a displacement that stands alone, which is an address
unfoldable pub lone_pieces : Style → Bits → ℕ → Mem → List Token
lone_pieces style asize n m = elim m.disp_size [ D0 ↦ [] | _ ↦ number_pieces style n m.disp (address asize m) ]

-- ---- inside brackets

-- the word in front of a target that is relative to the instruction pointer
unfoldable pub relative_pieces : Style → ℕ → Option Register → List Token
relative_pieces Intel n (Some Eip) = keyword n (codes "rel32") ++ space (Some n)
relative_pieces Intel n _ = keyword n (codes "rel") ++ space (Some n)
relative_pieces _ n _ = []

-- a base or nothing
unfoldable pub base_pieces : Style → ℕ → Option Register → List Token
base_pieces style n None = []
base_pieces style n (Some r) = register_pieces style n r

-- the plus between a base and an index
unfoldable pub joint_pieces : ℕ → Option Register → List Token
joint_pieces n None = []
joint_pieces n (Some _) = operator n (codes "+")

-- what stands in front of a scale
unfoldable pub scale_mark : Style → ℕ → List Token
scale_mark Att n = punctuation n (codes ",")
scale_mark _ n = operator n (codes "*")

-- the scale, which 16-bit addressing does not have
unfoldable pub scale_pieces : Style → Bits → ℕ → Mem → List Token
scale_pieces style B16 n m = []
scale_pieces style _ n m = scale_mark style n ++ token (Some n) (kind.Number (index_scale m)) (decimal m.scale)

-- an index with its scale, or nothing
unfoldable pub index_pieces : Style → Bits → ℕ → Mem → List Token
index_pieces style asize n m =
    elim m.index [
      | None ↦ []
      | Some r ↦ joint_pieces n m.base ++ (register_pieces style n r ++ scale_pieces style asize n m)
    ]

-- base, index and displacement
unfoldable pub sum_pieces : Style → Bits → ℕ → Mem → List Token
sum_pieces style asize n m =
    base_pieces style n m.base ++ (index_pieces style asize n m ++ signed_pieces style asize n m)

-- what stands inside the brackets
unfoldable pub inside_pieces : Style → Bits → ℕ → Mem → List Token
inside_pieces style asize n m =
    if is_relative m then relative_pieces style n m.base ++ number_pieces style n m.disp (address asize m)
    else (if is_absolute m then lone_pieces style asize n m else sum_pieces style asize n m)

-- a segment in front of an address, with its colon
unfoldable pub override_pieces : Style → ℕ → Option Segment → List Token
override_pieces style n None = []
override_pieces style n (Some s) = register_pieces style n (Seg s) ++ punctuation n (codes ":")

-- the segment in front of the brackets; MASM names DS at an absolute address that has none
unfoldable pub bracket_segment_pieces : Style → ℕ → Option Segment → Mem → List Token
bracket_segment_pieces Masm n None m =
    if is_absolute m then token (Some n) kind.Register (codes "ds") ++ punctuation n (codes ":") else []
bracket_segment_pieces style n seg m = override_pieces style n seg

-- an address in brackets
unfoldable pub bracketed_pieces : Style → Option Segment → Bits → ℕ → Mem → List Token
bracketed_pieces style seg asize n m =
    bracket_segment_pieces style n seg m
    ++ (punctuation n (codes "[") ++ (inside_pieces style asize n m ++ punctuation n (codes "]")))
