-- Addresses in a text: what stands inside the brackets, and the signed displacement.
use Rattle.std.specs.Prelude.{ℕ, ◌-◌, ◌*◌, ◌^◌, Bool, true, false, ◌&&◌, nat_lt, if◌then◌else◌, is_none, List, [], ◌++◌, Option, Some, None, codes}
use Rattle.x86_values.specs.declared.Bits.{Bits}
use Rattle.x86_values.specs.declared.Bits.TheVariants.{B16}
use Rattle.x86_values.specs.declared.Segment.{Segment}
use Rattle.x86_values.specs.declared.Register.{Register}
use Rattle.x86_values.specs.declared.Register.TheVariants.{Eip, Rip}
use Rattle.x86_values.specs.declared.DispSize.TheVariants.{D0}
use Rattle.x86_values.specs.declared.Mem.{Mem}
use Rattle.x86_values.specs.Wrapping.{width, modulo_width}
use Rattle.text_parts.specs.declared.style.Style.{Style}
use Rattle.text_parts.specs.declared.style.Style.TheVariants.{Intel, Masm, Att}
use Rattle.text_parts.specs.Numbers.{number, decimal}
use Rattle.text_parts.specs.Registers.{register, segment_override}

-- the register is the instruction pointer
unfoldable pub is_instruction_pointer : Option Register → Bool
is_instruction_pointer (Some Rip) = true
is_instruction_pointer (Some Eip) = true
is_instruction_pointer _ = false

-- the address is relative to the instruction pointer, and its displacement is the target
abbrev pub is_relative : Mem → Bool
is_relative m = is_instruction_pointer m.base

-- the address has neither base nor index
abbrev pub is_absolute : Mem → Bool
is_absolute m = is_none m.base && is_none m.index

-- ---- displacements

-- a number of address size is below zero as a signed number
unfoldable pub is_negative : Bits → ℕ → Bool
is_negative asize d = nat_lt (2 ^ width asize - 1) (2 * modulo_width asize d)

-- its distance from zero as a signed number
unfoldable pub magnitude : Bits → ℕ → ℕ
magnitude asize d =
    if is_negative asize d then 2 ^ width asize - modulo_width asize d else modulo_width asize d

-- the sign of a displacement beside a register; AT&T writes the displacement first, and no plus
unfoldable pub sign : Style → Bool → List ℕ
sign style true = codes "-"
sign Att false = []
sign _ false = codes "+"

-- a displacement beside a register, as a signed number of address size; none where no bits of it are written
unfoldable pub signed_displacement : Style → Bits → Mem → List ℕ
signed_displacement style asize m =
    elim m.disp_size [ D0 ↦ [] | _ ↦ sign style (is_negative asize m.disp) ++ number style (magnitude asize m.disp) ]

-- a displacement that stands alone, unsigned
unfoldable pub lone_displacement : Style → Mem → List ℕ
lone_displacement style m = elim m.disp_size [ D0 ↦ [] | _ ↦ number style m.disp ]

-- ---- inside brackets

-- the word in front of a target that is relative to the instruction pointer; MASM writes the target alone
unfoldable pub relative_word : Style → Option Register → List ℕ
relative_word Intel (Some Eip) = codes "rel32 "
relative_word Intel _ = codes "rel "
relative_word _ _ = []

-- a base or nothing
unfoldable pub base_text : Style → Option Register → List ℕ
base_text style None = []
base_text style (Some r) = register style r

-- the plus between a base and an index
unfoldable pub joint : Option Register → List ℕ
joint None = []
joint (Some _) = codes "+"

-- the scale, which 16-bit addressing does not have
unfoldable pub scale_text : List ℕ → Bits → ℕ → List ℕ
scale_text mark B16 scale = []
scale_text mark _ scale = mark ++ decimal scale

-- an index with its scale, or nothing
unfoldable pub index_text : Style → Bits → Mem → List ℕ
index_text style asize m =
    elim m.index [ None ↦ [] | Some r ↦ joint m.base ++ (register style r ++ scale_text (codes "*") asize m.scale) ]

-- base, index and displacement
unfoldable pub sum_text : Style → Bits → Mem → List ℕ
sum_text style asize m =
    base_text style m.base ++ (index_text style asize m ++ signed_displacement style asize m)

-- what stands inside the brackets
unfoldable pub inside : Style → Bits → Mem → List ℕ
inside style asize m =
    if is_relative m then relative_word style m.base ++ number style m.disp
    else (if is_absolute m then lone_displacement style m else sum_text style asize m)

-- the segment in front of the brackets; MASM names DS at an absolute address that has none
unfoldable pub bracket_segment : Style → Option Segment → Mem → List ℕ
bracket_segment Masm None m = if is_absolute m then codes "ds:" else []
bracket_segment style seg m = segment_override style seg

-- an address in brackets
unfoldable pub bracketed_address : Style → Option Segment → Bits → Mem → List ℕ
bracketed_address style seg asize m =
    bracket_segment style seg m ++ (codes "[" ++ (inside style asize m ++ codes "]"))
