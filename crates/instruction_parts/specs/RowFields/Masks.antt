-- The conditions of a row in one mode and at one opcode byte, as a list of masks, one for each thing that a table can split by.
use Rattle.std.specs.Prelude.{ℕ, zero, suc, ◌/◌, ◌%◌, Bool, true, false, ◌&&◌, List, [], ◌∷◌, ◌==◌, is_some, if◌then◌else◌}
use Rattle.instruction_parts.specs.declared.row_types.Row.{Row}
use Rattle.instruction_parts.specs.declared.row_types.Plus.{Plus}
use Rattle.instruction_parts.specs.declared.row_types.Plus.TheVariants as plus
use Rattle.instruction_parts.specs.declared.row_types.ModRmRule.{ModRmRule}
use Rattle.instruction_parts.specs.declared.row_types.ModRmRule.TheVariants as rule
use Rattle.instruction_parts.specs.declared.row_fields.Fields.{Fields}
use Rattle.x86_values.specs.declared.Bits.{Bits}
use Rattle.x86_values.specs.declared.Bits.TheVariants.{B16, B32, B64}
use Rattle.instruction_parts.specs.Bytes.{bit}
use Rattle.instruction_parts.specs.Sizes.{has_bang, has_caret}
use Rattle.x86_values.specs.Modes.{size_number}
use Rattle.instruction_parts.specs.RowFields.FieldNumbers.{plain_size}
use Rattle.instruction_parts.specs.RowFields.Holds.{byte_of, byte_holds, prefix_of, prefix_holds, place_holds, size_allows, w_holds, l_holds, rex_b_holds}

-- the values that a field may have
pub data Mask : Type 0 where
  free : Mask
  only : ℕ → Mask
  oneof : List Bool → Mask

-- the test at a number, which is false past the end
unfoldable pub nth : List Bool → ℕ → Bool
nth [] n = false
nth (b ∷ bs) zero = b
nth (b ∷ bs) (suc n) = nth bs n

-- the mask allows the value
unfoldable pub allows : Mask → ℕ → Bool
unfolding nth
allows free v = true
allows (only n) v = v == n
allows (oneof bs) v = nth bs v

-- each mask allows its value; a value that is missing is 0
unfoldable pub meets : List Mask → List ℕ → Bool
unfolding allows
meets [] vs = true
meets (m ∷ ms) [] = allows m 0 && meets ms []
meets (m ∷ ms) (v ∷ vs) = allows m v && meets ms vs

-- a mask of two, three or four values, which is free where each is allowed
unfoldable pub two : Bool → Bool → Mask
two true true = free
two a b = oneof (a ∷ b ∷ [])

-- a mask of three values
unfoldable pub three : Bool → Bool → Bool → Mask
three true true true = free
three a b c = oneof (a ∷ b ∷ c ∷ [])

-- a mask of four values
unfoldable pub four : Bool → Bool → Bool → Bool → Mask
four true true true true = free
four a b c d = oneof (a ∷ b ∷ c ∷ d ∷ [])

-- the reg field of ModRM that a row asks for (2.1.3)
unfoldable pub reg_mask : ModRmRule → Mask
reg_mask (rule.Digit d) = only d
reg_mask (rule.Fixed b) = only (b / 8 % 8)
reg_mask _ = free

-- the r/m field of ModRM that a row asks for (2.1.3)
unfoldable pub rm_mask : ModRmRule → Plus → Mask
rm_mask (rule.Fixed b) plus.Stack = free
rm_mask (rule.Fixed b) _ = only (b % 8)
rm_mask _ _ = free

-- the size that a row makes of it: in 64-bit mode BANG makes it 64, and CARET makes 32 to 64
unfoldable pub marked_size : Bits → Row → Bits → Bits
marked_size B64 r B16 = if has_bang r then B64 else B16
marked_size B64 r B32 = if has_bang r then B64 else (if has_caret r then B64 else B32)
marked_size B64 r B64 = B64
marked_size _ r n = n

-- the operand sizes that a row takes in a mode, as 16, 32 and 64 bits
unfoldable pub size_mask : Bits → Row → Mask
unfolding three marked_size
size_mask bits r =
    three (size_allows r.size (marked_size bits r B16)) (size_allows r.size (marked_size bits r B32)) (size_allows r.size (marked_size bits r B64))

-- what a row asks in a mode at an opcode byte of its own
unfoldable pub masks : Bits → ℕ → Row → List Mask
unfolding two four reg_mask rm_mask size_mask
masks bits op r =
    two (byte_holds r.modrm false) (byte_holds r.modrm true)
    ∷ four (prefix_holds r op 0) (prefix_holds r op 1) (prefix_holds r op 2) (prefix_holds r op 3)
    ∷ two (place_holds r.modrm r.place false) (place_holds r.modrm r.place true)
    ∷ reg_mask r.modrm
    ∷ rm_mask r.modrm r.plus
    ∷ size_mask bits r
    ∷ two (w_holds bits r false) (w_holds bits r true)
    ∷ two (l_holds r.l false) (l_holds r.l true)
    ∷ two (rex_b_holds r op false) (rex_b_holds r op true)
    ∷ []

-- what the fields have, in the same order
unfoldable pub values : Bits → Fields → List ℕ
values bits f =
    bit (is_some f.modrm)
    ∷ prefix_of f.rep f.size66
    ∷ bit (byte_of f.modrm / 64 == 3)
    ∷ byte_of f.modrm / 8 % 8
    ∷ byte_of f.modrm % 8
    ∷ size_number (plain_size bits f.size66 f.w)
    ∷ bit f.w
    ∷ bit f.l
    ∷ bit f.rex_b
    ∷ []
