-- No prefix, and a REX as the only one.
use Rattle.std.proofs.Common.{◌≡◌, ℕ, ◌/◌, true, false, ◌==◌, List, [], ◌∷◌, length, Option, Some, None, refl, arith}
use Rattle.x86_values.specs.declared.Bits.{Bits}
use Rattle.x86_values.specs.declared.Bits.TheVariants.{B16, B32, B64}
use Rattle.instruction_parts.specs.declared.row_types.Map.{Map}
use Rattle.instruction_parts.specs.declared.spelling.Vex.{Vex}
use Rattle.instruction_parts.specs.Counting.{is_64, is_rex, is_segment, has_lock, has_66, has_67, counting_repeat, counting_segment, counting_rex}
use Rattle.instruction_parts.specs.Bytes.{state_from, state_of_rex}

-- no prefix says nothing
pub no_prefix : (bits : Bits) (used : ℕ) (vex : Option Vex) (map : Map) (opcode : ℕ) → state_of_rex None used vex map opcode ≡ state_from bits [] used vex map opcode
unfolding state_from has_lock has_66 has_67 counting_repeat counting_segment counting_rex
no_prefix B16 used vex map opcode = refl
no_prefix B32 used vex map opcode = refl
no_prefix B64 used vex map opcode = refl

-- a REX is no other byte than 40 to 4F
other : (b n : ℕ) → is_rex b ≡ true → (n / 16 == 4) ≡ false → (b == n) ≡ false
other b n h e = grind (arith, h, e)

-- a REX alone counts, and says nothing else
pub rex_alone : (b used : ℕ) (vex : Option Vex) (map : Map) (opcode : ℕ) → is_rex b ≡ true → state_of_rex (Some b) used vex map opcode ≡ state_from B64 (b ∷ []) used vex map opcode
unfolding state_from has_lock has_66 has_67 counting_repeat counting_segment counting_rex is_segment
rex_alone b used vex map opcode h =
    rw (other b 0xF0 h refl, other b 0x66 h refl, other b 0x67 h refl, other b 0xF2 h refl, other b 0xF3 h refl, other b 0x26 h refl, other b 0x2E h refl, other b 0x36 h refl, other b 0x3E h refl, other b 0x64 h refl, other b 0x65 h refl, h) refl

-- the same, where nothing stands behind it
pub rex_with_nothing : (bits : Bits) (b : ℕ) (rest prefixes : List ℕ) (used : ℕ) (vex : Option Vex) (map : Map) (opcode : ℕ) → prefixes ≡ b ∷ rest → length rest ≡ 0 → is_64 bits ≡ true → is_rex b ≡ true → state_of_rex (Some b) used vex map opcode ≡ state_from bits prefixes used vex map opcode
rex_with_nothing B64 b [] prefixes used vex map opcode e n m h = rw e (rex_alone b used vex map opcode h)
rex_with_nothing B64 b (x ∷ rest) prefixes used vex map opcode e n m h = cc
rex_with_nothing B16 b rest prefixes used vex map opcode e n m h = cc
rex_with_nothing B32 b rest prefixes used vex map opcode e n m h = cc

-- the same of bytes that are none
pub nothing : (bits : Bits) (prefixes : List ℕ) (used : ℕ) (vex : Option Vex) (map : Map) (opcode : ℕ) → length prefixes ≡ 0 → state_of_rex None used vex map opcode ≡ state_from bits prefixes used vex map opcode
nothing bits [] used vex map opcode e = no_prefix bits used vex map opcode
nothing bits (b ∷ prefixes) used vex map opcode e = cc
