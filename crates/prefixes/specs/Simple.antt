-- The front of bytes with no prefix or a REX alone, and with neither VEX nor second escape byte (Intel SDM volume 2, 2.1.2, 2.2.1).
use Rattle.std.specs.Prelude.{◌≡◌, ℕ, Bool, true, false, ◌&&◌, ◌||◌, not, ◌==◌, if◌then◌else◌, List, [], ◌∷◌, drop}
use Rattle.x86_values.specs.declared.Bits.{Bits}
use Rattle.instruction_parts.specs.Counting.{is_64, is_prefix, is_rex}

-- an opcode byte by itself: no prefix, not 62 in 64-bit mode, and neither C4 nor C5
abbrev pub is_lone_opcode : Bits → ℕ → Bool
is_lone_opcode bits b = not (b == 0xC4 || b == 0xC5) && (not (is_prefix bits b) && not (is_64 bits && b == 0x62))

-- a bit for each of the 64 bytes from 64 * n, set for an opcode byte by itself (2.1.1, 2.2.1.2, 2.3.5)
unfoldable pub lone_opcodes : Bits → ℕ → ℕ
lone_opcodes bits n =
    if n == 0 then 0xBFBFBFBFFFFFFFFF
    else (if n == 1 then (if is_64 bits then 0xFFFFFF0BFFFF0000 else 0xFFFFFF0FFFFFFFFF)
    else (if n == 2 then 0xFFFFFFFFFFFFFFFF else 0xFFF2FFFFFFFFFFCF))

-- what stands behind the escape byte 0F is an opcode byte, and no second escape byte
unfoldable pub is_escaped : List ℕ → Bool
is_escaped [] = false
is_escaped (b ∷ _) = not (b == 0x38 || b == 0x3A || b == 0x0F)

-- the bytes begin with an opcode byte, alone or behind 0F
unfoldable pub is_simple_lead : Bits → List ℕ → Bool
is_simple_lead bits [] = false
is_simple_lead bits (b ∷ bytes) = if b == 0x0F then is_escaped bytes else is_lone_opcode bits b

-- the bytes begin with a REX
unfoldable pub has_rex : Bits → List ℕ → Bool
has_rex bits [] = false
has_rex bits (b ∷ _) = is_64 bits && is_rex b

-- the bytes begin with no prefix or a REX alone, before an opcode byte, alone or behind 0F
abbrev pub is_simple : Bits → List ℕ → Bool
is_simple bits bytes = is_simple_lead bits (if has_rex bits bytes then drop 1 bytes else bytes)

-- the bytes begin with this REX
pub record IsLeadingRex (bits : Bits) (bytes : List ℕ) (rex : ℕ) : Type 0 where
  pub first : bytes ≡ rex ∷ drop 1 bytes
  pub mode : is_64 bits ≡ true
  pub is : is_rex rex ≡ true
