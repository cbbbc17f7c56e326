-- The lines of a text, and the bytes that they stand for.
use Rattle.std.specs.Prelude.{◌≡◌, ◌⊎◌, ℕ, ◌+◌, ◌<◌, ◌==◌, if◌then◌else◌, List, [], ◌∷◌, ◌++◌, length}
use Rattle.x86_values.specs.declared.Bits.{Bits}
use Rattle.x86_values.specs.Wrapping.{modulo_width}
use Rattle.text_parts.specs.declared.style.Style.TheVariants.{Intel}
use Rattle.sweep.specs.SweepText.Listing.{single_byte_text}
use Rattle.intel_reader.specs.Assembled.{AssemblesTo}

-- ---- the lines

-- a byte in front of the first line of some lines
unfoldable pub with_byte_in_front : ℕ → List (List ℕ) → List (List ℕ)
with_byte_in_front c [] = (c ∷ []) ∷ []
with_byte_in_front c (line ∷ lines) = (c ∷ line) ∷ lines

-- the lines of some bytes, each ended by a line feed, which is no part of it; bytes behind the last line feed are one more line
unfoldable pub lines_in : List ℕ → List (List ℕ)
lines_in [] = []
lines_in (c ∷ bytes) = if c == 10 then [] ∷ lines_in bytes else with_byte_in_front c (lines_in bytes)

-- ---- their bytes

-- the line of a single byte, as the listing has it where no instruction is read: `db` and the number
pub record IsByteLine (line bytes : List ℕ) : Type 0 where
  pub byte : ℕ
  pub is_byte : byte < 256
  pub line_is : line ≡ single_byte_text Intel byte
  pub bytes_are : bytes ≡ byte ∷ []

-- a line stands for these bytes at an address: it is the text of an instruction there, or the line of a single byte
abbrev pub IsCodeOfLine : Bits → ℕ → List ℕ → List ℕ → Type 0
IsCodeOfLine bits ip line bytes = AssemblesTo bits ip line bytes ⊎ IsByteLine line bytes

-- lines stand for these bytes, each of them at the address, which wraps in the mode, behind the bytes of the lines before it
abbrev pub IsCodeOfLines : Bits → ℕ → List (List ℕ) → List ℕ → Type 0
IsCodeOfLines bits ip [] bytes = bytes ≡ []
IsCodeOfLines bits ip (line ∷ lines) bytes =
    (front : List ℕ) × ((back : List ℕ) × (IsCodeOfLine bits (modulo_width bits ip) line front
    × (IsCodeOfLines bits (ip + length front) lines back × (bytes ≡ front ++ back))))

-- the line of this number, counted from 1, is the first that stands for no bytes
pub record IsBadLine (bits : Bits) (base : ℕ) (lines : List (List ℕ)) (number : ℕ) : Type 0 where
  pub before : List (List ℕ)
  pub bad : List ℕ
  pub behind : List (List ℕ)
  pub are : lines ≡ before ++ bad ∷ behind
  pub code : List ℕ
  pub is_code : IsCodeOfLines bits base before code
  pub neither : (bytes : List ℕ) → IsCodeOfLine bits (modulo_width bits (base + length code)) bad bytes → ⊥
  pub number_is : number ≡ length before + 1
