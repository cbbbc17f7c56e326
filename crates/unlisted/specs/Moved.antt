-- The number of an instruction without a row, set anew so that the instruction refers to a goal from another address.
use Rattle.std.specs.Prelude.{◌≡◌, ◌⊎◌, ℕ, ◌+◌, ◌^◌, ◌<◌, ◌≤◌, ◌==◌, ◌&&◌, nat_le, Bool, true, if◌then◌else◌, List, ◌++◌, length, take, drop, Option, Some, None, Ok}
use Rattle.x86_values.specs.declared.Bits.{Bits}
use Rattle.x86_values.specs.declared.Bits.TheVariants.{B16, B64}
use Rattle.x86_values.specs.Wrapping.{width, modulo_width}
use Rattle.row_meaning.specs.Meaning.{sign_extended}
use Rattle.plain_spelling.specs.Values.{low_bytes, is_extended_of, distance}
use Rattle.unlisted.specs.declared.Reference.TheVariants.{Branch}
use Rattle.unlisted.specs.declared.Relative.{Relative}
use Rattle.unlisted.specs.declared.Shape.{Shape}
use Rattle.unlisted.specs.Encodings.{format_of}
use Rattle.unlisted.specs.Measured.{IsMeasuredAs, reference_size, relative_target}

-- what has to be added to the address behind an instruction of `len` bytes at an address to come to a goal (2.2.1.6)
unfoldable pub distance_to : Bits → ℕ → ℕ → ℕ → Relative → ℕ
distance_to bits len at goal r = distance (reference_size bits r.to) (modulo_width B64 (at + len)) goal

-- the goal is an address of the size that the number refers to
abbrev pub is_address : Bits → Relative → ℕ → Bool
is_address bits r goal = modulo_width (reference_size bits r.to) goal == goal

-- the bytes of the number, sign-extended, give the distance to the goal
unfoldable pub number_fits : Bits → ℕ → ℕ → ℕ → Relative → Bool
number_fits bits len at goal r =
    is_address bits r goal
    && (nat_le r.len 8 && is_extended_of r.len (width (reference_size bits r.to)) (distance_to bits len at goal r))

-- the number of an instruction of `len` bytes, if it fits
abbrev pub number_by : Bits → ℕ → ℕ → ℕ → Option Relative → Option ℕ
number_by bits len at goal None = None
number_by bits len at goal (Some r) = if number_fits bits len at goal r then Some (distance_to bits len at goal r) else None

-- the number with which the instruction of a shape refers to a goal from an address, if its bytes hold it
abbrev pub number_to : Bits → Shape → ℕ → ℕ → Option ℕ
number_to bits shape at goal = number_by bits shape.len at goal shape.relative

-- the bytes with other ones from an offset on
unfoldable pub with_bytes : ℕ → List ℕ → List ℕ → List ℕ
with_bytes at new bytes = take at bytes ++ (new ++ drop (at + length new) bytes)

-- the bytes of a number
abbrev pub number_bytes : Bits → ℕ → ℕ → ℕ → Relative → List ℕ
number_bytes bits len at goal r = low_bytes r.len (distance_to bits len at goal r)

-- the bytes of an instruction with its number set anew
abbrev pub bytes_by : Bits → ℕ → ℕ → ℕ → Option Relative → List ℕ → List ℕ
bytes_by bits len at goal None bytes = bytes
bytes_by bits len at goal (Some r) bytes = with_bytes r.at (number_bytes bits len at goal r) bytes

-- the bytes of the instruction of a shape at an address from which it refers to a goal: all are what they were, but for those of its number
abbrev pub bytes_at : Bits → Shape → ℕ → ℕ → List ℕ → List ℕ
bytes_at bits shape at goal bytes = bytes_by bits shape.len at goal shape.relative bytes

-- ---- the instruction at its new address

-- a number whose bytes are these
abbrev pub with_number : List ℕ → Relative → Relative
with_number bytes r = record r { distance = sign_extended 64 bytes }

-- the shape of an instruction whose number has these bytes
abbrev pub shape_with : List ℕ → Shape → Relative → Shape
shape_with bytes shape r = record shape { relative = Some (with_number bytes r) }

-- the bytes have the same shape with the new number, which refers to the goal, and all bytes around the number are the old ones
pub record IsReferring (bits : Bits) (shape : Shape) (r : Relative) (at goal : ℕ) (bytes new : List ℕ) : Type 0 where
  pub shape_is : format_of bits new ≡ Ok (shape_with (number_bytes bits shape.len at goal r) shape r)
  pub refers : relative_target bits at shape.len (Some (with_number (number_bytes bits shape.len at goal r) r)) ≡ Some goal
  pub count : length new ≡ length bytes
  pub before : take r.at new ≡ take r.at bytes
  pub behind : drop (r.at + r.len) new ≡ drop (r.at + r.len) bytes

-- an instruction of its own bytes, whose number fits, refers to its goal
abbrev pub NumbersReferToTheirGoal : Type 0
NumbersReferToTheirGoal = (bits : Bits) (bytes : List ℕ) (shape : Shape) (r : Relative) (at goal n : ℕ)
    → IsMeasuredAs bits bytes shape → length bytes ≡ shape.len → shape.relative ≡ Some r
    → number_to bits shape at goal ≡ Some n
    → IsReferring bits shape r at goal bytes (bytes_at bits shape at goal bytes)

-- a number has 4 bytes, or 2 or 1 in a branch
abbrev pub NumbersHaveTheirLengths : Type 0
NumbersHaveTheirLengths = (bits : Bits) (bytes : List ℕ) (shape : Shape) (r : Relative)
    → IsMeasuredAs bits bytes shape → shape.relative ≡ Some r → (r.len ≡ 4) ⊎ (((r.len ≡ 2) ⊎ (r.len ≡ 1)) × (r.to ≡ Branch))

-- Each goal is in reach but in 64-bit mode, or at RIP, where it is within 2 GiB of the address behind the instruction: a number of 4 bytes fits there, and
-- one of 2 bytes wherever addresses have 16 bits
abbrev pub IsNear : Bits → ℕ → ℕ → ℕ → Relative → Type 0
IsNear bits len at goal r = reference_size bits r.to ≡ B64 → (at + len ≤ 2 ^ 64) × (at + len ≤ goal + 2 ^ 31) × (goal < at + len + 2 ^ 31)

-- a number that has bytes enough fits for a goal in reach
abbrev pub NearGoalsFit : Type 0
NearGoalsFit = (bits : Bits) (len at goal : ℕ) (r : Relative)
    → (r.len ≡ 4) ⊎ ((r.len ≡ 2) × (reference_size bits r.to ≡ B16))
    → goal < 2 ^ width (reference_size bits r.to) → IsNear bits len at goal r
    → number_fits bits len at goal r ≡ true
