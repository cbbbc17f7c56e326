-- The block of an instruction without a row at a place: the instruction, which refers to what it referred to, and the jump back.
use Rattle.std.specs.Prelude.{◌≡◌, ◌⊎◌, ℕ, ◌+◌, ◌^◌, ◌<◌, ◌≤◌, Bool, true, false, List, ◌++◌, take, drop, Option, Some, None, Result, Ok, Err}
use Rattle.x86_values.specs.declared.Bits.{Bits}
use Rattle.x86_values.specs.declared.Bits.TheVariants.{B16, B32, B64}
use Rattle.x86_values.specs.declared.Instr.{Instr}
use Rattle.x86_values.specs.Wrapping.{width, modulo_width}
use Rattle.row_meaning.specs.Meaning.{sign_extended}
use Rattle.plain_spelling.specs.declared.NoSpelling.{NoSpelling}
use Rattle.plain_spelling.specs.Values.{low_bytes, is_extended_of, distance}
use Rattle.encoder.specs.Encoding.{encoding}
use Rattle.unlisted.specs.declared.Relative.{Relative}
use Rattle.unlisted.specs.declared.Shape.{Shape}
use Rattle.unlisted.specs.declared.MeasureError.{MeasureError}
use Rattle.unlisted.specs.Measured.{IsMeasuredAs, IsMeasured, reference_size}
use Rattle.step_slots.specs.declared.unlisted_step.UnlistedStep.{UnlistedStep}
use Rattle.step_slots.specs.declared.unlisted_step.UnlistedStepError.{UnlistedStepError}
use Rattle.step_slots.specs.declared.unlisted_step.UnlistedStepError.TheVariants.{NotMeasured, Wraps, TooFar}
use Rattle.step_slots.specs.Block.{jump_to}

-- how many bytes the jump back has: the opcode byte, and an offset of 16 bits in 16-bit mode, else of 32 (JMP)
abbrev pub jump_len : Bits → ℕ
jump_len B16 = 3
jump_len B32 = 5
jump_len B64 = 5

-- where the block ends
abbrev pub block_end : Bits → ℕ → Shape → ℕ
block_end bits place shape = place + shape.len + jump_len bits

-- the jump from behind the instruction at the place to behind it where it stood
abbrev pub jump_back : Bits → ℕ → ℕ → Instr
jump_back bits ip len = jump_to bits (modulo_width bits (ip + len))

-- the address that a number of an instruction of `len` bytes refers to: behind the instruction, plus the number (2.2.1.6)
abbrev pub refers_to : Bits → ℕ → ℕ → Relative → ℕ
refers_to bits ip len r = modulo_width (reference_size bits r.to) (ip + len + r.distance)

-- the number that refers to the same address from the place
abbrev pub number_at : Bits → ℕ → ℕ → ℕ → Relative → ℕ
number_at bits ip place len r = distance (reference_size bits r.to) (place + len) (refers_to bits ip len r)

-- the bytes of the number hold that, sign-extended
abbrev pub number_fits : Bits → ℕ → ℕ → ℕ → Relative → Bool
number_fits bits ip place len r = is_extended_of r.len (width (reference_size bits r.to)) (number_at bits ip place len r)

-- an instruction without such a number may stand anywhere
abbrev pub Reaches : Bits → ℕ → ℕ → ℕ → Option Relative → Type 0
Reaches bits ip place len None = Unit {0}
Reaches bits ip place len (Some r) = number_fits bits ip place len r ≡ true

-- the bytes of the instruction at the place: all are what they were, but for the number
abbrev pub bytes_at : Bits → ℕ → ℕ → ℕ → Option Relative → List ℕ → List ℕ
bytes_at bits ip place len None own = own
bytes_at bits ip place len (Some r) own =
    take r.at own ++ (low_bytes r.len (number_at bits ip place len r) ++ drop (r.at + r.len) own)

-- the number of an instruction cannot be set so that it refers to its address
abbrev pub IsNumberFar : Bits → ℕ → ℕ → ℕ → Option Relative → ℕ → Type 0
IsNumberFar bits ip place len None target = ⊥
IsNumberFar bits ip place len (Some r) target = (number_fits bits ip place len r ≡ false) × (target ≡ refers_to bits ip len r)

-- the jump back does not reach
pub record IsJumpFar (bits : Bits) (ip place len target : ℕ) : Type 0 where
  pub cause : NoSpelling
  pub refused : encoding bits (place + len) (jump_back bits ip len) ≡ Err cause
  pub is : target ≡ modulo_width bits (ip + len)

-- the bytes of an instruction at the place, and the jump back, or that this does not reach
abbrev pub IsJumped : Bits → ℕ → ℕ → ℕ → List ℕ → Result UnlistedStep UnlistedStepError → Type 0
IsJumped bits ip place len own (Ok step) =
    (jump : List ℕ) × ((encoding bits (place + len) (jump_back bits ip len) ≡ Ok jump) × ((step.bytes.items ≡ own ++ jump) × (step.len ≡ len)))
IsJumped bits ip place len own (Err (TooFar target)) = IsJumpFar bits ip place len target
IsJumped bits ip place len own (Err (Wraps end)) = ⊥
IsJumped bits ip place len own (Err (NotMeasured why)) = ⊥

-- the block of an instruction with these bytes and this shape
pub record IsUnlistedBlock (bits : Bits) (ip : ℕ) (own : List ℕ) (place : ℕ) (shape : Shape) (step : UnlistedStep) : Type 0 where
  pub inside : block_end bits place shape ≤ 2 ^ width bits
  pub reaches : Reaches bits ip place shape.len shape.relative
  pub jump : List ℕ
  pub encoded : encoding bits (place + shape.len) (jump_back bits ip shape.len) ≡ Ok jump
  pub bytes : step.bytes.items ≡ bytes_at bits ip place shape.len shape.relative own ++ jump
  pub len : step.len ≡ shape.len

-- the block ends inside the address space, and the instruction or the jump back does not reach its target
pub record IsUnlistedFar (bits : Bits) (ip place : ℕ) (shape : Shape) (target : ℕ) : Type 0 where
  pub inside : block_end bits place shape ≤ 2 ^ width bits
  pub why : IsNumberFar bits ip place shape.len shape.relative target
      ⊎ (Reaches bits ip place shape.len shape.relative × IsJumpFar bits ip place shape.len target)

-- the block of a measured instruction, or why there is none
abbrev pub IsShapeStood : Bits → ℕ → List ℕ → ℕ → Shape → Result UnlistedStep UnlistedStepError → Type 0
IsShapeStood bits ip own place shape (Ok step) = IsUnlistedBlock bits ip own place shape step
IsShapeStood bits ip own place shape (Err (Wraps end)) = (end ≡ block_end bits place shape) × (2 ^ width bits < end)
IsShapeStood bits ip own place shape (Err (TooFar target)) = IsUnlistedFar bits ip place shape target
IsShapeStood bits ip own place shape (Err (NotMeasured why)) = ⊥

-- the answer for the instruction at the front of some bytes
pub data IsUnlistedStood (bits : Bits) (ip : ℕ) (bytes : List ℕ) (place : ℕ) (answer : Result UnlistedStep UnlistedStepError) : Type 0 where
  measured : (shape : Shape) → IsMeasuredAs bits bytes shape → IsShapeStood bits ip (take shape.len bytes) place shape answer
      → IsUnlistedStood bits ip bytes place answer
  not_measured : (why : MeasureError) → IsMeasured bits bytes (Err why) → answer ≡ Err (NotMeasured why) → IsUnlistedStood bits ip bytes place answer

-- from the place the number that is written, of 2 or 4 bytes and sign-extended, refers to the address that the old one refers to
abbrev pub NumbersKeepTheirAddress : Type 0
NumbersKeepTheirAddress = (bits : Bits) (ip place len : ℕ) (r : Relative) → (r.len ≡ 2) ⊎ (r.len ≡ 4) → place + len ≤ 2 ^ 64
    → number_fits bits ip place len r ≡ true
    → refers_to bits place len (record r { distance = sign_extended 64 (low_bytes r.len (number_at bits ip place len r)) }) ≡ refers_to bits ip len r
