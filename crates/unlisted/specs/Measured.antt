-- What is measured: what a format gives where the table has no instruction.
use Rattle.std.specs.Prelude.{◌≡◌, ℕ, ◌+◌, ◌≤◌, List, take, Option, Some, None, Result, Ok, Err}
use Rattle.x86_values.specs.declared.Bits.{Bits}
use Rattle.x86_values.specs.declared.Bits.TheVariants.{B32, B64}
use Rattle.x86_values.specs.declared.Decoded.{Decoded}
use Rattle.x86_values.specs.Wrapping.{modulo_width}
use Rattle.row_relation.specs.Spells.{Read, Invalid}
use Rattle.opcode_rows.specs.Reading.{IsRead}
use Rattle.unlisted.specs.declared.Reference.{Reference}
use Rattle.unlisted.specs.declared.Reference.TheVariants.{Rip, Eip, Branch}
use Rattle.unlisted.specs.declared.Relative.{Relative}
use Rattle.unlisted.specs.declared.Shape.{Shape}
use Rattle.unlisted.specs.declared.MeasureError.{MeasureError}
use Rattle.unlisted.specs.declared.MeasureError.TheVariants.{Ended, Unknown}
use Rattle.unlisted.specs.Encodings.{format_of}

-- no instruction of the table is read at the front of the bytes, at any address
abbrev pub ReadsNothing : Bits → List ℕ → Type 0
ReadsNothing bits bytes = (ip : ℕ) (d : Decoded) → IsRead bits ip bytes (Read d) → ⊥

-- nor with more bytes behind them
abbrev pub IsNeverRead : Bits → List ℕ → Type 0
IsNeverRead bits bytes = (ip : ℕ) → IsRead bits ip bytes Invalid

-- the format gives the shape, and the table has nothing that its bytes begin
pub record IsMeasuredAs (bits : Bits) (bytes : List ℕ) (shape : Shape) : Type 0 where
  pub format : format_of bits bytes ≡ Ok shape
  pub unread : IsNeverRead bits (take shape.len bytes)

-- the bytes end inside what the formats allow, and the table reads nothing at their front
pub record IsCut (bits : Bits) (bytes : List ℕ) : Type 0 where
  pub format : format_of bits bytes ≡ Err Ended
  pub unread : ReadsNothing bits bytes

-- neither of the two
pub record IsUnknown (bits : Bits) (bytes : List ℕ) : Type 0 where
  pub not_measured : (shape : Shape) → IsMeasuredAs bits bytes shape → ⊥
  pub not_cut : IsCut bits bytes → ⊥

-- the answer for some bytes
abbrev pub IsMeasured : Bits → List ℕ → Result Shape MeasureError → Type 0
IsMeasured bits bytes (Ok shape) = IsMeasuredAs bits bytes shape
IsMeasured bits bytes (Err Ended) = IsCut bits bytes
IsMeasured bits bytes (Err Unknown) = IsUnknown bits bytes

-- a number stands inside an instruction of this length
abbrev pub StandsInside : ℕ → Option Relative → Type 0
StandsInside len None = Unit {0}
StandsInside len (Some r) = r.at + r.len ≤ len

-- the size of the address that a number refers to: RIP and EIP have 64 and 32 bits, a branch goes to an address of the mode
abbrev pub reference_size : Bits → Reference → Bits
reference_size bits Rip = B64
reference_size bits Eip = B32
reference_size bits Branch = bits

-- the address that a number refers to: behind the instruction, plus the number (2.2.1.6)
abbrev pub relative_target : Bits → ℕ → ℕ → Option Relative → Option ℕ
relative_target bits ip len None = None
relative_target bits ip len (Some r) = Some (modulo_width (reference_size bits r.to) (ip + len + r.distance))
