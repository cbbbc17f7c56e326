-- The shape of an instruction without a row, as the flat struct of the C interface.
use Rattle.std.specs.Prelude.{◌≡◌, ℕ, ℤ, pos, List, Option, Some, None, Result, Ok, Err}
use Rattle.x86_values.specs.declared.Bits.{Bits}
use Rattle.unlisted.specs.declared.Kind.{Kind}
use Rattle.unlisted.specs.declared.Kind.TheVariants.{Evex, Mask, Vex, Xop, Now3d, Legacy}
use Rattle.unlisted.specs.declared.Reference.{Reference}
use Rattle.unlisted.specs.declared.Reference.TheVariants.{Rip, Eip, Branch}
use Rattle.unlisted.specs.declared.Relative.{Relative}
use Rattle.unlisted.specs.declared.Shape.{Shape}
use Rattle.unlisted.specs.declared.MeasureError.{MeasureError}
use Rattle.unlisted.specs.declared.MeasureError.TheVariants.{Ended, Unknown}
use Rattle.unlisted.specs.Measured.{IsMeasured}
use Rattle.c_calls.specs.declared.refusal.Refusal.TheVariants.{Mode, Invalid, TooShort}
use Rattle.c_calls.specs.declared.flat.FlatShape.{FlatShape}
use Rattle.c_calls.specs.Refusals.{refusal_status}

-- a kind by its number, 0 to 5
abbrev pub kind_number : Kind → ℕ
kind_number Evex = 0
kind_number Mask = 1
kind_number Vex = 2
kind_number Xop = 3
kind_number Now3d = 4
kind_number Legacy = 5

-- what a number refers to: memory at RIP or EIP, or a branch
abbrev pub reference_number : Reference → ℕ
reference_number Rip = 1
reference_number Eip = 2
reference_number Branch = 3

-- zeros where nothing is relative
abbrev pub shape_with : ℕ → Option Relative → FlatShape
shape_with kind None = record { distance = 0; kind = kind; reference = 0; at = 0; len = 0 }
shape_with kind (Some r) = record { distance = r.distance; kind = kind; reference = reference_number r.to; at = r.at; len = r.len }

-- the shape without its length
abbrev pub flat_shape : Shape → FlatShape
flat_shape s = shape_with (kind_number s.kind) s.relative

-- how many bytes the instruction has, or why it is not measured
abbrev pub measured_said : Result Shape MeasureError → ℤ
measured_said (Ok s) = pos s.len
measured_said (Err Ended) = refusal_status TooShort
measured_said (Err Unknown) = refusal_status Invalid

-- what stands in the struct then
abbrev pub shape_left : FlatShape → Result Shape MeasureError → FlatShape
shape_left old (Ok s) = flat_shape s
shape_left old (Err why) = old

-- the shape of the instruction at the front of some bytes, or why it is not measured
pub record IsShapeIn (bits : Bits) (bytes : List ℕ) (old new : FlatShape) (answer : ℤ) : Type 0 where
  pub shape : Result Shape MeasureError
  pub measured : IsMeasured bits bytes shape
  pub answer_is : answer ≡ measured_said shape
  pub left : new ≡ shape_left old shape

-- the shape of the instruction at the front of some bytes, where the number of the mode names one
abbrev pub IsShapeOf : Option Bits → List ℕ → FlatShape → FlatShape → ℤ → Type 0
IsShapeOf None bytes old new answer = (answer ≡ refusal_status Mode) × (new ≡ old)
IsShapeOf (Some bits) bytes old new answer = IsShapeIn bits bytes old new answer
