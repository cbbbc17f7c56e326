-- Which operand fails a condition of the encoder.
use Rattle.std.specs.Prelude.{◌≡◌, ℕ, ◌+◌, ◌<◌, nat_le, Bool, true, false, if◌then◌else◌}
use Rattle.x86_values.specs.declared.Bits.{Bits}
use Rattle.x86_values.specs.declared.Instr.{Instr}
use Rattle.instruction_parts.specs.declared.row_types.Row.{Row}
use Rattle.instruction_parts.specs.declared.kinds.Method.{Method}
use Rattle.instruction_parts.specs.declared.kinds.Method.TheVariants as method
use Rattle.instruction_parts.specs.Kinds.{method_of}
use Rattle.row_fit.specs.Fits.{kind_at}
use Rattle.plain_spelling.specs.declared.NoSpelling.{NoSpelling}
use Rattle.plain_spelling.specs.declared.NoSpelling.TheVariants as cause
use Rattle.plain_spelling.specs.Expressible.{kind_suits, register_suits, address_suits, displacement_offered, immediate_suits, target_suits}
use Rattle.c_calls.specs.Answers.{failing_operand}

-- ---- the rows

-- an operand that is read so can be memory or a near target
unfoldable pub may_be_target : Method → Bool
may_be_target method.RegisterOrMemory = true
may_be_target method.MemoryOnly = true
may_be_target method.Gather = true
may_be_target method.Offset = true
may_be_target method.Near = true
may_be_target _ = false

-- operand n of the row can
abbrev pub can_be_target : Row → ℕ → Bool
can_be_target row n = may_be_target (method_of (kind_at row n))

-- 1 for a test that passes
abbrev pub one_if : Bool → ℕ
one_if b = if b then 1 else 0

-- at most one of four tests passes
abbrev pub at_most_one_of : Bool → Bool → Bool → Bool → Bool
at_most_one_of a b c d = nat_le (one_if a + (one_if b + (one_if c + one_if d))) 1

-- at most one operand of the row can be memory or a near target
unfoldable pub has_one_target : Row → Bool
has_one_target row = at_most_one_of (can_be_target row 0) (can_be_target row 1) (can_be_target row 2) (can_be_target row 3)

-- ---- the operand

-- operand k is the first that fails a condition
pub record IsFirstFailing (p : ℕ → Bool) (k : ℕ) : Type 0 where
  pub within : k < 4
  pub fails : p k ≡ false
  pub before : (n : ℕ) → n < k → p n ≡ true

-- operand k fails a condition, and no other does
pub record FailsAlone (p : ℕ → Bool) (k : ℕ) : Type 0 where
  pub within : k < 4
  pub fails : p k ≡ false
  pub others : (n : ℕ) → n < 4 → p n ≡ false → n ≡ k

-- the operand that is told with a cause fails the condition of that cause: the first that does, and of an address, its displacement and a target the only
-- one
abbrev pub IsFailing : Bits → ℕ → Row → Instr → NoSpelling → Type 0
IsFailing bits ip row i (cause.OperandKind n) = IsFirstFailing (kind_suits row i) (failing_operand i (cause.OperandKind n))
IsFailing bits ip row i (cause.Register n) = IsFirstFailing (register_suits bits row i) (failing_operand i (cause.Register n))
IsFailing bits ip row i cause.Memory = FailsAlone (address_suits bits row i) (failing_operand i cause.Memory)
IsFailing bits ip row i cause.Displacement = FailsAlone (displacement_offered bits row i) (failing_operand i cause.Displacement)
IsFailing bits ip row i (cause.Immediate n) = IsFirstFailing (immediate_suits bits row i) (failing_operand i (cause.Immediate n))
IsFailing bits ip row i cause.Target = FailsAlone (target_suits bits ip row i) (failing_operand i cause.Target)
IsFailing bits ip row i cause.Row = Unit {0}
IsFailing bits ip row i cause.Prefix = Unit {0}
IsFailing bits ip row i cause.AddressSize = Unit {0}
IsFailing bits ip row i cause.Length = Unit {0}
