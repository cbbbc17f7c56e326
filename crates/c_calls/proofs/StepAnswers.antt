-- The code of a step is short, whichever answer there is.
use Rattle.std.proofs.Common.{ℕ, List, Option, Some, None, Result, Ok, Err}
use Rattle.std.specs.Prelude.{IfOk}
use Rattle.x86_values.specs.declared.Bits.{Bits}
use Rattle.c_calls.specs.declared.stepping.StepCode.{StepCode}
use Rattle.c_calls.specs.declared.stepping.StepRefusal.{StepRefusal}
use Rattle.c_calls.specs.Steps.{IsShortStep, IsStepCode}

-- the code of a step is short
pub step-short : (bits : Option Bits) (ip : ℕ) (bytes : List ℕ) (place : ℕ) (answer : Result StepCode StepRefusal) → IsStepCode bits ip bytes place answer
    → IfOk answer (λ code. IsShortStep code)
step-short None ip bytes place (Ok code) h = absurd cc
step-short None ip bytes place (Err e) h = tt
step-short (Some bits) ip bytes place (Ok code) h = h.short
step-short (Some bits) ip bytes place (Err e) h = tt
