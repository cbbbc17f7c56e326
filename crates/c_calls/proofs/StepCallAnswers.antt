-- The code of a CALL is short, whichever answer there is.
use Rattle.std.proofs.Common.{ℕ, List, Option, Some, None, Result, Ok, Err}
use Rattle.std.specs.Prelude.{IfOk}
use Rattle.x86_values.specs.declared.Bits.{Bits}
use Rattle.c_calls.specs.declared.step_calls.CallCode.{CallCode}
use Rattle.c_calls.specs.declared.step_calls.CallRefusal.{CallRefusal}
use Rattle.c_calls.specs.StepCalls.{IsShortCall, IsCallCode}

-- the code of a CALL is short
pub call-short : (bits : Option Bits) (ip : ℕ) (bytes : List ℕ) (place : ℕ) (answer : Result CallCode CallRefusal) → IsCallCode bits ip bytes place answer
    → IfOk answer (λ code. IsShortCall code)
call-short None ip bytes place (Ok code) h = absurd cc
call-short None ip bytes place (Err e) h = tt
call-short (Some bits) ip bytes place (Ok code) h = h.short
call-short (Some bits) ip bytes place (Err e) h = tt
