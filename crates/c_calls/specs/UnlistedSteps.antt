-- The code of a single step of an instruction without a row: what a call answers, and what it leaves in the room.
use Rattle.std.specs.Prelude.{◌≡◌, ℕ, ◌%◌, ◌^◌, ℤ, List, length, Option, Some, None, Result, Ok, Err}
use Rattle.x86_values.specs.declared.Bits.{Bits}
use Rattle.unlisted.specs.declared.MeasureError.TheVariants.{Ended, Unknown}
use Rattle.step_slots.specs.declared.unlisted_step.UnlistedStep.{UnlistedStep}
use Rattle.step_slots.specs.declared.unlisted_step.UnlistedStepError.TheVariants.{NotMeasured, Wraps as EndWraps, TooFar as OutOfReach}
use Rattle.step_slots.specs.UnlistedStep.{IsUnlistedStood}
use Rattle.c_calls.specs.declared.refusal.Refusal.{Refusal}
use Rattle.c_calls.specs.declared.refusal.Refusal.TheVariants as why
use Rattle.c_calls.specs.declared.flat.FlatStep.{FlatStep}
use Rattle.c_calls.specs.declared.unlisted_step.UnlistedRefusal.{UnlistedRefusal}
use Rattle.c_calls.specs.declared.unlisted_step.UnlistedRefusal.TheVariants.{Mode, NotStood}
use Rattle.c_calls.specs.Numbers.{bits_numbered}
use Rattle.c_calls.specs.Steps.{no_step}
use Rattle.c_calls.specs.Answers as answers

-- the code of a step in a mode, or why there is none
abbrev pub IsUnlistedCodeIn : Bits → ℕ → List ℕ → ℕ → Result UnlistedStep UnlistedRefusal → Type 0
IsUnlistedCodeIn bits ip bytes place (Ok code) = IsUnlistedStood bits ip bytes place (Ok code)
IsUnlistedCodeIn bits ip bytes place (Err (NotStood e)) = IsUnlistedStood bits ip bytes place (Err e)
IsUnlistedCodeIn bits ip bytes place (Err Mode) = ⊥

-- the code of a step, where the number of the mode names one
abbrev pub IsUnlistedCode : Option Bits → ℕ → List ℕ → ℕ → Result UnlistedStep UnlistedRefusal → Type 0
IsUnlistedCode None ip bytes place answer = answer ≡ Err Mode
IsUnlistedCode (Some bits) ip bytes place answer = IsUnlistedCodeIn bits ip bytes place answer

-- why there is no code, by the refusals of all calls
abbrev pub unlisted_refusal : UnlistedRefusal → Refusal
unlisted_refusal Mode = why.Mode
unlisted_refusal (NotStood (NotMeasured Ended)) = why.TooShort
unlisted_refusal (NotStood (NotMeasured Unknown)) = why.Invalid
unlisted_refusal (NotStood (EndWraps end)) = why.Wraps
unlisted_refusal (NotStood (OutOfReach target)) = why.TooFar

-- the bytes, or the refusal
abbrev pub unlisted_bytes : Result UnlistedStep UnlistedRefusal → Result (List ℕ) Refusal
unlisted_bytes (Ok code) = Ok code.bytes.items
unlisted_bytes (Err e) = Err (unlisted_refusal e)

-- the numbers of a refusal: the end of the code modulo 2 ^ 64, or the target
abbrev pub refusal_report : UnlistedRefusal → FlatStep
refusal_report (NotStood (EndWraps end)) = record no_step { address = end % 2 ^ 64 }
refusal_report (NotStood (OutOfReach target)) = record no_step { address = target }
refusal_report _ = no_step

-- how many bytes there are, and of the instruction, behind which the jump back stands: there the instruction has happened
abbrev pub unlisted_report : Result UnlistedStep UnlistedRefusal → FlatStep
unlisted_report (Ok code) = record no_step { bytes = length code.bytes.items; back_at = code.len; len = code.len; done_at = code.len }
unlisted_report (Err e) = refusal_report e

-- what the call says and leaves
pub record IsUnlistedStepSaid (bits ip : ℕ) (bytes : List ℕ) (place : ℕ) (out out' : List ℕ) (report : FlatStep) (said : ℤ) : Type 0 where
  pub answer : Result UnlistedStep UnlistedRefusal
  pub is : IsUnlistedCode (bits_numbered bits) ip bytes place answer
  pub said_is : said ≡ answers.count_or_refusal (answers.bytes_within (length out) (unlisted_bytes answer))
  pub left : out' ≡ answers.with_bytes out (answers.bytes_within (length out) (unlisted_bytes answer))
  pub report_is : report ≡ unlisted_report answer
