-- The code of a single step of a CALL that pushes its own return address: what a call answers, and what it leaves in the room.
use Rattle.std.specs.Prelude.{◌≡◌, ℕ, ◌%◌, ◌^◌, ◌≤◌, ℤ, List, length, Option, Some, None, Result, Ok, Err}
use Rattle.x86_values.specs.declared.Bits.{Bits}
use Rattle.opcode_rows.specs.Reading.{IsRead}
use Rattle.decoder.specs.declared.DecodeError.{DecodeError}
use Rattle.decoder.specs.Answer.{reading_of}
use Rattle.move_goals.specs.declared.items.Placed.{Placed}
use Rattle.step_slots.specs.declared.calling.CallError.{CallError}
use Rattle.step_slots.specs.declared.calling.CallError.TheVariants.{Memory as NoMemory, NotPushed, Wraps as EndWraps, TooFar as OutOfReach}
use Rattle.step_slots.specs.Calling.{IsCallStood, BeginsWithPush, push_len}
use Rattle.c_calls.specs.declared.refusal.Refusal.{Refusal}
use Rattle.c_calls.specs.declared.refusal.Refusal.TheVariants as why
use Rattle.c_calls.specs.declared.flat.FlatStep.{FlatStep}
use Rattle.c_calls.specs.declared.step_calls.CallCode.{CallCode}
use Rattle.c_calls.specs.declared.step_calls.CallRefusal.{CallRefusal}
use Rattle.c_calls.specs.declared.step_calls.CallRefusal.TheVariants.{Mode, BadCode, NotStood}
use Rattle.c_calls.specs.Numbers.{bits_numbered}
use Rattle.c_calls.specs.Steps.{IsStepItemAt, code_refusal, no_step}
use Rattle.c_calls.specs.Answers as answers

-- ---- the code

-- the code has few bytes
abbrev pub IsShortCall : CallCode → Type 0
IsShortCall code = length code.moved.bytes ≤ 43

-- The code is the block of the CALL that is read, at the place: it pushes the return address of the CALL where it stood, and jumps. It begins with a PUSH
-- of so many bytes, behind which the CALL has begun to happen.
pub record IsCalledBy (bits : Bits) (ip : ℕ) (bytes : List ℕ) (place : ℕ) (code : CallCode) : Type 0 where
  pub item : Placed
  pub reads : IsStepItemAt bits ip bytes item
  pub stood : IsCallStood bits item place (Ok code.moved)
  pub len : code.len ≡ item.len
  pub done : code.done ≡ push_len bits
  pub begins : BeginsWithPush bits place code.moved
  pub short : IsShortCall code

-- the code, or why there is none: no instruction is read, or it is no such CALL, or it cannot stand at the place
abbrev pub IsCallCodeIn : Bits → ℕ → List ℕ → ℕ → Result CallCode CallRefusal → Type 0
IsCallCodeIn bits ip bytes place (Ok code) = IsCalledBy bits ip bytes place code
IsCallCodeIn bits ip bytes place (Err (BadCode e)) = IsRead bits ip bytes (reading_of (Err e))
IsCallCodeIn bits ip bytes place (Err (NotStood e)) = (item : Placed) × (IsStepItemAt bits ip bytes item × IsCallStood bits item place (Err e))
IsCallCodeIn bits ip bytes place (Err Mode) = ⊥

-- the code of a CALL, where the number of the mode names one
abbrev pub IsCallCode : Option Bits → ℕ → List ℕ → ℕ → Result CallCode CallRefusal → Type 0
IsCallCode None ip bytes place answer = answer ≡ Err Mode
IsCallCode (Some bits) ip bytes place answer = IsCallCodeIn bits ip bytes place answer

-- ---- what is said and left

-- why there is no code, by the refusals of all calls
abbrev pub call_refusal : CallRefusal → Refusal
call_refusal Mode = why.Mode
call_refusal (BadCode e) = code_refusal e
call_refusal (NotStood NoMemory) = why.Memory
call_refusal (NotStood NotPushed) = why.Form
call_refusal (NotStood (EndWraps end)) = why.Wraps
call_refusal (NotStood (OutOfReach target)) = why.TooFar

-- the bytes, or the refusal
abbrev pub call_bytes : Result CallCode CallRefusal → Result (List ℕ) Refusal
call_bytes (Ok code) = Ok code.moved.bytes
call_bytes (Err e) = Err (call_refusal e)

-- the numbers of a refusal: the end of the code modulo 2 ^ 64, or the target
abbrev pub refusal_report : CallRefusal → FlatStep
refusal_report (NotStood (EndWraps end)) = record no_step { address = end % 2 ^ 64 }
refusal_report (NotStood (OutOfReach target)) = record no_step { address = target }
refusal_report _ = no_step

-- how many bytes there are, how many the CALL had, and how many its PUSH has, also where the room is too small; there is no jump back; or the numbers of the
-- refusal
abbrev pub call_report : Result CallCode CallRefusal → FlatStep
call_report (Ok code) = record no_step { bytes = length code.moved.bytes; len = code.len; done_at = code.done }
call_report (Err e) = refusal_report e

-- what the call says and leaves
pub record IsStepCall (bits ip : ℕ) (bytes : List ℕ) (place : ℕ) (out out' : List ℕ) (report : FlatStep) (said : ℤ) : Type 0 where
  pub answer : Result CallCode CallRefusal
  pub is : IsCallCode (bits_numbered bits) ip bytes place answer
  pub said_is : said ≡ answers.count_or_refusal (answers.bytes_within (length out) (call_bytes answer))
  pub left : out' ≡ answers.with_bytes out (answers.bytes_within (length out) (call_bytes answer))
  pub report_is : report ≡ call_report answer
