-- The code of a single step: what a call answers, and what it leaves in the room.
use Rattle.std.specs.Prelude.{◌≡◌, ℕ, ◌-◌, ◌%◌, ◌^◌, ◌≤◌, ℤ, pos, List, length, slice_index_or, Option, Some, None, Result, Ok, Err}
use Rattle.x86_values.specs.declared.Bits.{Bits}
use Rattle.row_relation.specs.Spells.{Read}
use Rattle.opcode_rows.specs.Reading.{IsRead}
use Rattle.decoder.specs.declared.DecodeError.{DecodeError}
use Rattle.decoder.specs.declared.DecodeError.TheVariants.{Invalid as InvalidError, TooShort as TooShortError}
use Rattle.decoder.specs.Answer.{reading_of}
use Rattle.move_goals.specs.declared.items.Placed.{Placed}
use Rattle.block_encoder.specs.Moved.{MovedLists}
use Rattle.step_slots.specs.declared.standing.StandError.TheVariants.{Memory as NoMemory, Wraps as EndWraps, TooFar as OutOfReach}
use Rattle.step_slots.specs.Block.{reserved_room}
use Rattle.step_slots.specs.Done.{IsDoneAt}
use Rattle.step_slots.specs.Standing.{IsStood, FitsReserved}
use Rattle.c_calls.specs.declared.refusal.Refusal.{Refusal}
use Rattle.c_calls.specs.declared.refusal.Refusal.TheVariants as why
use Rattle.c_calls.specs.declared.flat.FlatStep.{FlatStep}
use Rattle.c_calls.specs.declared.stepping.StepCode.{StepCode}
use Rattle.c_calls.specs.declared.stepping.StepRefusal.{StepRefusal}
use Rattle.c_calls.specs.declared.stepping.StepRefusal.TheVariants.{Mode, BadCode, NotStood}
use Rattle.c_calls.specs.Refusals.{refusal_status}
use Rattle.c_calls.specs.Numbers.{bits_numbered}
use Rattle.c_calls.specs.Moving.{decoded_item}
use Rattle.c_calls.specs.Answers as answers

-- ---- the instruction

-- the instruction that is read at the front of some bytes, with its address
pub record IsStepItemAt (bits : Bits) (ip : ℕ) (bytes : List ℕ) (item : Placed) : Type 0 where
  pub at : item.ip ≡ ip
  pub reads : IsRead bits ip bytes (Read (decoded_item item))

-- the instruction at the front of some bytes, with its address, or why none is read
abbrev pub IsItem : Bits → ℕ → List ℕ → Result Placed DecodeError → Type 0
IsItem bits ip bytes (Ok item) = IsStepItemAt bits ip bytes item
IsItem bits ip bytes (Err e) = IsRead bits ip bytes (reading_of (Err e))

-- ---- its code

-- the code has few bytes, and two parts: the image of the instruction and the jump back
pub record IsShortStep (code : StepCode) : Type 0 where
  pub short : length code.moved.bytes ≤ 53
  pub parts : length code.moved.starts ≡ 2

-- The code is the block of the instruction that is read, at the place: the one of a step slot there. It has no more bytes than are reserved for it. It
-- begins with an encoded instruction, at whose end the stepped one has happened.
pub record IsSteppedBy (bits : Bits) (ip : ℕ) (bytes : List ℕ) (place : ℕ) (code : StepCode) : Type 0 where
  pub item : Placed
  pub reads : IsStepItemAt bits ip bytes item
  pub stood : IsStood bits item place (Ok code.moved)
  pub len : code.len ≡ item.len
  pub done : IsDoneAt bits item place code.moved code.done
  pub fits : FitsReserved bits item place code.moved.bytes
  pub short : IsShortStep code

-- the code, or why there is none: no instruction is read, or it cannot stand at the place
abbrev pub IsStepCodeIn : Bits → ℕ → List ℕ → ℕ → Result StepCode StepRefusal → Type 0
IsStepCodeIn bits ip bytes place (Ok code) = IsSteppedBy bits ip bytes place code
IsStepCodeIn bits ip bytes place (Err (BadCode e)) = IsRead bits ip bytes (reading_of (Err e))
IsStepCodeIn bits ip bytes place (Err (NotStood e)) = (item : Placed) × (IsStepItemAt bits ip bytes item × IsStood bits item place (Err e))
IsStepCodeIn bits ip bytes place (Err Mode) = ⊥

-- the code of a step, where the number of the mode names one
abbrev pub IsStepCode : Option Bits → ℕ → List ℕ → ℕ → Result StepCode StepRefusal → Type 0
IsStepCode None ip bytes place answer = answer ≡ Err Mode
IsStepCode (Some bits) ip bytes place answer = IsStepCodeIn bits ip bytes place answer

-- ---- what is said and left

-- why no instruction is read, by the refusals of all calls
abbrev pub code_refusal : DecodeError → Refusal
code_refusal InvalidError = why.Invalid
code_refusal TooShortError = why.TooShort

-- why there is no code, by the refusals of all calls
abbrev pub step_refusal : StepRefusal → Refusal
step_refusal Mode = why.Mode
step_refusal (BadCode e) = code_refusal e
step_refusal (NotStood NoMemory) = why.Memory
step_refusal (NotStood (EndWraps end)) = why.Wraps
step_refusal (NotStood (OutOfReach target)) = why.TooFar

-- the bytes, or the refusal
abbrev pub step_bytes : Result StepCode StepRefusal → Result (List ℕ) Refusal
step_bytes (Ok code) = Ok code.moved.bytes
step_bytes (Err e) = Err (step_refusal e)

-- the offset of the jump back: of the second of the moved instructions
abbrev pub back_offset : MovedLists → ℕ → ℕ
back_offset moved place = slice_index_or moved.starts 1 0 - place

-- no numbers
abbrev pub no_step : FlatStep
no_step = record { bytes = 0; back_at = 0; address = 0; len = 0; done_at = 0 }

-- the numbers of a refusal: the end of the code modulo 2 ^ 64, or the target
abbrev pub refusal_report : StepRefusal → FlatStep
refusal_report (NotStood (EndWraps end)) = record no_step { address = end % 2 ^ 64 }
refusal_report (NotStood (OutOfReach target)) = record no_step { address = target }
refusal_report _ = no_step

-- how many bytes there are, where the jump back stands, how many bytes the instruction had, and after how many it has happened, also where the room is too
-- small; or those of the refusal
abbrev pub step_report : ℕ → Result StepCode StepRefusal → FlatStep
step_report place (Ok code) = record no_step { bytes = length code.moved.bytes; back_at = back_offset code.moved place; len = code.len; done_at = code.done }
step_report place (Err e) = refusal_report e

-- what the call says and leaves
pub record IsStep (bits ip : ℕ) (bytes : List ℕ) (place : ℕ) (out out' : List ℕ) (report : FlatStep) (said : ℤ) : Type 0 where
  pub answer : Result StepCode StepRefusal
  pub is : IsStepCode (bits_numbered bits) ip bytes place answer
  pub said_is : said ≡ answers.count_or_refusal (answers.bytes_within (length out) (step_bytes answer))
  pub left : out' ≡ answers.with_bytes out (answers.bytes_within (length out) (step_bytes answer))
  pub report_is : report ≡ step_report place answer

-- ---- how many bytes are reserved

-- the number that is reserved for an instruction in a region with a base, or why none is read
abbrev pub len_said : Bits → ℕ → Result Placed DecodeError → ℤ
len_said bits base (Ok item) = pos (reserved_room bits base item)
len_said bits base (Err e) = refusal_status (code_refusal e)

-- what the call says in a mode
pub record IsStepLenIn (bits : Bits) (ip : ℕ) (bytes : List ℕ) (base : ℕ) (said : ℤ) : Type 0 where
  pub answer : Result Placed DecodeError
  pub is : IsItem bits ip bytes answer
  pub said_is : said ≡ len_said bits base answer

-- how long the code of a step is at most, where the number of the mode names one
abbrev pub IsStepLen : Option Bits → ℕ → List ℕ → ℕ → ℤ → Type 0
IsStepLen None ip bytes base said = said ≡ refusal_status why.Mode
IsStepLen (Some bits) ip bytes base said = IsStepLenIn bits ip bytes base said
