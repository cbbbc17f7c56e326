-- A step of the instruction at the front of some bytes.
use Rattle.std.specs.Prelude.{◌≡◌, ℕ, List, Result, Ok, Err}
use Rattle.x86_values.specs.declared.Decoded.{Decoded}
use Rattle.row_relation.specs.Spells.{Read}
use Rattle.opcode_rows.specs.Reading.{IsRead}
use Rattle.decoder.specs.Answer.{reading_of}
use Rattle.move_goals.specs.declared.items.Placed.{Placed}
use Rattle.step_slots.specs.declared.refusals.StepError.{StepError}
use Rattle.step_slots.specs.State.{SlotState}
use Rattle.step_slots.specs.Stepping.{IsStepped}
use Rattle.feddurzai.specs.declared.stepping.StepCodeError.{StepCodeError}
use Rattle.feddurzai.specs.declared.stepping.StepCodeError.TheVariants.{BadCode, Refused}

-- what was read at an address, as it is stepped
abbrev pub item_of : ℕ → Decoded → Placed
item_of ip d = record { ip = ip; len = d.len; instr = d.instr }

-- an instruction is read in the mode of the slots, and stepped with this answer
pub record StepsCode (old : SlotState) (ip : ℕ) (bytes : List ℕ) (answer : Result ℕ StepError) (new : SlotState) : Type 0 where
  pub decoded : Decoded
  pub reads : IsRead old.bits ip bytes (Read decoded)
  pub stepped : IsStepped old (item_of ip decoded) answer new

-- the answer, and the slots after it
abbrev pub IsCodeStepped : SlotState → ℕ → List ℕ → Result ℕ StepCodeError → SlotState → Type 0
IsCodeStepped old ip bytes (Ok place) new = StepsCode old ip bytes (Ok place) new
IsCodeStepped old ip bytes (Err (Refused why)) new = StepsCode old ip bytes (Err why) new
IsCodeStepped old ip bytes (Err (BadCode e)) new = IsRead old.bits ip bytes (reading_of (Err e)) × (new ≡ old)
