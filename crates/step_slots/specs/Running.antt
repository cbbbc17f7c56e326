-- What a list of commands leaves.
use Rattle.std.specs.Prelude.{◌≡◌, ℕ, List, Result, Ok, Err}
use Rattle.std.proofs.Common.{ap, subst, sym}
use Rattle.x86_values.specs.declared.Bits.{Bits}
use Rattle.move_goals.specs.Items.{IsPlaced}
use Rattle.code_region.specs.declared.refusals.NotTaken.{NotTaken}
use Rattle.code_region.specs.Releasing.{release_answer}
use Rattle.code_region.specs.LiveEntries.Running.{IsRun}
use Rattle.step_slots.specs.declared.refusals.StepError.{StepError}
use Rattle.step_slots.specs.declared.commands.StepCommand.{StepCommand}
use Rattle.step_slots.specs.declared.commands.StepCommand.TheVariants.{Step, Finish}
use Rattle.step_slots.specs.declared.commands.StepReply.{StepReply}
use Rattle.step_slots.specs.declared.commands.StepReply.TheVariants.{Stepped, Refused, Finished, NotTaken as NotTakenReply}
use Rattle.step_slots.specs.State.{SlotState}
use Rattle.step_slots.specs.Stepping.{IsStepped, after_finish}

-- an instruction to be stepped has some bytes at its address
abbrev pub StepCommandFits : Bits → StepCommand → Type 0
StepCommandFits bits (Step item) = IsPlaced bits item
StepCommandFits bits (Finish place) = Unit {0}

-- the reply that says what a step answered
abbrev pub step_reply : Result ℕ StepError → StepReply
step_reply (Ok place) = Stepped place
step_reply (Err why) = Refused why

-- the reply that says what a finish answered
abbrev pub finish_reply : Result (Unit {0}) NotTaken → StepReply
finish_reply (Ok done) = Finished
finish_reply (Err why) = NotTakenReply why.place

-- one command
abbrev pub IsStepDone : SlotState → StepCommand → StepReply → SlotState → Type 0
IsStepDone old (Step item) reply new = (answer : Result ℕ StepError) × ((reply ≡ step_reply answer) × IsStepped old item answer new)
IsStepDone old (Finish place) reply new = (reply ≡ finish_reply (release_answer old.region place)) × (new ≡ after_finish old place)

-- a command keeps the mode
done-bits : (old : SlotState) (command : StepCommand) (reply : StepReply) (new : SlotState) → IsStepDone old command reply new → new.bits ≡ old.bits
done-bits old (Step item) reply new done = done.1.1.bits
done-bits old (Finish place) reply new done = ap (λ (s : SlotState). s.bits) done.1

-- so what fits before it fits behind it
pub still-fits : (old : SlotState) (command : StepCommand) (reply : StepReply) (new : SlotState) (other : StepCommand)
    → IsStepDone old command reply new → StepCommandFits old.bits other → StepCommandFits new.bits other
still-fits old command reply new other done fit =
    subst (λ (bits : Bits). StepCommandFits bits other) (sym (done-bits old command reply new done)) fit

-- the commands in order
abbrev pub IsStepRun : SlotState → List StepCommand → List StepReply → SlotState → Type 0
IsStepRun old commands replies new = IsRun IsStepDone old commands replies new
