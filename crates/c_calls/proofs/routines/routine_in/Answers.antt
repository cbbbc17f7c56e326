use Rattle.std.proofs.Common.{inl, refl}
use Rattle.assembly_text.specs.declared.text_error.AssembleError.TheVariants.{NoMemory}
use Rattle.assembly_text.specs.Rounds.{IsAnswerIn}
use Rattle.c_calls.proofs.routines.routine_in.Goals as goal

-- the first round may lack memory
pub returns-in-Err-labels_of : goal.returns-in-Err-labels_of
unfolding IsAnswerIn
returns-in-Err-labels_of c = inl (NoMemory, (tt, refl))
