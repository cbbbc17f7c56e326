use Rattle.std.specs.Prelude.{Result}
use Rattle.code_assembler.specs.Finished.{AssembledState}
use Rattle.assembly_text.specs.declared.text_error.AssembleError.{AssembleError}
use Rattle.assembly_text.specs.Known.{AreKnown}
use Rattle.assembly_text.specs.Rounds.{IsAnswerIn, IsAnswerBy}
use Rattle.assembly_text.proofs.rounds.assemble_code_by.Given as goal

abbrev pub invariant-rounds : goal.invariant-rounds
invariant-rounds l = record {
  answer : (answer : Result AssembledState AssembleError) → IsAnswerIn l.left l.rules.slots l.bits l.base l.rules.names.now l.text l.places.items answer
      → IsAnswerBy l.rules.slots l.bits l.base l.rules.names.now l.text answer;
  known : AreKnown l.known;
}

abbrev pub decreases-rounds : goal.decreases-rounds
decreases-rounds l = l.left
