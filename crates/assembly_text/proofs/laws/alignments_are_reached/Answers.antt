use Rattle.assembly_text.proofs.Filling.{gap_less, gap_reaches, padding_length}
use Rattle.assembly_text.proofs.laws.alignments_are_reached.Goals as goal

pub returns-clause-less : goal.returns-clause-less
returns-clause-less c n address some = gap_less n address some

pub returns-clause-reached : goal.returns-clause-reached
returns-clause-reached c n address some = gap_reaches n address some

pub returns-clause-filled : goal.returns-clause-filled
returns-clause-filled c bits zeros count = padding_length bits zeros count
