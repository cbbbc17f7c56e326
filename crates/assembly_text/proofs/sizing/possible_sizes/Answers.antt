use Rattle.assembly_text.proofs.Sized.{none_out}
use Rattle.assembly_text.proofs.sizing.possible_sizes.Goals as goal

pub returns-in-None-clause-sizes : goal.returns-in-None-clause-sizes
returns-in-None-clause-sizes c = λ ip. none_out c.args.bits ip c.args.low.now c.args.s.now
