use Rattle.intel_reader.specs.Choice.{assembly_of}
use Rattle.intel_reader.proofs.Leading.{not_after-self}
use Rattle.intel_reader.proofs.choice.keep_first.Goals as goal

pub returns-then-gives_way-clause-led : goal.returns-then-gives_way-clause-led
returns-then-gives_way-clause-led c = not_after-self (assembly_of c.args.other)
