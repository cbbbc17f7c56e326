use Rattle.std.proofs.Common.{sym}
use Rattle.row_relation.proofs.AddressCases.{impossible}
use Rattle.intel_reader.specs.Choice.{assembly_of}
use Rattle.intel_reader.proofs.assemble.Goals as goal

pub returns-in-Some-clause-none : goal.returns-in-Some-clause-none
returns-in-Some-clause-none c = (
  λ e a k. impossible (sym e),
  λ no. absurd (no (assembly_of c.in-Some.found) c.in-Some.ensures.first.candidate),
)
