use Rattle.std.proofs.Common.{refl, sym}
use Rattle.row_relation.proofs.AddressCases.{impossible}
use Rattle.intel_reader.specs.Choice.{assembly_of}
use Rattle.intel_reader.proofs.Choosing.{well_of}
use Rattle.intel_reader.proofs.read_intel.Goals as goal

pub returns-in-Some-clause-none : goal.returns-in-Some-clause-none
returns-in-Some-clause-none c = (
  λ e a k. impossible (sym e),
  λ no. absurd (no (assembly_of c.in-Some.found) c.in-Some.ensures.first.candidate),
)

pub returns-in-Some-clause-formed : goal.returns-in-Some-clause-formed
returns-in-Some-clause-formed c =
    well_of c.args.bits c.args.ip c.args.text.now (assembly_of c.in-Some.found) c.in-Some.found.instr c.in-Some.ensures.first.candidate refl
