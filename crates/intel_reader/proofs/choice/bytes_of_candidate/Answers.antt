use Rattle.std.proofs.Common.{refl}
use Rattle.x86_values.specs.Wrapping.{modulo_width}
use Rattle.encoder.proofs.OverTable.{only_one}
use Rattle.intel_reader.proofs.Choosing.{same_assembly, spelled_as}
use Rattle.intel_reader.proofs.PlainFacts.{row_there}
use Rattle.intel_reader.proofs.choice.bytes_of_candidate.Goals as goal

pub print-printed-requires : goal.print-printed-requires
print-printed-requires c = (row_there c.args.bits (modulo_width c.args.bits c.args.ip) c.in-Ok.bytes.items c.args.instr.now c.in-Ok.ensures.plain).2.well

pub returns-in-Err-clause-found : goal.returns-in-Err-clause-found
returns-in-Err-clause-found c = λ b k e.
    c.in-Err.ensures.refused refl b.bytes (spelled_as c.args.bits c.args.ip c.args.text.now b c.args.instr.now k e)

pub returns-then-eq-clause-found : goal.returns-then-eq-clause-found
returns-then-eq-clause-found c = λ b k e.
    same_assembly c.args.instr.now b.instr c.in-Ok.bytes.items b.bytes e
    (only_one c.args.bits (modulo_width c.args.bits c.args.ip) c.in-Ok.bytes.items b.bytes c.args.instr.now c.in-Ok.ensures.plain
    (spelled_as c.args.bits c.args.ip c.args.text.now b c.args.instr.now k e))
