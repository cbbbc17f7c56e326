use Rattle.prefixes.specs.Answer.{mode_of}
use Rattle.handler_tables.proofs.WithoutByte.{found_without}
use Rattle.handler_tables.proofs.walk.find.Goals as goal

pub returns-clause-without_byte : goal.returns-clause-without_byte
returns-clause-without_byte g c = found_without (mode_of g.row.BITS) c.args.fields.now c.walk.result c.walk.ensures.row
