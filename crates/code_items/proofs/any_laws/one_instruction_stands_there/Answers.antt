use Rattle.code_items.proofs.AnyOne.{one-first}
use Rattle.code_items.proofs.any_laws.one_instruction_stands_there.Goals as goal

pub returns : goal.returns
returns c = one-first c.bytes_have_one_reading.ensures c.answers_are_unique.ensures c.measured_bytes_are_not_read.ensures
