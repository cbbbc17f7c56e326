use Rattle.std.proofs.Common.{◌∙◌}
use Rattle.opcode_rows.specs.Table.{name_of}
use Rattle.intel_reader.proofs.Choosing.{name_test}
use Rattle.intel_reader.proofs.choice.may_have.Goals as goal

pub returns-else-eq : goal.returns-else-eq
returns-else-eq c =
    name_test (name_of c.args.code.0) c.args.word.now c.as_bytes-bytes.result.now c.eq.result _
    (c.as_bytes-bytes.ensures.value ∙ c.name.ensures.name) c.eq.ensures c.if-eq.false c.is_counter_jump.ensures
