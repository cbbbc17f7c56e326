use Rattle.std.proofs.Common.{arith, length, ap, ◌∙◌}
use Rattle.text_rows.proofs.Long.{code_in_table}
use Rattle.text_rows.proofs.Names.{name_of-le}
use Rattle.text_rows.proofs.printed_name.Goals as goal

pub name-requires : goal.name-requires
name-requires c = code_in_table c.args.instr.now c.requires

pub returns-clause-short : goal.returns-clause-short
returns-clause-short c =
    let same = ap length (c.as_bytes.ensures.value ∙ c.name.ensures.name) in
    omega (arith, same, name_of-le c.args.instr.now.code.0)
