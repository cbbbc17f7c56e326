use Rattle.std.proofs.Common.{ap, sym, ◌∙◌, slice_get}
use Rattle.opcode_rows.specs.Table.{table}
use Rattle.intel_reader.proofs.Complete.{code_at_index}
use Rattle.intel_reader.proofs.operands.takes_at.Goals as goal

pub returns : goal.returns
returns c = λ bits a b cc d code row asked at there.
    let same = code_at_index c.args.index code c.code_at.result.0 at c.code_at.ensures.at in
    c.takes.ensures bits a b cc d row asked (ap (slice_get table) (sym same) ∙ there)
