use Rattle.std.proofs.Common.{ap, ◌∙◌, ◌==◌}
use Rattle.std.specs.Prelude.{bit_and}
use Rattle.intel_reader.specs.Operands.{number_of, row_flags}
use Rattle.intel_reader.proofs.Flags.{taken}
use Rattle.intel_reader.proofs.RowNumbers.{number_is}
use Rattle.intel_reader.proofs.operands.takes.Goals as goal

pub returns : goal.returns
returns c = λ bits a b cc d row asked there.
    let number = number_is c.args.code.0 c.flags_of.result row c.flags_of.ensures there in
    ap (λ n. bit_and n c.args.asked == c.args.asked) number
    ∙ ap (λ n. bit_and (number_of (row_flags row)) n == n) asked
    ∙ taken bits row a b cc d
