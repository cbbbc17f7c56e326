use Rattle.std.proofs.Common.{◌≡◌, ◌+◌, arith}
use Rattle.std.specs.Prelude.{◌%◌}
use Rattle.opcode_rows.proofs.Named.{named-from-1536}
use Rattle.opcode_rows.proofs.names.later_name.Goals as goal

pub returns-then-code-lt-VERSION1_ROWS : goal.returns-then-code-lt-VERSION1_ROWS
returns-then-code-lt-VERSION1_ROWS c =
    let is : c.args.code ≡ 1536 + c.args.code % 512 = omega (arith, c.requires.behind) in
    named-from-1536 c.names_from_1536.result.now c.args.code (c.args.code % 512) _ c.names_from_1536.ensures.names is
    (omega (arith, c.names_from_1536.ensures.count))
