use Rattle.std.proofs.Common.{◌≡◌, ◌+◌, ◌*◌, arith}
use Rattle.std.specs.Prelude.{◌/◌, ◌%◌}
use Rattle.opcode_rows.proofs.Named.{named-early}
use Rattle.opcode_rows.proofs.names.early_name.Goals as goal

pub returns : goal.returns
returns c =
    let is : c.args.code ≡ 512 * (c.args.code / 512) + c.args.code % 512 = omega arith in
    named-early c.names_in_line.result.now c.args.code (c.args.code / 512) (c.args.code % 512) _ c.names_in_line.ensures.names
    (omega (arith, c.requires)) is (omega (arith, c.names_in_line.ensures.count))
