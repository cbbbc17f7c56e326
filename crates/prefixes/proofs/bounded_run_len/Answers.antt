use Rattle.std.proofs.Common.{arith, take}
use Rattle.instruction_parts.specs.Counting.{is_prefix}
use Rattle.prefixes.proofs.Runs.{run_within, run_length, length-take_while}
use Rattle.prefixes.proofs.bounded_run_len.Goals as goal

pub returns : goal.returns
returns c =
    let within = run_within c.args.bits c.min-end.result c.args.bytes.now in
    let counted = length-take_while (is_prefix c.args.bits) (take c.min-end.result c.args.bytes.now) in
    let whole = run_length c.args.bits c.args.bytes.now in
    omega (arith, within, counted, whole, c.run_len.ensures, c.min-end.ensures)
