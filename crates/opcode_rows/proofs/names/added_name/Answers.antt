use Rattle.std.proofs.Common.{◌≡◌, ◌<◌, ◌+◌, ◌-◌, arith}
use Rattle.opcode_rows.specs.declared.generated_spots.TheConstants.{VERSION1_ROWS, ADDED_ROWS}
use Rattle.opcode_rows.proofs.Named.{added-named}
use Rattle.opcode_rows.proofs.names.added_name.Goals as goal

pub returns : goal.returns
returns c =
    let lt : c.args.code - VERSION1_ROWS < ADDED_ROWS = omega (arith, c.requires.behind, c.requires.within) in
    let is : c.args.code ≡ VERSION1_ROWS + (c.args.code - VERSION1_ROWS) = omega (arith, c.requires.behind) in
    added-named c.added_names.result.now c.args.code (c.args.code - VERSION1_ROWS) _ c.added_names.ensures.names is
    (omega (arith, lt, c.added_names.ensures.count))
