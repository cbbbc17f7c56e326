use Rattle.std.proofs.Common.{◌≡◌, false}
use Rattle.instruction_parts.specs.Sizes.{is_vex_row}
use Rattle.encoder.proofs.LegacyRows.{legacy-no-gather}
use Rattle.encoder.proofs.encode_row.Goals as goal

pub write_parts-requires-clause-gather : goal.write_parts-requires-clause-gather
write_parts-requires-clause-gather c =
    let legacy : is_vex_row c.args.row.now ≡ false = cc in
    legacy-no-gather c.args.bits c.args.row.now c.requires.writable c.requires.exists legacy
