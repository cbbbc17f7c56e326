use Rattle.std.proofs.Common.{sym, ◌∙◌}
use Rattle.std.proofs.lemmas.Option.{slice_get_within}
use Rattle.opcode_rows.specs.Table.{part_table}
use Rattle.opcode_rows.proofs.JoinFacts.{row-there}
use Rattle.opcode_rows.proofs.row_of.Goals as goal

pub common_row-requires : goal.common_row-requires
common_row-requires c =
    let t = row-there c.args.code.0 c.spot_at.result c.spot_at.ensures in
    slice_get_within (part_table c.spot_at.result.part) c.spot_at.result.at t.0 t.1

pub returns : goal.returns
returns c =
    let t = row-there c.args.code.0 c.spot_at.result c.spot_at.ensures in
    t.2 ∙ sym t.1 ∙ c.common_row.ensures
