use Rattle.std.proofs.Common.{arith}
use Rattle.row_relation.proofs.FitFront.{lead_short}
use Rattle.prefixes.proofs.write.append_front.Goals as goal

pub append_lead-requires-clause-room : goal.append_lead-requires-clause-room
append_lead-requires-clause-room c =
    let room = c.requires.room in
    let six = c.append_prefixes.ensures.six_more in
    omega (arith, lead_short c.args.row.now.map c.args.state.now.vex)
