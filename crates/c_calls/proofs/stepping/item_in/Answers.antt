use Rattle.std.proofs.Common.{take, arith}
use Rattle.c_calls.proofs.stepping.item_in.Goals as goal

pub returns-in-Ok-clause-placed : goal.returns-in-Ok-clause-placed
returns-in-Ok-clause-placed c =
    let sized = c.in-Ok.ensures.length in
    let some = sized.0 in
    record { some = omega (arith, some); few = sized.1; bytes = take c.in-Ok.decoded.len c.args.bytes.now; spelled = c.in-Ok.ensures.reading.1 }
