use Rattle.std.proofs.Common.{◌<◌, length, arith}
use Rattle.moving_run.proofs.SlotsRun.Going.{item-placed, begun-step, begun-stop, begun-end}
use Rattle.moving_run.proofs.SlotsRun.Kept.{one-refused}
use Rattle.moving_run.proofs.slots_run.stepping.step_all.Goals as goal

pub step_next-refused-requires : goal.step_next-refused-requires
step_next-refused-requires c =
    let reads = rw (c.split_at.ensures.back, c.bits-bits.ensures.value) at c.in-Ok.ensures.reading in
    let some : 0 < length c.split_at.result.1.now = omega (arith, c.split_at.ensures.back_len, c.loop-at-test.true) in
    let takes = rw c.split_at.ensures.back at (c.in-Ok.ensures.takes some) in
    let placed = item-placed c.wrapped_twice.ensures c.args.range.now.bits c.args.base c.loop-at.at _ c.in-Ok.d reads takes.some takes.within in
    rw (c.loop-at.invariant.bits_are, c.wrap-ip.ensures, c.from.ensures, c.bits-bits.ensures.value) placed

pub loop-at-preserved : goal.loop-at-preserved
loop-at-preserved c =
    let reads = rw (c.split_at.ensures.back, c.bits-bits.ensures.value) at c.in-Ok.ensures.reading in
    let some : 0 < length c.split_at.result.1.now = omega (arith, c.split_at.ensures.back_len, c.loop-at-test.true) in
    let takes = rw c.split_at.ensures.back at (c.in-Ok.ensures.takes some) in
    let next = rw (c.wrap-ip.ensures, c.from.ensures, c.bits-bits.ensures.value) at c.step_next-refused.ensures in
    rw c.from-at.ensures (begun-step c.items_stand_in_turn.ensures c.wrapped_twice.ensures _ _ _ c.loop-at.at c.loop-at.number c.loop-at.refused c.step_next-refused.result c.loop-at.slots
    c.step_next-refused.new.slots c.in-Ok.d c.loop-at.invariant reads takes next)

pub returns-in-Err : goal.returns-in-Err
returns-in-Err c =
    let reads = rw (c.split_at.ensures.back, c.bits-bits.ensures.value) at c.in-Err.ensures.reading in
    let some : 0 < length c.split_at.result.1.now = omega (arith, c.split_at.ensures.back_len, c.loop-at-test.true) in
    let takes = rw c.split_at.ensures.back at (c.in-Err.ensures.takes some) in
    begun-stop c.items_stand_in_turn.ensures _ _ _ c.loop-at.at c.loop-at.number c.loop-at.refused c.loop-at.slots _ c.loop-at.invariant reads takes

pub returns-in-None : goal.returns-in-None
returns-in-None c =
    rw c.in-None.is at (begun-end c.items_stand_in_turn.ensures _ _ _ c.loop-at.at c.loop-at.number c.loop-at.refused c.loop-at.slots c.loop-at.invariant c.loop-at-test.false)

pub returns-in-Some : goal.returns-in-Some
returns-in-Some c =
    let gone = rw c.in-Some.is at (begun-end c.items_stand_in_turn.ensures _ _ _ c.loop-at.at c.loop-at.number c.loop-at.refused c.loop-at.slots c.loop-at.invariant c.loop-at-test.false) in
    one-refused c.slots_stay_apart.ensures c.reserved_lengths_are_short.ensures _ c.bits-bits.ensures.range _ _ c.loop-at.slots c.in-Some.status gone
