use Rattle.std.proofs.Common.{◌<◌, length, refl, arith}
use Rattle.std.proofs.lemmas.Result.{err_from_is_err_and}
use Rattle.moving_run.proofs.Reading.{block-start, block-step, block-end, block-stop}
use Rattle.moving_run.proofs.code.read_block.Goals as goal

pub loop-at-init : goal.loop-at-init
loop-at-init c = block-start c.items_stand_in_turn.ensures _ _ _ _ (omega (arith, c.requires.few, c.args.items.now.ok))

pub keep-requires : goal.keep-requires
keep-requires c = omega (arith, c.loop-at.invariant.room, c.loop-at.items.ok)

pub returns-in_err-keep-in-Ok-clause-read : goal.returns-in_err-keep-in-Ok-clause-read
returns-in_err-keep-in-Ok-clause-read c =
    let p = err_from_is_err_and c.from_residual.result c.from_residual.ensures.1 in
    rw (p.1, p.2) tt

pub overflow_add-count : goal.overflow_add-count
overflow_add-count c = omega (arith, c.loop-at.invariant.few, c.loop-at.invariant.swept.within, c.requires.short)

pub loop-at-preserved : goal.loop-at-preserved
loop-at-preserved c =
    let reads = rw (c.split_at.ensures.back, c.in-Ok.is) at c.read_onto.ensures.reading in
    let some : 0 < length c.split_at.result.1.now = omega (arith, c.split_at.ensures.back_len, c.loop-at-test.true) in
    let takes = rw (c.split_at.ensures.back, c.in-Ok.is) at (c.read_onto.ensures.takes some) in
    rw c.from-at.ensures (block-step c.items_stand_in_turn.ensures _ _ _ c.loop-at.at c.loop-at.count _ _ c.loop-at.items.items _ c.in-Ok.d c.loop-at.invariant c.loop-at-test.true reads takes refl c.in_ok-keep-in-Ok.ensures.kept)

pub returns-in-Err-clause-read : goal.returns-in-Err-clause-read
returns-in-Err-clause-read c =
    let reads = rw (c.split_at.ensures.back, c.in-Err.is) at c.read_onto.ensures.reading in
    let some : 0 < length c.split_at.result.1.now = omega (arith, c.split_at.ensures.back_len, c.loop-at-test.true) in
    let takes = rw (c.split_at.ensures.back, c.in-Err.is) at (c.read_onto.ensures.takes some) in
    (c.loop-at.at, (block-stop c.items_stand_in_turn.ensures _ _ _ c.loop-at.at c.loop-at.count _ _ _ c.loop-at.invariant reads takes, refl))

pub returns-clause-read : goal.returns-clause-read
returns-clause-read c = block-end c.items_stand_in_turn.ensures _ _ _ c.loop-at.at c.loop-at.count _ _ c.loop-at.invariant c.loop-at-test.false
