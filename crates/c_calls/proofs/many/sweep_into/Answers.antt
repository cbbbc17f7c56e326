use Rattle.std.proofs.Common.{◌<◌, length, ap, set, arith}
use Rattle.decoder.specs.Answer.{reading_of}
use Rattle.c_calls.specs.Many.{most_items}
use Rattle.c_calls.proofs.ItemStructs.{takes_few, written-start, written-step, written-end}
use Rattle.c_calls.proofs.many.sweep_into.Goals as goal

pub loop-at-init : goal.loop-at-init
loop-at-init c = written-start c.items_stand_in_turn.ensures _ _ _ _

pub loop-at-preserved : goal.loop-at-preserved
loop-at-preserved c =
    let some : 0 < length c.split_at.result.1.now = omega (arith, c.split_at.ensures.back_len, c.loop-at-test.true) in
    let room : c.loop-at.count < most_items (length c.args.instrs.now) = omega (arith, c.if-count-most.true, c.min-most.ensures) in
    let reads = rw c.split_at.ensures.back at c.read_onto.ensures.reading in
    let takes = rw c.split_at.ensures.back at (c.read_onto.ensures.takes some) in
    let few = takes_few _ _ c.read_onto.ensures.length in
    rw c.item_len-at.ensures (written-step c.items_stand_in_turn.ensures _ _ _ c.loop-at.at c.loop-at.count _ _ _ (reading_of c.read_onto.new.out) c.loop-at.invariant room reads takes few (ap (set c.loop-at.instrs c.loop-at.count) c.reading_into.ensures))

pub returns-else-count-most-clause-swept : goal.returns-else-count-most-clause-swept
returns-else-count-most-clause-swept c =
    written-end c.items_stand_in_turn.ensures _ _ _ _ _ _ _ c.loop-at.invariant (λ lt. absurd (omega (arith, lt, c.if-count-most.false, c.min-most.ensures)))

pub returns-after-loop-at-clause-swept : goal.returns-after-loop-at-clause-swept
returns-after-loop-at-clause-swept c = written-end c.items_stand_in_turn.ensures _ _ _ _ _ _ _ c.loop-at.invariant (λ _. c.loop-at-test.false)
