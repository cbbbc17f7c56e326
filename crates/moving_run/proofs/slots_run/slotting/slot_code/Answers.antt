use Rattle.std.proofs.Common.{refl}
use Rattle.sweep.specs.RunParts.Reads.{whole_limit}
use Rattle.sweep.specs.declared.run_parts.status.Status.TheVariants.{Done}
use Rattle.moving_run.proofs.SlotsRun.Kept.{all-slotted}
use Rattle.moving_run.proofs.SlotsRun.Completing.{unread, refusal, completes}
use Rattle.moving_run.proofs.slots_run.slotting.slot_code.Goals as goal

pub returns-in-Err-clause-complete : goal.returns-in-Err-clause-complete
unfolding whole_limit
returns-in-Err-clause-complete g c =
    let answer = unread c.args.range.now c.args.base _ _ (g.K.Sink.held c.args.out.now) _ _ _ c.in-Err.unread refl c.in-Err.ensures.unread in
    completes c.args.range.now c.args.base c.told_bytes_are_read.ensures c.code_has_one_answer.ensures _ _ (g.K.Sink.held c.args.out.now) _ _ _ c.in-Err.unread answer

pub returns-in-Err-step_all-clause-complete : goal.returns-in-Err-step_all-clause-complete
unfolding whole_limit
returns-in-Err-step_all-clause-complete g c =
    let refused = rw c.deref.ensures.value at c.in-Err-step_all.ensures in
    let answer = refusal c.args.range.now c.args.base c.in-Ok.input.items _ _ (g.K.Sink.held c.args.out.now) _ _ _ c.in-Err-step_all.status c.in-Ok.ensures.ok
    refl refused in
    completes c.args.range.now c.args.base c.told_bytes_are_read.ensures c.code_has_one_answer.ensures _ _ (g.K.Sink.held c.args.out.now) _ _ _ c.in-Err-step_all.status answer

pub returns-in-Ok-put_all-clause-answer : goal.returns-in-Ok-put_all-clause-answer
unfolding whole_limit
returns-in-Ok-put_all-clause-answer g c =
    let gone = rw c.deref.ensures.value at c.in_default.ensures in
    let made = all-slotted c.slots_stay_apart.ensures c.reserved_lengths_are_short.ensures c.args.range.now c.bits.ensures.range c.args.base c.in-Ok.input.items c.step_all.new.slots c.image.result.now gone c.image.ensures.slots
    c.image.ensures.value in
    (c.in-Ok.input.items, (c.in-Ok.ensures.ok, (c.image.result.now, (made, c.in-Ok-put_all.ensures.ok))))

pub returns-in-Ok-put_all-clause-complete : goal.returns-in-Ok-put_all-clause-complete
unfolding whole_limit
returns-in-Ok-put_all-clause-complete g c =
    let gone = rw c.deref.ensures.value at c.in_default.ensures in
    let made = all-slotted c.slots_stay_apart.ensures c.reserved_lengths_are_short.ensures c.args.range.now c.bits.ensures.range c.args.base c.in-Ok.input.items c.step_all.new.slots c.image.result.now gone c.image.ensures.slots
    c.image.ensures.value in
    completes
    c.args.range.now
    c.args.base
    c.told_bytes_are_read.ensures
    c.code_has_one_answer.ensures
    _
    _
    (g.K.Sink.held c.args.out.now)
    (g.K.Sink.held c.put_all.new.out)
    _
    _
    Done
    (c.in-Ok.input.items, (c.in-Ok.ensures.ok, (c.image.result.now, (made, c.in-Ok-put_all.ensures.ok))))

pub returns-clause-answer : goal.returns-clause-answer
unfolding whole_limit
returns-clause-answer g c =
    let gone = rw c.deref.ensures.value at c.in_default.ensures in
    let made = all-slotted c.slots_stay_apart.ensures c.reserved_lengths_are_short.ensures c.args.range.now c.bits.ensures.range c.args.base c.in-Ok.input.items c.step_all.new.slots c.image.result.now gone c.image.ensures.slots
    c.image.ensures.value in
    (c.in-Err-put_all.ensures.cause.failed refl, (c.in-Ok.input.items, (c.in-Ok.ensures.ok, (c.image.result.now, (made, c.in-Err-put_all.ensures.err)))))
