use Rattle.std.proofs.Common.{refl}
use Rattle.sweep.specs.RunParts.Reads.{whole_limit}
use Rattle.sweep.specs.declared.run_parts.status.Status.TheVariants.{Done}
use Rattle.moving_run.proofs.Moved.{starts_length, forms_length, moves_code, unread, refusal}
use Rattle.moving_run.proofs.Completing.{completes}
use Rattle.moving_run.proofs.moving.move_code.Goals as goal

pub returns-in-Err-clause-complete : goal.returns-in-Err-clause-complete
unfolding whole_limit
returns-in-Err-clause-complete g c =
    let answer = unread c.args.wanted c.args.bits c.args.words.now _ _ (g.K.Sink.held c.args.out.now) _ _ _ c.in-Err.unread refl c.in-Err.ensures.unread in
    completes c.told_bytes_are_read.ensures c.inputs_have_one_answer.ensures c.args.wanted c.args.bits c.args.words.now _ _ (g.K.Sink.held c.args.out.now) _ _ _ c.in-Err.unread answer

pub returns-in-Err-move_input-clause-complete : goal.returns-in-Err-move_input-clause-complete
unfolding whole_limit
returns-in-Err-move_input-clause-complete g c =
    let reads = c.in-Ok.ensures.ok in
    let refused = rw c.deref.ensures.value at c.in-Err-move_input.ensures in
    let answer = refusal c.args.wanted _ _ _ _ _ (g.K.Sink.held c.args.out.now) _ _ _ c.in-Err-move_input.status reads refl refused in
    completes c.told_bytes_are_read.ensures c.inputs_have_one_answer.ensures c.args.wanted _ _ _ _ (g.K.Sink.held c.args.out.now) _ _ _ c.in-Err-move_input.status answer

pub write_wanted-requires-clause-starts : goal.write_wanted-requires-clause-starts
write_wanted-requires-clause-starts g c = rw c.deref-2.ensures.value (starts_length _ _ _ _ _ c.in-Ok-move_input.ensures)

pub write_wanted-requires-clause-forms : goal.write_wanted-requires-clause-forms
write_wanted-requires-clause-forms g c = rw c.deref-2.ensures.value (forms_length _ _ _ _ _ c.in-Ok-move_input.ensures)

pub returns-in-Ok-write_wanted-clause-answer : goal.returns-in-Ok-write_wanted-clause-answer
unfolding whole_limit
returns-in-Ok-write_wanted-clause-answer g c =
    let reads = c.in-Ok.ensures.ok in
    let moved = rw c.deref.ensures.value at c.in-Ok-move_input.ensures in
    let written = rw c.deref-2.ensures.value at c.in-Ok-write_wanted.ensures.ok in
    let code = moves_code c.moved_blocks_are_read_back.ensures c.args.wanted _ _ _ _ _ c.requires.few moved in
    (c.in-Ok.input.items, (reads, (_, (code, written))))

pub returns-clause-answer : goal.returns-clause-answer
unfolding whole_limit
returns-clause-answer g c =
    let reads = c.in-Ok.ensures.ok in
    let moved = rw c.deref.ensures.value at c.in-Ok-move_input.ensures in
    let front = rw c.deref-2.ensures.value at c.in-Err-write_wanted.ensures.err in
    let code = moves_code c.moved_blocks_are_read_back.ensures c.args.wanted _ _ _ _ _ c.requires.few moved in
    (c.in-Err-write_wanted.ensures.cause.failed refl, (c.in-Ok.input.items, (reads, (_, (code, front)))))

pub returns-in-Ok-write_wanted-clause-complete : goal.returns-in-Ok-write_wanted-clause-complete
unfolding whole_limit
returns-in-Ok-write_wanted-clause-complete g c =
    let reads = c.in-Ok.ensures.ok in
    let moved = rw c.deref.ensures.value at c.in-Ok-move_input.ensures in
    let written = rw c.deref-2.ensures.value at c.in-Ok-write_wanted.ensures.ok in
    let code = moves_code c.moved_blocks_are_read_back.ensures c.args.wanted _ _ _ _ _ c.requires.few moved in
    completes
    c.told_bytes_are_read.ensures
    c.inputs_have_one_answer.ensures
    c.args.wanted
    _
    _
    _
    _
    (g.K.Sink.held c.args.out.now)
    (g.K.Sink.held c.write_wanted.new.out)
    _
    _
    Done
    (c.in-Ok.input.items, (reads, (_, (code, written))))
