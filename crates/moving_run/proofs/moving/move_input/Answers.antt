use Rattle.std.proofs.Common.{sym}
use Rattle.block_encoder.specs.declared.error.MoveError.TheVariants as error
use Rattle.moving_run.proofs.Moved.{passes, code_spans, code_placed, code_few, moves, refuses, ordered}
use Rattle.moving_run.proofs.moving.move_input.Goals as goal

pub returns-in-Some : goal.returns-in-Some
returns-in-Some c = passes c.blocks_have_all_items.ensures _ _ _ c.in-Ok.code c.in-Ok.ensures c.if-count.false c.in-Some.end (sym c.in-Some.ensures)

pub move_ordered_blocks-requires-clause-spans : goal.move_ordered_blocks-requires-clause-spans
move_ordered_blocks-requires-clause-spans c =
    let whole = code_spans c.blocks_have_all_items.ensures _ _ _ c.in-Ok.code c.in-Ok.ensures c.if-count.false (sym c.in_default.ensures) c.requires.few in
    rw (c.deref.ensures.value, c.deref-2.ensures.value) whole

pub move_ordered_blocks-requires-clause-placed : goal.move_ordered_blocks-requires-clause-placed
move_ordered_blocks-requires-clause-placed c =
    let whole = code_placed c.blocks_have_all_items.ensures _ _ _ c.in-Ok.code c.in-Ok.ensures c.if-count.false (sym c.in_default.ensures) in
    rw c.deref.ensures.value whole

pub move_ordered_blocks-requires-clause-few : goal.move_ordered_blocks-requires-clause-few
move_ordered_blocks-requires-clause-few c =
    let whole = code_few c.blocks_have_all_items.ensures _ _ _ c.in-Ok.code c.in-Ok.ensures c.if-count.false (sym c.in_default.ensures) in
    rw c.deref.ensures.value whole

pub move_ordered_blocks-requires-clause-order : goal.move_ordered_blocks-requires-clause-order
move_ordered_blocks-requires-clause-order c =
    let whole = ordered c.blocks_have_all_items.ensures _ _ _ c.in-Ok.code c.in-Ok.ensures c.if-count.false (sym c.in_default.ensures) in
    rw (c.deref.ensures.value, c.deref-2.ensures.value) whole

pub returns-in-Ok-move_ordered_blocks : goal.returns-in-Ok-move_ordered_blocks
returns-in-Ok-move_ordered_blocks c =
    let answer = rw (c.deref.ensures.value, c.deref-2.ensures.value) at c.in-Ok-move_ordered_blocks.ensures.answer in
    moves c.blocks_have_all_items.ensures _ _ _ c.in-Ok.code c.in-Ok.ensures c.if-count.false (sym c.in_default.ensures) c.in-Ok-move_ordered_blocks.moved answer

pub returns-in-Err-Wraps : goal.returns-in-Err-Wraps
returns-in-Err-Wraps c =
    let told = rw c.in-Err-Wraps.field-0-is at c.in-Err-Wraps.ensures.answer in
    let answer = rw (c.deref.ensures.value, c.deref-2.ensures.value) at told in
    refuses c.blocks_have_all_items.ensures _ _ _ c.in-Ok.code c.in-Ok.ensures c.if-count.false (sym c.in_default.ensures) (error.Wraps c.in-Err-Wraps.end) answer

pub returns-in-Err-TooFar : goal.returns-in-Err-TooFar
returns-in-Err-TooFar c =
    let told = rw c.in-Err-TooFar.field-0-is at c.in-Err-TooFar.ensures.answer in
    let answer = rw (c.deref.ensures.value, c.deref-2.ensures.value) at told in
    refuses c.blocks_have_all_items.ensures _ _ _ c.in-Ok.code c.in-Ok.ensures c.if-count.false (sym c.in_default.ensures) (error.TooFar c.in-Err-TooFar.at c.in-Err-TooFar.target) answer
