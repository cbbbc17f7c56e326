use Rattle.std.proofs.Common.{◌≤◌, arith, length, inl, inr}
use Rattle.c_calls.proofs.BlocksInOrder.{spans_of_read, placed_of_read, no_disorder_of_read}
use Rattle.c_calls.proofs.BlockAnswers.{answer_of_read, answer_of_unread}
use Rattle.c_calls.specs.Blocks.{AreFew}
use Rattle.c_calls.proofs.moved_blocks.move_blocks_in.Goals as goal

pub returns-then-blocks-gt-MOST_BLOCKS : goal.returns-then-blocks-gt-MOST_BLOCKS
returns-then-blocks-gt-MOST_BLOCKS c = inl (omega arith)

pub returns-then-total_len : goal.returns-then-total_len
returns-then-total_len c = inr (omega arith)

pub read_blocks-requires : goal.read_blocks-requires
read_blocks-requires c = record { few = omega arith; short = omega arith }

pub move_read-requires-clause-spans : goal.move_read-requires-clause-spans
move_read-requires-clause-spans c =
    let few : length c.args.blocks.now ≤ 65536 = omega arith in
    let all = spans_of_read c.args.bits c.args.bytes.now c.args.blocks.now c.in-Ok.read.spans.items c.in-Ok.read.items.items c.in-Ok.ensures few in
    rw (c.deref.ensures.value, c.deref-in-Ok.ensures.value) all

pub move_read-requires-clause-placed : goal.move_read-requires-clause-placed
move_read-requires-clause-placed c =
    let all = placed_of_read c.args.bits c.args.bytes.now c.args.blocks.now c.in-Ok.read.spans.items c.in-Ok.read.items.items c.in-Ok.ensures in
    rw c.deref.ensures.value all

pub move_read-requires-clause-order : goal.move_read-requires-clause-order
move_read-requires-clause-order c =
    let order = no_disorder_of_read c.args.bits c.args.bytes.now c.args.blocks.now c.in-Ok.read.spans.items c.in-Ok.read.items.items c.in-Ok.ensures in
    rw (c.deref.ensures.value, c.deref-in-Ok.ensures.value) order

pub returns-in-Ok : goal.returns-in-Ok
returns-in-Ok c =
    let few : AreFew c.args.blocks.now = record { few = omega arith; short = omega arith } in
    let is = rw (c.deref.ensures.value, c.deref-in-Ok.ensures.value) at c.move_read.ensures in
    answer_of_read c.args.bits c.args.bytes.now c.args.blocks.now c.in-Ok.read.spans.items c.in-Ok.read.items.items c.move_read.result few c.in-Ok.ensures is

pub returns-in-Err : goal.returns-in-Err
returns-in-Err c =
    let few : AreFew c.args.blocks.now = record { few = omega arith; short = omega arith } in
    answer_of_unread c.args.bits c.args.bytes.now c.args.blocks.now c.in-Err.why few c.in-Err.ensures
