use Rattle.std.proofs.Common.{◌≡◌, arith, length}
use Rattle.std.specs.Prelude.{vec_len}
use Rattle.c_calls.proofs.BlocksInOrder.{few_in_blocks, one_more_of}
use Rattle.c_calls.proofs.moved_blocks.read_blocks.Goals as goal

pub overflow_cast-span : goal.overflow_cast-span
overflow_cast-span c =
    omega (arith, c.len.ensures, few_in_blocks c.args.bits c.args.bytes.now c.args.blocks.now c.each.b c.in-Ok.front.items c.requires (omega arith) c.in-Ok.ensures)

pub each-preserved : goal.each-preserved
each-preserved c =
    let more = one_more_of c.args.bits c.args.bytes.now c.args.blocks.now c.each.b c.each.spans.items c.each.items.items c.in-Ok.front.items (omega arith) c.each.invariant c.in-Ok.ensures in
    let size : vec_len c.in-Ok.front ≡ length c.in-Ok.front.items = omega arith in
    rw (c.in-Ok-push.ensures.items, c.in-Ok-extend_from_slice.ensures.items, c.deref.ensures.value, c.len.ensures, size) more
