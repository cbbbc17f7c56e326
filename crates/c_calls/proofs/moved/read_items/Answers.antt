use Rattle.std.proofs.Common.{refl}
use Rattle.c_calls.proofs.ItemsInOrder.{so_far-step}
use Rattle.c_calls.proofs.moved.read_items.Goals as goal

pub loop-at-preserved : goal.loop-at-preserved
loop-at-preserved c =
    let reads = rw c.split_at.ensures.back at c.in-Ok.ensures.reading in
    let sized = rw c.split_at.ensures.back at c.in-Ok.ensures.length in
    rw c.from-at.ensures (so_far-step _ _ _ c.loop-at.at c.loop-at.items.items _ c.in-Ok.read _ c.loop-at.invariant c.in-Ok-push.ensures.items refl sized.0 sized.1 sized.2 reads)
