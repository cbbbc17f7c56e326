use Rattle.std.proofs.Common.{refl, arith}
use Rattle.c_calls.specs.Ruled.{moved_start, moved_starts}
use Rattle.c_calls.proofs.PutStarts.{counts_at}
use Rattle.c_calls.proofs.ruled.write_moved.Goals as goal

pub moved-init : goal.moved-init
unfolding moved_starts
moved-init c = refl

pub moved-preserved : goal.moved-preserved
unfolding moved_starts
moved-preserved c =
    counts_at (moved_start c.args.starts.now c.args.places.now) c.args.room.now c.moved.k _ c.moved.room
    c.moved_start.ensures c.moved.invariant (omega arith)
