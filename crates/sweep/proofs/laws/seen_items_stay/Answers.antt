use Rattle.std.proofs.Common.{◌+◌, length, arith}
use Rattle.sweep.proofs.Longer.{all_ready, sweeps_longer}
use Rattle.sweep.proofs.laws.seen_items_stay.Goals as goal

pub returns : goal.returns
returns c = λ bits base seen more items rest sweeps ready.
    sweeps_longer bits base 0 seen more items rest sweeps (all_ready (length seen) (0 + length seen) items (omega arith) ready)
