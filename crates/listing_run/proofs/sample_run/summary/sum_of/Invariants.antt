use Rattle.std.proofs.Common.{◌≡◌, ◌≤◌, ◌*◌, take, sum}
use Rattle.listing_run.proofs.sample_run.summary.sum_of.Given as goal

abbrev pub invariant-loop-byte : goal.invariant-loop-byte
invariant-loop-byte l = record {
  summed : l.sum ≡ sum (take l.byte-index l.bytes);
  small : l.sum ≤ 255 * l.byte-index;
}
