use Rattle.std.proofs.Common.{◌≡◌, ◌-◌, [], length}
use Rattle.listing_run.proofs.SampleRun.Listed.{Listed}
use Rattle.listing_run.proofs.sample_run.summary.listing_len.Given as goal

abbrev pub invariant-loop-at : goal.invariant-loop-at
invariant-loop-at l = record {
  listed : Listed l.code l.at l.text;
  empty : l.line.items ≡ [];
}

abbrev pub decreases-loop-at : goal.decreases-loop-at
decreases-loop-at l = length l.code - l.at
