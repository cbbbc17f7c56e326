use Rattle.std.proofs.Common.{◌≡◌, ◌≤◌}
use Rattle.branch_sizes.specs.Layout.{total}
use Rattle.listing_run.specs.SampleRun.Sample.{grows}
use Rattle.listing_run.proofs.sample_run.summary.grown_count.Given as goal

abbrev pub invariant-loop-k : goal.invariant-loop-k
invariant-loop-k l = record {
  counted : l.count ≡ total (grows l.items l.forms) l.k;
  small : l.count ≤ l.k;
}
