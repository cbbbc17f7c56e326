use Rattle.std.proofs.Common.{◌≡◌, ℕ, length, ap, ◌∙◌, arith}
use Rattle.branch_sizes.specs.Layout.{total}
use Rattle.listing_run.specs.SampleRun.Sample.{grows, grown_count}
use Rattle.listing_run.proofs.sample_run.summary.grown_count.Goals as goal

pub returns : goal.returns
unfolding grown_count
returns c =
    let all : c.loop-k.k ≡ length c.args.items.now = omega (arith, c.loop-k-test.false, c.loop-k.auto.k-end) in
    c.loop-k.invariant.counted ∙ ap (λ (n : ℕ). total (grows c.args.items.now c.args.forms.now) n) all
