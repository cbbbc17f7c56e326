use Rattle.std.proofs.Common.{rules, arith, ◌+◌, ◌-◌, ◌/◌}
use Rattle.code_region.proofs.Apart.{AreApart-at, AreApart-starts}
use Rattle.code_region.proofs.gaps.find_place.Goals as goal

pub overflow_add-start : goal.overflow_add-start
overflow_add-start c =
    let middle = c.loop-low.low + (c.loop-low.high - c.loop-low.low) / 2 in
    let at = AreApart-at 0 _ c.args.spans.now middle c.requires (omega arith) in
    search rules

pub loop-low-preserved-then-start-place-2 : goal.loop-low-preserved-then-start-place-2
loop-low-preserved-then-start-place-2 c =
    let middle = c.loop-low.low + (c.loop-low.high - c.loop-low.low) / 2 in
    record {
      ordered = omega arith;
      bounded = c.loop-low.invariant.bounded;
      below = λ k h. let starts = AreApart-starts _ c.args.spans.now k middle c.requires (omega arith) (omega arith) in omega arith;
      above = c.loop-low.invariant.above;
    }

pub loop-low-preserved : goal.loop-low-preserved
loop-low-preserved c =
    let middle = c.loop-low.low + (c.loop-low.high - c.loop-low.low) / 2 in
    record {
      ordered = omega arith;
      bounded = omega arith;
      below = c.loop-low.invariant.below;
      above = λ k h l. let starts = AreApart-starts _ c.args.spans.now middle k c.requires h l in omega arith;
    }
