use Rattle.std.proofs.Common.{◌≡◌, ◌+◌, ◌-◌, ◌/◌, ◌<◌, length, arith, sym, ◌∙◌}
use Rattle.code_items.specs.AnyItems.{item_ip, any_at}
use Rattle.code_items.proofs.AnyPlanned.{none_at, one_at, ip-at, below-more, above-more}
use Rattle.code_items.proofs.any_plan.first_at.Goals as goal

pub returns-then-start-target : goal.returns-then-start-target
returns-then-start-target c =
    let k = c.halves.low + (c.halves.high - c.halves.low) / 2 in
    let lt : k < length c.args.items.now = omega arith in
    let here : item_ip (any_at c.args.items.now k) ≡ c.item_ip-start.result =
    ip-at c.args.items.now k c.index-items-middle.result c.item_ip-start.result lt c.index-items-middle.is c.item_ip-start.ensures in
    sym (one_at c.laws_below.ensures.firsts c.args.items.now c.args.target c.requires.ascend k lt (here ∙ c.if-start-target.true))

pub halves-preserved-then-start-target-2 : goal.halves-preserved-then-start-target-2
halves-preserved-then-start-target-2 c =
    let k = c.halves.low + (c.halves.high - c.halves.low) / 2 in
    let lt : k < length c.args.items.now = omega arith in
    let here : item_ip (any_at c.args.items.now k) ≡ c.item_ip-start.result =
    ip-at c.args.items.now k c.index-items-middle.result c.item_ip-start.result lt c.index-items-middle.is c.item_ip-start.ensures in
    record {
      order = omega arith;
      last = omega arith;
      below = below-more c.args.items.now c.args.target c.requires.ascend k lt (omega (arith, here));
      above = c.halves.invariant.above;
    }

pub halves-preserved : goal.halves-preserved
halves-preserved c =
    let k = c.halves.low + (c.halves.high - c.halves.low) / 2 in
    let lt : k < length c.args.items.now = omega arith in
    let here : item_ip (any_at c.args.items.now k) ≡ c.item_ip-start.result =
    ip-at c.args.items.now k c.index-items-middle.result c.item_ip-start.result lt c.index-items-middle.is c.item_ip-start.ensures in
    record {
      order = omega arith;
      last = omega arith;
      below = c.halves.invariant.below;
      above = above-more c.args.items.now c.args.target c.requires.ascend k lt (omega (arith, here, c.if-start-target.false));
    }

pub returns : goal.returns
returns c =
    sym (none_at c.laws_below.ensures.firsts c.args.items.now c.args.target c.halves.low c.halves.high c.halves-test.false
    c.halves.invariant.below c.halves.invariant.above)
