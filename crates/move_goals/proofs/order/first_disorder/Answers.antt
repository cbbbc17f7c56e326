use Rattle.std.proofs.Common.{◌≡◌, not, length, arith, refl, ap, sym, ◌∙◌}
use Rattle.move_goals.specs.Items.{first_disorder, is_in_order}
use Rattle.move_goals.proofs.Blocks.{end_is, end_below, first_ordered, disordered}
use Rattle.move_goals.proofs.First.{first_below_none, first_below_hit}
use Rattle.move_goals.proofs.order.first_disorder.Goals as goal

pub overflow_add-end : goal.overflow_add-end
overflow_add-end c =
    omega (arith, end_below c.blocks_have_all_items.ensures c.args.items.now c.args.spans.now c.requires c.loop-span.span-index c.loop-span.start c.loop-span-test.true c.loop-span.invariant.start_is)

pub overflow_step-k : goal.overflow_step-k
overflow_step-k c =
    omega (arith, end_below c.blocks_have_all_items.ensures c.args.items.now c.args.spans.now c.requires c.loop-span.span-index c.loop-span.start c.loop-span-test.true c.loop-span.invariant.start_is)

pub rest-init : goal.rest-init
rest-init c = record {
  start_is = c.loop-span.invariant.start_is;
  end_is = refl;
  ordered = first_ordered c.blocks_have_all_items.ensures c.args.items.now c.args.spans.now c.requires c.loop-span.span-index c.loop-span.start c.loop-span-test.true
      c.loop-span.invariant.start_is c.loop-span.invariant.ordered;
}

pub follows-requires-clause-item : goal.follows-requires-clause-item
follows-requires-clause-item c =
    omega (arith, c.rest.invariant.end_is, end_below c.blocks_have_all_items.ensures c.args.items.now c.args.spans.now c.requires c.loop-span.span-index c.loop-span.start c.loop-span-test.true c.loop-span.invariant.start_is)

pub returns-then-not-follows : goal.returns-then-not-follows
unfolding first_disorder
returns-then-not-follows c =
    let bound = end_below c.blocks_have_all_items.ensures c.args.items.now c.args.spans.now c.requires c.loop-span.span-index c.loop-span.start c.loop-span-test.true c.loop-span.invariant.start_is in
    sym (first_below_hit (λ j. not (is_in_order c.args.spans.now c.args.items.now j)) (length c.args.items.now) c.rest.k
    (omega (arith, bound))
    (ap not (disordered c.blocks_have_all_items.ensures c.args.items.now c.args.spans.now c.requires c.loop-span.span-index c.loop-span.start c.loop-span-test.true
    c.loop-span.invariant.start_is c.rest.k (omega arith) (omega arith)
    (sym c.follows.ensures ∙ c.if-not-follows.true)))
    (λ j lt. ap not (c.rest.invariant.ordered j lt (omega (arith, lt)))))

pub returns : goal.returns
unfolding first_disorder
returns c =
    let all : c.loop-span.start ≡ length c.args.items.now =
    c.loop-span.invariant.start_is ∙ end_is c.blocks_have_all_items.ensures c.args.items.now c.args.spans.now c.requires c.loop-span.span-index (omega arith) in
    sym (first_below_none (λ j. not (is_in_order c.args.spans.now c.args.items.now j)) (length c.args.items.now)
    (λ j lt. ap not (c.loop-span.invariant.ordered j (omega (arith, lt, all)))))
