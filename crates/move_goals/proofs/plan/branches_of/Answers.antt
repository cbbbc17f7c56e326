use Rattle.std.proofs.Common.{◌≡◌, arith, ap, map, ◌∙◌, length}
use Rattle.std.specs.List.{range_with_len}
use Rattle.move_goals.specs.Plan.{plan_with, branch_at}
use Rattle.move_goals.proofs.Blocks.{end_is, end_below, other_block}
use Rattle.move_goals.proofs.Aims.{ascend}
use Rattle.move_goals.proofs.Planned.{one_more, planned_item}
use Rattle.move_goals.proofs.plan.branches_of.Goals as goal

pub overflow_add-to : goal.overflow_add-to
overflow_add-to c =
    omega (arith, end_below c.blocks_have_all_items.ensures c.args.items.now c.args.spans.now c.requires.spans c.loop-span.span-index c.loop-span.from c.loop-span-test.true c.loop-span.invariant.from_is)

pub branch_between-requires-clause-starts : goal.branch_between-requires-clause-starts
branch_between-requires-clause-starts c = λ less.
    let to_is = c.items.invariant.to_is in
    c.in_ok-starts.ensures
    (other_block c.blocks_have_all_items.ensures c.args.items.now c.args.spans.now c.requires.spans c.loop-span.span-index c.loop-span.from c.loop-span-test.true c.loop-span.invariant.from_is
    (omega (arith, less)))

pub branch_between-requires-clause-end : goal.branch_between-requires-clause-end
branch_between-requires-clause-end c =
    end_below c.blocks_have_all_items.ensures c.args.items.now c.args.spans.now c.requires.spans c.loop-span.span-index c.loop-span.from c.loop-span-test.true c.loop-span.invariant.from_is

pub branch_between-requires-clause-ascend : goal.branch_between-requires-clause-ascend
branch_between-requires-clause-ascend c =
    ascend c.blocks_have_all_items.ensures c.args.items.now c.args.spans.now c.requires.spans c.loop-span.span-index c.loop-span.from c.loop-span-test.true c.loop-span.invariant.from_is
    c.args.bits c.requires.placed c.requires.order

pub branch_between-requires-clause-item : goal.branch_between-requires-clause-item
branch_between-requires-clause-item c =
    omega (arith, c.items-test.true, end_below c.blocks_have_all_items.ensures c.args.items.now c.args.spans.now c.requires.spans c.loop-span.span-index c.loop-span.from c.loop-span-test.true c.loop-span.invariant.from_is)

pub items-preserved : goal.items-preserved
items-preserved c = record {
  from_is = c.items.invariant.from_is;
  to_is = c.items.invariant.to_is;
  planned = one_more (branch_at c.args.bits c.args.spans.now c.args.items.now) c.items.branches.items c.push.new.self.items c.items.k
      c.branch_between.result c.items.invariant.planned c.in_ok-push.ensures.items
      (c.branch_between.ensures
      ∙ planned_item c.blocks_have_all_items.ensures c.args.bits c.args.items.now c.args.spans.now c.requires.spans c.loop-span.span-index c.loop-span.from c.loop-span-test.true
      c.loop-span.invariant.from_is c.items.k c.items.auto.k c.items-test.true);
}

pub returns : goal.returns
unfolding plan_with
returns c =
    let all : c.loop-span.from ≡ length c.args.items.now =
    c.loop-span.invariant.from_is ∙ end_is c.blocks_have_all_items.ensures c.args.items.now c.args.spans.now c.requires.spans c.loop-span.span-index (omega arith) in
    c.loop-span.invariant.planned ∙ ap (λ n. map (branch_at c.args.bits c.args.spans.now c.args.items.now) (range_with_len 0 n)) all
