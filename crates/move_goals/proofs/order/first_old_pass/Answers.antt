use Rattle.std.proofs.Common.{◌≡◌, Some, false, length, arith, add-one, refl, ap, sym, ◌∙◌}
use borrow.Author.Count.{below_more}
use Rattle.move_goals.specs.Items.{first_old_pass, block_old_end, passes}
use Rattle.move_goals.proofs.Blocks.{end_below, old_end_is}
use Rattle.move_goals.proofs.First.{first_below_none, first_below_hit}
use Rattle.move_goals.proofs.order.first_old_pass.Goals as goal

pub block_old_end-end-requires : goal.block_old_end-end-requires
block_old_end-end-requires c =
    end_below c.blocks_have_all_items.ensures c.args.items.now c.args.spans.now c.requires c.loop-span.span-index c.loop-span.start c.loop-span-test.true c.loop-span.invariant.start_is

pub overflow_add-start : goal.overflow_add-start
overflow_add-start c =
    omega (arith, end_below c.blocks_have_all_items.ensures c.args.items.now c.args.spans.now c.requires c.loop-span.span-index c.loop-span.start c.loop-span-test.true c.loop-span.invariant.start_is)

pub returns-then-passes : goal.returns-then-passes
unfolding first_old_pass
returns-then-passes c =
    let end = block_old_end c.args.spans.now c.args.items.now in
    let here : c.block_old_end-end.result ≡ end c.loop-span.span-index =
    old_end_is c.blocks_have_all_items.ensures c.args.items.now c.args.spans.now c.requires c.loop-span.span-index c.loop-span.start c.loop-span-test.true
    c.loop-span.invariant.start_is c.block_old_end-end.result c.block_old_end-end.ensures in
    rw (first_below_hit (λ b. passes c.args.bits (end b)) (length c.args.spans.now) c.loop-span.span-index c.loop-span-test.true
    (ap (passes c.args.bits) (sym here) ∙ sym c.passes.ensures ∙ c.if-passes.true) c.loop-span.invariant.small)
    (ap Some here)

pub loop-span-preserved : goal.loop-span-preserved
loop-span-preserved c =
    let end = block_old_end c.args.spans.now c.args.items.now in
    let here : c.block_old_end-end.result ≡ end c.loop-span.span-index =
    old_end_is c.blocks_have_all_items.ensures c.args.items.now c.args.spans.now c.requires c.loop-span.span-index c.loop-span.start c.loop-span-test.true
    c.loop-span.invariant.start_is c.block_old_end-end.result c.block_old_end-end.ensures in
    record {
      start_is = rw add-one (omega (arith, c.loop-span.invariant.start_is));
      small = below_more (λ b. passes c.args.bits (end b) ≡ false) c.loop-span.span-index c.loop-span.invariant.small
          (ap (passes c.args.bits) (sym here) ∙ sym c.passes.ensures ∙ c.if-passes.false);
    }

pub returns : goal.returns
unfolding first_old_pass
returns c =
    rw (first_below_none (λ b. passes c.args.bits (block_old_end c.args.spans.now c.args.items.now b)) (length c.args.spans.now)
    (λ b lt. c.loop-span.invariant.small b (omega (arith, lt, c.loop-span-test.false))))
    refl
