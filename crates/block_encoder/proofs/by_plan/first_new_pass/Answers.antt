use Rattle.std.proofs.Common.{◌≡◌, false, length, get_or, arith, refl, sym, ◌∙◌}
use borrow.Author.Count.{below_more}
use Rattle.move_goals.specs.Items.{passes}
use Rattle.branch_sizes.specs.MoveLayout.Laid.{no_end}
use Rattle.block_encoder.proofs.by_plan.first_new_pass.Goals as goal

pub returns-then-passes : goal.returns-then-passes
returns-then-passes c =
    rw (c.laws_below.ensures.firsts.first_below_hit (λ b. passes c.args.bits (get_or c.args.ends.now b no_end).end) (length c.args.ends.now) c.loop-end.end-index c.loop-end-test.true
    (sym c.passes.ensures ∙ c.if-passes.true) c.loop-end.invariant)
    refl

pub loop-end-preserved : goal.loop-end-preserved
loop-end-preserved c =
    below_more (λ b. passes c.args.bits (get_or c.args.ends.now b no_end).end ≡ false) c.loop-end.end-index c.loop-end.invariant
    (sym c.passes.ensures ∙ c.if-passes.false)

pub returns : goal.returns
returns c =
    rw (c.laws_below.ensures.firsts.first_below_none (λ b. passes c.args.bits (get_or c.args.ends.now b no_end).end) (length c.args.ends.now)
    (λ b lt. c.loop-end.invariant b (omega (arith, lt, c.loop-end-test.false))))
    refl
