use Rattle.std.proofs.Common.{length, arith, sym, subst, ap, ◌∙◌}
use Rattle.std.proofs.lemmas.Bool.{both_ways}
use Rattle.branch_sizes.specs.Tables.{plan_in}
use Rattle.branch_sizes.specs.Layout.{AreUnclosed}
use Rattle.branch_sizes.proofs.Filling.{pushed_len}
use Rattle.branch_sizes.proofs.Growing.{unclosed_more, closed_more}
use Rattle.branch_sizes.proofs.worklist.unclosed_items.Goals.{then-not-is_item_closed_in+in_ok-push}
use Rattle.branch_sizes.proofs.worklist.unclosed_items.Goals.{else-not-is_item_closed_in}
use Rattle.branch_sizes.proofs.worklist.unclosed_items.Goals as goal

pub overflow_cast-k : goal.overflow_cast-k
overflow_cast-k c = omega (arith, c.items-test.true, c.args.tables.now.plan.few_items)

pub items-preserved : goal.items-preserved
items-preserved c =
    let p = plan_in c.args.tables.now in
    let layout = c.args.layout.now in
    let xs = c.items.unclosed.items in
    let k = c.items.k in
    elim c.if-not-is_item_closed_in.branch [
      | then-not-is_item_closed_in+in_ok-push w ↦
          let more = ap (λ v. v.items) w.unclosed-is ∙ w.in_ok-push.ensures.items in
          record {
            unclosed = unclosed_more p layout xs _ k c.items.invariant.unclosed c.items-test.true
                (λ h. both_ways _ w.if-not-is_item_closed_in.true (c.is_item_closed_in.ensures.1 h)) more;
            closed = λ none. absurd (omega (arith, none, pushed_len xs _ k more));
          }
      | else-not-is_item_closed_in w ↦
          let same = ap (λ v. v.items) w.unclosed-is in
          record {
            unclosed = subst (AreUnclosed p layout) (sym same) c.items.invariant.unclosed;
            closed = λ none. closed_more p layout k (c.items.invariant.closed (ap length (sym same) ∙ none))
                (c.is_item_closed_in.ensures.0 w.if-not-is_item_closed_in.false);
          }
    ]

pub returns-clause-closed : goal.returns-clause-closed
returns-clause-closed c =
    λ none. record {
      is_layout = c.requires.layout;
      items = λ i lt. c.items.invariant.closed none i (omega (arith, lt, c.items-test.false));
    }
