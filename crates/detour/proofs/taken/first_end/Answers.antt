use Rattle.std.proofs.Common.{length, not, ap, sym, ◌∙◌}
use Rattle.move_goals.specs.Items.{item_at}
use Rattle.detour.specs.Taken.{item_goes_on, first_end}
use Rattle.detour.proofs.taken.first_end.Goals as goal

pub returns-then-not-item_goes_on-clause-value : goal.returns-then-not-item_goes_on-clause-value
unfolding first_end
returns-then-not-item_goes_on-clause-value c =
    sym (c.laws_below.ensures.firsts.first_below_hit (λ k. not (item_goes_on (item_at c.args.items.now k))) (length c.args.items.now) c.items.k c.items-test.true
    (ap not (sym c.item_goes_on.ensures ∙ c.if-not-item_goes_on.true)) c.items.invariant)
