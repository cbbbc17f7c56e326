use Rattle.std.proofs.Common.{sym, ◌∙◌}
use Rattle.move_goals.specs.Items.{item_at}
use Rattle.detour.specs.Calls.{calls, first_call}
use Rattle.detour.proofs.calls.first_call.Goals as goal

pub returns-then-calls-clause-value : goal.returns-then-calls-clause-value
unfolding first_call
returns-then-calls-clause-value c =
    sym (c.laws_below.ensures.firsts.first_below_hit (λ k. calls (item_at c.args.items.now k)) c.args.count c.items.k c.items-test.true
    (sym c.calls.ensures ∙ c.if-calls.true) c.items.invariant)
