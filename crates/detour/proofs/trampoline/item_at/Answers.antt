use Rattle.std.proofs.Common.{sym}
use Rattle.std.proofs.lemmas.Bool.{eq-eqb}
use Rattle.move_goals.specs.Goals.{begins_at}
use Rattle.detour.proofs.trampoline.item_at.Goals as goal

pub returns-then-items-k-clause-value : goal.returns-then-items-k-clause-value
returns-then-items-k-clause-value c =
    sym (c.laws_below.ensures.firsts.first_below_hit (begins_at c.args.items.now c.args.target) c.args.count c.items.k c.items-test.true
    (eq-eqb _ _ c.if-items-k.true) c.items.invariant)
