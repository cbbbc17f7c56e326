use Rattle.std.proofs.Common.{ℕ, ◌^◌, ◌<◌, ◌≤◌, List, length, sym, subst}
use Rattle.x86_values.specs.Wrapping.{width}
use Rattle.move_goals.specs.declared.items.Placed.{Placed}
use Rattle.move_goals.specs.Items.{ArePlaced}
use Rattle.block_encoder.proofs.PushedCalls.Placed.{jump-placed, few-items, modulo-below}
use Rattle.block_encoder.proofs.pushed_calls.items.pushed_call.Goals as goal

pub returns-in-Some-clause-placed : goal.returns-in-Some-clause-placed
returns-in-Some-clause-placed c =
    let below = subst (λ (n : ℕ). n < 2 ^ width c.args.bits) (sym c.wrap-back.ensures) (modulo-below c.args.bits _) in
    subst (ArePlaced c.args.bits) (sym c.with_jump.ensures)
    (jump-placed c.return_addresses_are_pushed.ensures c.args.bits c.args.item.now.ip c.wrap-back.result below c.in-Some.jump c.in-Some.ensures.placed)

pub returns-in-Some-clause-few : goal.returns-in-Some-clause-few
returns-in-Some-clause-few c =
    subst (λ (items : List Placed). length items ≤ 3) (sym c.with_jump.ensures)
    (few-items c.args.bits c.args.item.now.ip c.wrap-back.result c.in-Some.jump)
