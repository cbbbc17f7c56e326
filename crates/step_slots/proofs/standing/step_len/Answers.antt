use Rattle.step_slots.proofs.StepAnswers.{items-placed}
use Rattle.step_slots.proofs.Stepped.{reserved-some}
use Rattle.step_slots.proofs.standing.step_len.Goals as goal

pub last_len-requires-clause-placed : goal.last_len-requires-clause-placed
last_len-requires-clause-placed c = items-placed c.laws_below.ensures c.args.bits c.args.item c.requires c.step_items-items.result c.step_items-items.ensures

pub returns-clause-some : goal.returns-clause-some
returns-clause-some c =
    let some = reserved-some c.laws_below.ensures c.args.bits c.args.item c.requires c.args.base in
    rw (c.last_len.ensures.value, c.step_items-items.ensures) some
