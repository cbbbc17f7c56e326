use Rattle.std.proofs.Common.{◌≡◌, Err}
use Rattle.block_encoder.specs.declared.error.PlanError.TheVariants.{TooFar}
use Rattle.step_slots.proofs.StepAnswers.{items-placed, outside-is}
use Rattle.step_slots.proofs.Stood.{stood-short, stood-fits, stood-far}
use Rattle.step_slots.proofs.standing.step_at.Goals as goal

pub move_few_outside-requires-clause-placed : goal.move_few_outside-requires-clause-placed
move_few_outside-requires-clause-placed c = items-placed c.laws_below.ensures c.args.bits c.args.item c.requires c.step_items-items.result c.step_items-items.ensures

pub returns-in-Ok-clause-short : goal.returns-in-Ok-clause-short
returns-in-Ok-clause-short c =
    let moved = outside-is c.args.bits c.step_items-items.result _ c.step_items-items.ensures c.args.place c.move_few_outside.result _ c.in-Ok.is c.move_few_outside.ensures in
    stood-short c.laws_below.ensures c.args.bits c.args.item c.requires c.args.place c.in-Ok.moved moved.1

pub returns-in-Ok-clause-fits : goal.returns-in-Ok-clause-fits
returns-in-Ok-clause-fits c =
    let moved = outside-is c.args.bits c.step_items-items.result _ c.step_items-items.ensures c.args.place c.move_few_outside.result _ c.in-Ok.is c.move_few_outside.ensures in
    stood-fits c.laws_below.ensures c.args.bits c.args.item c.requires c.args.place c.in-Ok.moved moved.1

pub returns-in-Err-TooFar-clause-answer : goal.returns-in-Err-TooFar-clause-answer
returns-in-Err-TooFar-clause-answer c =
    let at = c.in-Err-TooFar.field-0-0 in
    let told : c.move_few_outside.result ≡ Err (TooFar at c.in-Err-TooFar.target) = cc in
    let moved = outside-is c.args.bits c.step_items-items.result _ c.step_items-items.ensures c.args.place c.move_few_outside.result _ told c.move_few_outside.ensures in
    stood-far c.laws_below.ensures c.args.bits c.args.item c.requires c.args.place at c.in-Err-TooFar.target moved.1
