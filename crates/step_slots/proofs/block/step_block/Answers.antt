use Rattle.std.proofs.Common.{◌∙◌, ap, sym, subst, Err}
use Rattle.code_region.specs.Placing.{after_place}
use Rattle.step_slots.specs.Stepping.{IsBlockStepped}
use Rattle.step_slots.specs.declared.refusals.StepError.{StepError}
use Rattle.step_slots.proofs.StepAnswers.{items-placed, reserved-is, answer-is, outside-is, length-refusal, reach-refusal, not-moved, moved-can_fill, given-back}
use Rattle.step_slots.proofs.block.step_block.Goals as goal

pub last_len-len-requires-clause-placed : goal.last_len-len-requires-clause-placed
last_len-len-requires-clause-placed c = items-placed c.laws_below.ensures c.args.bits c.args.item c.requires.placed c.step_items-items.result c.step_items-items.ensures

pub move_few_outside-requires-clause-placed : goal.move_few_outside-requires-clause-placed
move_few_outside-requires-clause-placed c = items-placed c.laws_below.ensures c.args.bits c.args.item c.requires.placed c.step_items-items.result c.step_items-items.ensures

pub place_refusal-requires : goal.place_refusal-requires
place_refusal-requires c =
    let region = c.args.region.now in
    let len = reserved-is c.args.bits c.args.item region c.args.base c.requires.base c.step_items-items.result c.step_items-items.ensures c.last_len-len.result c.last_len-len.ensures.value in
    length-refusal c.laws_below.ensures c.args.bits c.args.item c.requires.placed region c.in-Err.why (answer-is region _ _ len c.place.result _ c.place.ensures.answer c.in-Err.is)

pub fill-requires : goal.fill-requires
fill-requires c =
    let region = c.args.region.now in
    let place = c.in-Ok.place in
    let len = reserved-is c.args.bits c.args.item region c.args.base c.requires.base c.step_items-items.result c.step_items-items.ensures c.last_len-len.result c.last_len-len.ensures.value in
    let there = answer-is region _ _ len c.place.result _ c.place.ensures.answer c.in-Ok.is in
    let moved = outside-is c.args.bits c.step_items-items.result _ c.step_items-items.ensures place c.move_few_outside.result _ c.in-Ok-move_few_outside.is c.move_few_outside.ensures in
    moved-can_fill c.laws_below.ensures c.args.bits c.args.item c.requires.placed region c.requires.inside c.requires.sound c.requires.units place there
    c.in-Ok-move_few_outside.moved moved c.place.new.self (c.place.ensures.state ∙ ap (after_place region) len) c.bytes.result.now c.bytes.ensures

pub move_refusal-requires : goal.move_refusal-requires
move_refusal-requires c =
    let region = c.args.region.now in
    let place = c.in-Ok.place in
    let len = reserved-is c.args.bits c.args.item region c.args.base c.requires.base c.step_items-items.result c.step_items-items.ensures c.last_len-len.result c.last_len-len.ensures.value in
    let there = answer-is region _ _ len c.place.result _ c.place.ensures.answer c.in-Ok.is in
    let moved = outside-is c.args.bits c.step_items-items.result _ c.step_items-items.ensures place c.move_few_outside.result _ c.in-Err-move_few_outside.is c.move_few_outside.ensures in
    reach-refusal c.laws_below.ensures c.args.bits c.args.item c.requires.placed region c.requires.inside c.requires.sound c.requires.units place there c.in-Err-move_few_outside.why moved

pub returns-in-Err-move_few_outside : goal.returns-in-Err-move_few_outside
returns-in-Err-move_few_outside c =
    let region = c.args.region.now in
    let place = c.in-Ok.place in
    let new = c.release.new.self in
    let len = reserved-is c.args.bits c.args.item region c.args.base c.requires.base c.step_items-items.result c.step_items-items.ensures c.last_len-len.result c.last_len-len.ensures.value in
    let there = answer-is region _ _ len c.place.result _ c.place.ensures.answer c.in-Ok.is in
    let moved = outside-is c.args.bits c.step_items-items.result _ c.step_items-items.ensures place c.move_few_outside.result _ c.in-Err-move_few_outside.is c.move_few_outside.ensures in
    let same = given-back c.laws_below.ensures c.args.bits c.args.item c.requires.placed region c.requires.inside c.requires.sound c.requires.units place there
    c.place.new.self (c.place.ensures.state ∙ ap (after_place region) len) new c.release.ensures.state in
    subst (λ (why : StepError). IsBlockStepped c.args.bits region c.args.item (Err why) new) (sym c.move_refusal.ensures)
    (not-moved c.laws_below.ensures c.args.bits c.args.item c.requires.placed region c.requires.inside c.requires.sound c.requires.units place there c.in-Err-move_few_outside.why moved new same)
