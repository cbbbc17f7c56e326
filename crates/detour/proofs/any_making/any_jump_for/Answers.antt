use Rattle.detour.specs.Jumps.{IsOutOfReach}
use Rattle.detour.specs.AnyDetours.{IsAnyRelay}
use Rattle.detour.proofs.Jumping.{far-in_64}
use Rattle.detour.proofs.AnyMade.{any_far_first}
use Rattle.detour.proofs.any_making.any_jump_for.Goals as goal

pub returns-in-Ok-clause-jump : goal.returns-in-Ok-clause-jump
returns-in-Ok-clause-jump c =
    let far : IsOutOfReach c.args.bits c.args.ip c.args.to = c.in-None.ensures.answer in
    let tried : IsAnyRelay c.args.bits c.args.ip c.args.code.now c.args.place c.args.rule c.in-Ok.relay = c.in-Ok.ensures.relay in
    any_far_first c.args.bits c.args.ip c.args.code.now c.args.to c.args.place c.args.rule (far-in_64 c.laws_below.ensures c.args.bits c.args.ip c.args.to c.requires far) far
    c.in-Ok.relay tried c.far_jump.result.form c.far_jump.result.bytes.items c.far_jump.result.relay c.far_jump.ensures.jump
