use Rattle.std.proofs.Common.{Ok, Err}
use Rattle.detour.specs.AnyDetours.{IsAnyTakenAnswer}
use Rattle.detour.specs.AnyMade.{IsAnyWholeTaken}
use Rattle.detour.proofs.AnyMade.{any_relay_untaken, any_relay_taken}
use Rattle.detour.proofs.any_making.any_relay_address.Goals as goal

pub returns-in-Ok-clause-relay : goal.returns-in-Ok-clause-relay
returns-in-Ok-clause-relay c =
    let h : IsAnyWholeTaken c.args.bits c.args.ip c.args.code.now 5 (Ok c.in-Ok.taken) = c.in-Ok.ensures in
    any_relay_taken c.args.bits c.args.ip c.args.code.now c.args.place c.args.rule c.in-Ok.taken.items.items h.1 c.any_relay_of.result c.any_relay_of.ensures.relay

pub returns-in-Err-clause-relay : goal.returns-in-Err-clause-relay
returns-in-Err-clause-relay c =
    let h : IsAnyTakenAnswer c.args.bits c.args.ip c.args.code.now 5 (Err c.in-Err.why) = c.in-Err.ensures in
    any_relay_untaken c.args.bits c.args.ip c.args.code.now c.args.place c.args.rule c.in-Err.why h c.no_relay_for.result c.no_relay_for.ensures.none
