use Rattle.std.proofs.Common.{Ok, Err}
use Rattle.detour.specs.Detours.{IsTakenAnswer}
use Rattle.detour.specs.Made.{IsWholeTaken}
use Rattle.detour.proofs.Made.{relay_untaken, relay_taken}
use Rattle.detour.proofs.making.relay_address.Goals as goal

pub returns-in-Ok-clause-relay : goal.returns-in-Ok-clause-relay
returns-in-Ok-clause-relay c =
    let h : IsWholeTaken c.args.bits c.args.ip c.args.code.now 5 (Ok c.in-Ok.taken) = c.in-Ok.ensures in
    relay_taken c.args.bits c.args.ip c.args.code.now c.args.place c.args.rule c.in-Ok.taken.items.items h.1 c.relay_of.result c.relay_of.ensures.relay

pub returns-in-Err-clause-relay : goal.returns-in-Err-clause-relay
returns-in-Err-clause-relay c =
    let h : IsTakenAnswer c.args.bits c.args.ip c.args.code.now 5 (Err c.in-Err.why) = c.in-Err.ensures in
    relay_untaken c.args.bits c.args.ip c.args.code.now c.args.place c.args.rule c.in-Err.why h c.no_relay_for.result c.no_relay_for.ensures.none
