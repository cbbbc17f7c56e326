use Rattle.std.proofs.Common.{ℕ, List, [], Ok, length, ap, ◌∙◌}
use Rattle.detour.specs.Detours.{relay_behind}
use Rattle.detour.proofs.AnyMade.{any_relay_unmoved}
use Rattle.detour.proofs.any_making.any_relay_of.Goals as goal

pub returns-in-Ok-clause-relay : goal.returns-in-Ok-clause-relay
returns-in-Ok-clause-relay c =
    (Ok c.in-Ok.laid.moved, (c.in-Ok.ensures.1.1, c.relay_behind.ensures ∙ ap (λ (bs : List ℕ). relay_behind c.args.place (length bs)) c.bytes.ensures))

pub returns-in-Err-clause-relay : goal.returns-in-Err-clause-relay
returns-in-Err-clause-relay c =
    any_relay_unmoved c.args.bits c.args.ip [] c.args.place c.args.rule c.args.taken.items.items c.in-Err.why c.in-Err.ensures c.no_relay_behind.result
    c.no_relay_behind.ensures.none
