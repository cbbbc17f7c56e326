use Rattle.std.proofs.Common.{Result, sym, subst}
use Rattle.x86_values.specs.declared.Bits.{Bits}
use Rattle.flow_graph.specs.declared.exits.Exits.{Exits}
use Rattle.flow_graph.specs.declared.exits.Follow.{Follow}
use Rattle.flow_graph.specs.Control.{code_bytes, code_bytes_with}
use Rattle.flow_graph.specs.Exits.{AreExits}
use Rattle.flow_graph.specs.Told.{Tells}
use Rattle.flow_graph.proofs.Leaving.{no_exits_right}
use Rattle.flow_graph.proofs.Telling.{tells_error}
use Rattle.flow_graph.proofs.exits.unread_stop.Goals as goal

pub returns-in-Listed-clause-exits : goal.returns-in-Listed-clause-exits
returns-in-Listed-clause-exits c =
    let right = no_exits_right c.bytes_have_one_reading.ensures c.args.bits c.args.base c.args.bytes.now c.args.offset c.args.error c.requires.reads in
    subst (λ (f : Follow). AreExits (code_bytes_with f c.args.bits c.args.base c.args.bytes.now) c.args.offset c.dead_end.result.exits) (sym c.in-Listed.is)
    (subst (AreExits (code_bytes c.args.bits c.args.base c.args.bytes.now) c.args.offset) (sym c.dead_end.ensures.exits) right)

pub returns-in-Listed-clause-told : goal.returns-in-Listed-clause-told
returns-in-Listed-clause-told c =
    subst (λ (f : Follow). Tells (code_bytes_with f c.args.bits c.args.base c.args.bytes.now) c.args.offset c.dead_end.result.flow) (sym c.in-Listed.is)
    (tells_error c.args.bits c.args.base c.args.bytes.now c.args.offset c.args.error c.dead_end.result.flow c.requires.reads c.dead_end.ensures.flow)

pub returns-in-Unlisted-clause-exits : goal.returns-in-Unlisted-clause-exits
returns-in-Unlisted-clause-exits c =
    subst (λ (f : Follow). AreExits (code_bytes_with f c.args.bits c.args.base c.args.bytes.now) c.args.offset c.measured_stop.result.exits) (sym c.in-Unlisted.is)
    c.measured_stop.ensures.exits

pub returns-in-Unlisted-clause-told : goal.returns-in-Unlisted-clause-told
returns-in-Unlisted-clause-told c =
    subst (λ (f : Follow). Tells (code_bytes_with f c.args.bits c.args.base c.args.bytes.now) c.args.offset c.measured_stop.result.flow) (sym c.in-Unlisted.is)
    c.measured_stop.ensures.told
