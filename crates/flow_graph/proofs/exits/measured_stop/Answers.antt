use Rattle.std.proofs.Common.{Ok, Err, sym, subst, ap, refl, ◌∙◌}
use Rattle.flow_graph.specs.Control.{code_bytes_with}
use Rattle.flow_graph.specs.declared.exits.Follow.TheVariants.{Unlisted}
use Rattle.flow_graph.specs.Exits.{AreExits}
use Rattle.flow_graph.proofs.Leaving.{measured_there, shape_exits_right, unmeasured_right}
use Rattle.flow_graph.proofs.Telling.{tells_measured}
use Rattle.flow_graph.proofs.exits.measured_stop.Goals as goal

pub returns-in-Ok-clause-exits : goal.returns-in-Ok-clause-exits
returns-in-Ok-clause-exits c =
    let code = code_bytes_with Unlisted c.args.bits c.args.base c.args.bytes.now in
    subst (AreExits code c.args.offset) (sym c.exits_of_shape.ensures.value)
    (shape_exits_right c.bytes_have_one_reading.ensures c.answers_are_unique.ensures c.args.bits c.args.base c.args.bytes.now c.args.offset c.args.error
    c.requires.reads c.in-Ok.shape (measured_there code c.args.offset (Ok c.in-Ok.shape) c.in-Ok.ensures.measured) c.in-Ok.ensures.length.0)

pub returns-in-Ok-clause-told : goal.returns-in-Ok-clause-told
returns-in-Ok-clause-told c =
    let code = code_bytes_with Unlisted c.args.bits c.args.base c.args.bytes.now in
    tells_measured c.args.bits c.args.base c.args.bytes.now c.args.offset c.args.error (Ok c.in-Ok.shape) (Ok c.shape_flow.result) c.requires.reads
    (measured_there code c.args.offset (Ok c.in-Ok.shape) c.in-Ok.ensures.measured) (ap Ok c.shape_flow.ensures)

pub returns-in-Err-clause-exits : goal.returns-in-Err-clause-exits
returns-in-Err-clause-exits c =
    let code = code_bytes_with Unlisted c.args.bits c.args.base c.args.bytes.now in
    subst (AreExits code c.args.offset) (sym c.dead_end.ensures.exits)
    (unmeasured_right c.bytes_have_one_reading.ensures c.answers_are_unique.ensures c.args.bits c.args.base c.args.bytes.now c.args.offset c.args.error
    c.in-Err.field-0 c.requires.reads (measured_there code c.args.offset (Err c.in-Err.field-0) c.in-Err.ensures.measured))

pub returns-in-Err-clause-told : goal.returns-in-Err-clause-told
returns-in-Err-clause-told c =
    let code = code_bytes_with Unlisted c.args.bits c.args.base c.args.bytes.now in
    tells_measured c.args.bits c.args.base c.args.bytes.now c.args.offset c.args.error (Err c.in-Err.field-0) c.dead_end.result.flow c.requires.reads
    (measured_there code c.args.offset (Err c.in-Err.field-0) c.in-Err.ensures.measured) c.dead_end.ensures.flow
