use Rattle.std.proofs.Common.{Ok, Err, sym, subst}
use Rattle.flow_graph.specs.Control.{code_bytes_with}
use Rattle.flow_graph.specs.Exits.{AreExits}
use Rattle.row_relation.specs.Spells.{Read}
use Rattle.decoder.specs.Answer.{reading_of}
use Rattle.flow_graph.proofs.Leaving.{read_there, exits_right}
use Rattle.flow_graph.proofs.Telling.{flow_told, read_told}
use Rattle.flow_graph.proofs.exits.stop_at.Goals as goal

pub returns-in-Ok-clause-exits : goal.returns-in-Ok-clause-exits
returns-in-Ok-clause-exits c =
    let code = code_bytes_with c.args.follow c.args.bits c.args.base c.args.bytes.now in
    subst (AreExits code c.args.offset) (sym c.exits_of.ensures.value)
    (exits_right c.bytes_have_one_reading.ensures code c.args.offset c.in-Ok.decoded
    (read_there code c.args.offset (Read c.in-Ok.decoded) c.in-Ok.ensures.reading) c.in-Ok.ensures.length.0)

pub returns-in-Ok-clause-told : goal.returns-in-Ok-clause-told
returns-in-Ok-clause-told c =
    let code = code_bytes_with c.args.follow c.args.bits c.args.base c.args.bytes.now in
    record {
      reading = Read c.in-Ok.decoded;
      reads = read_there code c.args.offset (Read c.in-Ok.decoded) c.in-Ok.ensures.reading;
      is = read_told c.args.follow code c.args.offset c.in-Ok.decoded (Ok c.flow_of-flow.result)
          (flow_told c.in-Ok.decoded c.flow_of-flow.result c.flow_of-flow.ensures);
    }

pub unread_stop-requires-clause-reads : goal.unread_stop-requires-clause-reads
unread_stop-requires-clause-reads c =
    read_there (code_bytes_with c.args.follow c.args.bits c.args.base c.args.bytes.now) c.args.offset (reading_of (Err c.in-Err.error)) c.in-Err.ensures.reading
