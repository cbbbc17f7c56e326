use Rattle.std.proofs.Common.{Err, ap, ◌∙◌}
use Rattle.std.proofs.lemmas.Bool.{false≢true}
use Rattle.flow_graph.specs.Control.{code_bytes}
use Rattle.row_relation.specs.Spells.{Read}
use Rattle.decoder.specs.Answer.{reading_of}
use Rattle.flow_graph.specs.HookSight.Entries.{is_call}
use Rattle.flow_graph.proofs.HookSight.Entering.{read_there, call_there, no_call_there}
use Rattle.flow_graph.proofs.hook_sight.passages.is_call_at.Goals as goal

pub returns-in-Ok : goal.returns-in-Ok
returns-in-Ok c =
    let code = code_bytes c.args.bits c.args.ip c.args.code.now in
    call_there c.bytes_have_one_reading.ensures code c.args.p c.in-Ok.decoded
    (read_there code c.args.p (Read c.in-Ok.decoded) c.in-Ok.ensures.reading) c.is_call.result
    (c.is_call.ensures ∙ ap is_call c.flow_of.ensures)

pub returns-in-Err : goal.returns-in-Err
returns-in-Err c =
    let code = code_bytes c.args.bits c.args.ip c.args.code.now in (
      λ h. absurd (false≢true h),
      λ call. absurd
          (no_call_there c.bytes_have_one_reading.ensures code c.args.p c.in-Err.field-0
          (read_there code c.args.p (reading_of (Err c.in-Err.field-0)) c.in-Err.ensures.reading) call),
    )
