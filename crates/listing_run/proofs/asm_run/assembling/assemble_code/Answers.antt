use Rattle.std.proofs.Common.{refl}
use Rattle.sweep.specs.RunParts.Reads.{whole_limit}
use Rattle.sweep.specs.declared.run_parts.status.Status.TheVariants.{Done}
use Rattle.listing_run.proofs.AsmRun.Completing.{unread, refusal, completes}
use Rattle.listing_run.proofs.asm_run.assembling.assemble_code.Goals as goal

pub returns-in-Err-clause-complete : goal.returns-in-Err-clause-complete
unfolding whole_limit
returns-in-Err-clause-complete g c =
    let answer = unread c.args.bits c.args.base _ _ (g.K.Sink.held c.args.out.now) _ _ _ c.in-Err.unread refl c.in-Err.ensures.unread in
    completes c.args.bits c.args.base c.told_bytes_are_read.ensures c.texts_have_one_answer.ensures _ _ (g.K.Sink.held c.args.out.now) _ _ _ c.in-Err.unread answer

pub returns-in-Err-code_of_lines-clause-complete : goal.returns-in-Err-code_of_lines-clause-complete
unfolding whole_limit
returns-in-Err-code_of_lines-clause-complete g c =
    let refused = rw c.deref.ensures.value at c.in-Err-code_of_lines.ensures.refused in
    let answer = refusal c.args.bits c.args.base c.in-Ok.input.items _ _ (g.K.Sink.held c.args.out.now) _ _ _ c.in-Err-code_of_lines.status c.in-Ok.ensures.ok refl refused in
    completes c.args.bits c.args.base c.told_bytes_are_read.ensures c.texts_have_one_answer.ensures _ _ (g.K.Sink.held c.args.out.now) _ _ _ c.in-Err-code_of_lines.status answer

pub returns-in-Ok-put_all-clause-complete : goal.returns-in-Ok-put_all-clause-complete
unfolding whole_limit
returns-in-Ok-put_all-clause-complete g c =
    let code = rw c.deref.ensures.value at c.in-Ok-code_of_lines.ensures.code in
    let written = rw c.deref-2.ensures.value at c.in-Ok-put_all.ensures.ok in
    completes
    c.args.bits
    c.args.base
    c.told_bytes_are_read.ensures
    c.texts_have_one_answer.ensures
    _
    _
    (g.K.Sink.held c.args.out.now)
    (g.K.Sink.held c.put_all.new.out)
    _
    _
    Done
    (c.in-Ok.input.items, (c.in-Ok.ensures.ok, (c.in-Ok-code_of_lines.code.items, (code, written))))
