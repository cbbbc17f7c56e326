use Rattle.std.proofs.Common.{arith}
use Rattle.std.proofs.lemmas.Result.{err_from_is_err_and, on_err_weaker}
use Rattle.opcode_rows.specs.declared.generated_spots.TheConstants.{ROWS}
use Rattle.sweep.specs.RunParts.Writing.{HoldsFront}
use Rattle.listing_run.specs.Rows.{rows_text}
use Rattle.listing_run.proofs.RowLines.{rows-start, rows-step, rows-failed}
use Rattle.listing_run.proofs.rows.write_rows.Goals as goal

pub loop-code-init : goal.loop-code-init
loop-code-init g c = record {
  within = omega arith;
  lines = rows-start c.held_texts_arrive.ensures _ _ c.new-pending.ensures;
  later = omega arith;
}

pub loop-code-preserved : goal.loop-code-preserved
loop-code-preserved g c =
    let later = c.write_row.ensures.cause.later in
    record {
      within = omega (arith, c.loop-code-test.true);
      lines = rows-step c.held_texts_arrive.ensures _ (g.K.Sink.held c.loop-code.out) _ c.loop-code.pending.items _ c.loop-code.code c.loop-code.invariant.lines c.in_ok-write_row.ensures.ok;
      later = omega (arith, c.loop-code.invariant.later);
    }

pub returns-in_err-write_row-clause-err : goal.returns-in_err-write_row-clause-err
returns-in_err-write_row-clause-err g c =
    let p = err_from_is_err_and c.from_residual.result c.from_residual.ensures.1 in
    rw p.1 (rows-failed c.held_texts_arrive.ensures _ (g.K.Sink.held c.loop-code.out) _ c.loop-code.pending.items c.loop-code.code ROWS c.loop-code.invariant.within c.loop-code.invariant.lines c.in_err-write_row.ensures.err)

pub returns-clause-err : goal.returns-clause-err
returns-clause-err g c =
    let held = g.K.Sink.held c.loop-code.out in
    let held' = g.K.Sink.held c.put_all.new.out in
    let failed : HoldsFront held held' c.deref.result.now → HoldsFront (g.K.Sink.held c.args.out.now) held' rows_text
    = λ front. rows-failed c.held_texts_arrive.ensures _ held _ c.loop-code.pending.items c.loop-code.code ROWS c.loop-code.invariant.within c.loop-code.invariant.lines (rw c.deref.ensures.0 at front) in
    on_err_weaker c.put_all.result failed c.put_all.ensures.err
