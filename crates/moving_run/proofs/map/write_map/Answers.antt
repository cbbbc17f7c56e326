use Rattle.std.proofs.Common.{◌≡◌, length, arith}
use Rattle.byte_ports.specs.Ports.{with_back}
use Rattle.std.proofs.lemmas.Result.{err_from_is_err_and, on_err_weaker, on_ok_weaker}
use Rattle.sweep.specs.RunParts.Writing.{HoldsFront}
use Rattle.moving_run.specs.Map.{map_lines}
use Rattle.moving_run.proofs.MapLines.{map-start, map-step, map-failed, map-end}
use Rattle.moving_run.proofs.map.write_map.Goals as goal

pub loop-k-init : goal.loop-k-init
loop-k-init g c = record {
  lines = map-start c.held_texts_arrive.ensures _ _ _ _ _ _ c.new-pending.ensures;
  later = omega arith;
}

pub loop-k-preserved : goal.loop-k-preserved
loop-k-preserved g c =
    let later = c.write_map_line.ensures.cause.later in
    let moved = c.in_ok-write_map_line.ensures.ok in
    record {
      lines = map-step c.held_texts_arrive.ensures _ _ _ _ _ (g.K.Sink.held c.loop-k.out) _ c.loop-k.pending.items _ c.loop-k.k c.loop-k.invariant.lines moved;
      later = omega (arith, c.loop-k.invariant.later);
    }

pub returns-in_err-write_map_line-clause-err : goal.returns-in_err-write_map_line-clause-err
returns-in_err-write_map_line-clause-err g c =
    let p = err_from_is_err_and c.from_residual.result c.from_residual.ensures.1 in
    rw p.1 (map-failed c.held_texts_arrive.ensures _ _ _ _ _ (g.K.Sink.held c.loop-k.out) _ c.loop-k.pending.items c.loop-k.k _ (omega (arith, c.loop-k-test.true)) c.loop-k.invariant.lines c.in_err-write_map_line.ensures.err)

pub returns-clause-err : goal.returns-clause-err
returns-clause-err g c =
    let items = c.args.items.now in
    let text = map_lines c.args.bits items c.args.starts.now c.args.forms.now (length items) in
    let failed : HoldsFront (g.K.Sink.held c.loop-k.out) (g.K.Sink.held c.put_all.new.out) c.deref.result.now → HoldsFront (g.K.Sink.held c.args.out.now) (g.K.Sink.held c.put_all.new.out) text
    = λ front.
    map-failed c.held_texts_arrive.ensures _ _ _ _ _ (g.K.Sink.held c.loop-k.out) _ c.loop-k.pending.items c.loop-k.k _ c.loop-k.auto.k-end c.loop-k.invariant.lines (rw c.deref.ensures.0 at front) in
    on_err_weaker c.put_all.result failed c.put_all.ensures.err

pub returns-clause-ok : goal.returns-clause-ok
returns-clause-ok g c =
    let items = c.args.items.now in
    let text = map_lines c.args.bits items c.args.starts.now c.args.forms.now (length items) in
    let whole : g.K.Sink.held c.put_all.new.out ≡ with_back (g.K.Sink.held c.loop-k.out) c.deref.result.now → g.K.Sink.held c.put_all.new.out ≡ with_back (g.K.Sink.held c.args.out.now) text
    = λ all.
    map-end c.held_texts_arrive.ensures _ _ _ _ _ (g.K.Sink.held c.loop-k.out) _ c.loop-k.pending.items c.loop-k.k _ c.loop-k.auto.k-end c.loop-k-test.false c.loop-k.invariant.lines (rw c.deref.ensures.0 at all) in
    on_ok_weaker c.put_all.result whole c.put_all.ensures.ok
