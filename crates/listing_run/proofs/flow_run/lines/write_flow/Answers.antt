use Rattle.std.proofs.Common.{◌≡◌, ℕ, List, length, ap, arith}
use Rattle.byte_ports.specs.Ports.{with_back}
use Rattle.std.proofs.lemmas.Result.{err_from_is_err_and, on_err_weaker, on_ok_weaker}
use Rattle.flow_graph.specs.Control.{code_bytes}
use Rattle.flow_graph.specs.Graphs.{IsFlowGraph}
use Rattle.sweep.specs.RunParts.Writing.{HoldsFront}
use Rattle.listing_run.specs.FlowRun.Flowing.{WritesFlow, WritesFlowFront}
use Rattle.listing_run.proofs.FlowRun.FlowLines.{progress-start, progress-step, progress-failed, progress-end}
use Rattle.listing_run.proofs.flow_run.lines.write_flow.Goals as goal

pub loop-k-init : goal.loop-k-init
loop-k-init g c = record {
  progress = λ bytes is. progress-start c.held_texts_arrive.ensures _ _ _ _ c.new-pending.ensures;
  later = omega arith;
}

pub loop-k-preserved : goal.loop-k-preserved
loop-k-preserved g c =
    let later = c.write_flow_line.ensures.cause.later in
    let written = rw (c.starts-starts.ensures, c.leaders-leaders.ensures.leaders, c.flows-flows.ensures.flows) at c.in_ok-write_flow_line.ensures.ok in
    let below = rw c.starts-starts.ensures at c.loop-k-test.true in
    record {
      progress = λ bytes is. progress-step c.held_texts_arrive.ensures _ _ _ _ c.loop-k.k _ (g.K.Sink.held c.loop-k.out) _ c.loop-k.pending.items _ is below (c.loop-k.invariant.progress bytes is) written;
      later = omega (arith, c.loop-k.invariant.later);
    }

pub returns-in_err-write_flow_line-clause-err : goal.returns-in_err-write_flow_line-clause-err
returns-in_err-write_flow_line-clause-err g c =
    let p = err_from_is_err_and c.from_residual.result c.from_residual.ensures.1 in
    rw p.1 (λ bytes is. progress-failed c.held_texts_arrive.ensures _ _ _ _ c.loop-k.k _ (g.K.Sink.held c.loop-k.out) _ c.loop-k.pending.items is (c.loop-k.invariant.progress bytes is) c.in_err-write_flow_line.ensures.err)

pub returns-clause-err : goal.returns-clause-err
returns-clause-err g c =
    let failed : HoldsFront (g.K.Sink.held c.loop-k.out) (g.K.Sink.held c.put_all.new.out) c.deref.result.now → (bytes : List ℕ) →
    IsFlowGraph (code_bytes c.args.bits c.args.base bytes) c.args.graph.now →
    WritesFlowFront c.args.bits c.args.base bytes (g.K.Sink.held c.args.out.now) (g.K.Sink.held c.put_all.new.out)
    = λ front bytes is.
    progress-failed c.held_texts_arrive.ensures _ _ _ _ c.loop-k.k _ (g.K.Sink.held c.loop-k.out) _ c.loop-k.pending.items is (c.loop-k.invariant.progress bytes is)
    (rw c.deref.ensures.0 at front) in
    on_err_weaker c.put_all.result failed c.put_all.ensures.err

pub returns-clause-ok : goal.returns-clause-ok
returns-clause-ok g c =
    let whole : g.K.Sink.held c.put_all.new.out ≡ with_back (g.K.Sink.held c.loop-k.out) c.deref.result.now → (bytes : List ℕ) →
    IsFlowGraph (code_bytes c.args.bits c.args.base bytes) c.args.graph.now →
    WritesFlow c.args.bits c.args.base bytes (g.K.Sink.held c.args.out.now) (g.K.Sink.held c.put_all.new.out)
    = λ all bytes is.
    progress-end c.held_texts_arrive.ensures _ _ _ _ c.loop-k.k _ (g.K.Sink.held c.loop-k.out) _ c.loop-k.pending.items is
    (omega (arith, ap length c.starts-starts.ensures, c.loop-k.auto.k-end, c.loop-k-test.false)) (c.loop-k.invariant.progress bytes is)
    (rw c.deref.ensures.0 at all) in
    on_ok_weaker c.put_all.result whole c.put_all.ensures.ok
