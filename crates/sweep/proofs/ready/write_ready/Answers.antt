use Rattle.std.proofs.Common.{arith, rules, refl}
use Rattle.std.proofs.lemmas.Result.{err_from_is_err_and}
use Rattle.sweep.specs.RunParts.Writing.{no_put}
use Rattle.sweep.proofs.Handling.{progress-start, progress-step, progress-end, progress-stop, progress-failed, progress-stop_failed}
use Rattle.sweep.proofs.ready.write_ready.Goals as goal

pub items-init : goal.items-init
items-init g c = record {
  progress = progress-start c.held_texts_arrive.ensures _ _ _ _ _ _ _ _ c.new-pending.ensures;
  puts = no_put;
  later = omega arith;
}

pub overflow_add-count : goal.overflow_add-count
overflow_add-count g c = search (rules, c.items.invariant.progress.few, c.items.invariant.progress.within, c.requires.short)

pub items-preserved : goal.items-preserved
items-preserved g c =
    let later = c.write_item.ensures.cause.later in
    let step = rw (c.split_at.ensures.back, c.in-Line.is) at c.in_ok-taken.ensures.ok in
    record {
      progress = progress-step c.held_texts_arrive.ensures _ _ _ _ _ c.items.used c.items.count _ _ (g.K.Sink.held c.items.out) _ c.items.pending.items _ _
          (c.items-test.ensures.ready refl) c.items.invariant.progress step;
      puts = c.puts_join.ensures.join _ _ _ c.items.invariant.puts c.in_ok-taken.ensures.puts;
      later = omega (arith, c.items.invariant.later);
    }

pub returns-in_err-taken-clause-err : goal.returns-in_err-taken-clause-err
returns-in_err-taken-clause-err g c =
    let p = err_from_is_err_and c.from_residual.result c.from_residual.ensures.1 in
    rw p.1 (progress-failed c.held_texts_arrive.ensures _ _ _ _ _ c.items.used c.items.count _ _ (g.K.Sink.held c.items.out) _ c.items.pending.items c.items.invariant.progress c.in_err-taken.ensures.err)

pub returns-in_err-put_all-in-Stop-clause-err : goal.returns-in_err-put_all-in-Stop-clause-err
returns-in_err-put_all-in-Stop-clause-err g c =
    let p = err_from_is_err_and c.from_residual-in_err-put_all-in-Stop.result c.from_residual-in_err-put_all-in-Stop.ensures.1 in
    let step = rw (c.split_at.ensures.back, c.in-Stop.is) at c.in_ok-taken.ensures.ok in
    let front = rw c.deref.ensures.0 at c.in_err-put_all-in-Stop.ensures.err in
    rw p.1 (progress-stop_failed c.held_texts_arrive.ensures _ _ _ _ _ c.items.used c.items.count _ _ (g.K.Sink.held c.items.out) (g.K.Sink.held c.write_item.new.out) _ c.items.pending.items _ _ c.items.invariant.progress step front)

pub returns-in-Stop-clause-ok : goal.returns-in-Stop-clause-ok
returns-in-Stop-clause-ok g c =
    let step = rw (c.split_at.ensures.back, c.in-Stop.is) at c.in_ok-taken.ensures.ok in
    let whole = rw c.deref.ensures.0 at c.in_ok-put_all-in-Stop.ensures.ok in
    progress-stop c.held_texts_arrive.ensures _ _ _ _ _ c.items.used c.items.count _ _ (g.K.Sink.held c.items.out) (g.K.Sink.held c.write_item.new.out) _ c.items.pending.items _ _
    (c.items-test.ensures.ready refl) c.items.invariant.progress step whole

pub returns-in_err-put_all-clause-err : goal.returns-in_err-put_all-clause-err
returns-in_err-put_all-clause-err g c =
    let p = err_from_is_err_and c.from_residual-in_err-put_all.result c.from_residual-in_err-put_all.ensures.1 in
    let front = rw c.deref-2.ensures.0 at c.in_err-put_all.ensures.err in
    rw p.1 (progress-failed c.held_texts_arrive.ensures _ _ _ _ _ c.items.used c.items.count _ _ (g.K.Sink.held c.items.out) _ c.items.pending.items c.items.invariant.progress front)

pub returns-clause-ok : goal.returns-clause-ok
returns-clause-ok g c =
    let whole = rw c.deref-2.ensures.0 at c.in_ok-put_all.ensures.ok in
    progress-end c.held_texts_arrive.ensures _ _ _ _ _ c.items.used c.items.count _ _ (g.K.Sink.held c.items.out) _ c.items.pending.items (c.items-test.ensures.not_ready refl) c.items.invariant.progress whole

pub returns-in_err-taken-clause-last : goal.returns-in_err-taken-clause-last
returns-in_err-taken-clause-last g c =
    let p = err_from_is_err_and c.from_residual.result c.from_residual.ensures.1 in
    rw p.1 (c.puts_join.ensures.join-fault _ _ _ c.items.invariant.puts c.in_err-taken.ensures.last)

pub returns-in_err-put_all-in-Stop-clause-last : goal.returns-in_err-put_all-in-Stop-clause-last
returns-in_err-put_all-in-Stop-clause-last g c =
    let p = err_from_is_err_and c.from_residual-in_err-put_all-in-Stop.result c.from_residual-in_err-put_all-in-Stop.ensures.1 in
    let here = c.puts_join.ensures.join _ _ _ c.items.invariant.puts c.in_ok-taken.ensures.puts in
    rw p.1 (c.puts_join.ensures.join-fault _ _ _ here c.in_err-put_all-in-Stop.ensures.last)

pub returns-in-Stop-clause-puts : goal.returns-in-Stop-clause-puts
returns-in-Stop-clause-puts g c =
    let here = c.puts_join.ensures.join _ _ _ c.items.invariant.puts c.in_ok-taken.ensures.puts in
    c.puts_join.ensures.join _ _ _ here c.in_ok-put_all-in-Stop.ensures.puts

pub returns-in_err-put_all-clause-last : goal.returns-in_err-put_all-clause-last
returns-in_err-put_all-clause-last g c =
    let p = err_from_is_err_and c.from_residual-in_err-put_all.result c.from_residual-in_err-put_all.ensures.1 in
    rw p.1 (c.puts_join.ensures.join-fault _ _ _ c.items.invariant.puts c.in_err-put_all.ensures.last)

pub returns-clause-puts : goal.returns-clause-puts
returns-clause-puts g c = c.puts_join.ensures.join _ _ _ c.items.invariant.puts c.in_ok-put_all.ensures.puts
