use Rattle.std.proofs.Common.{rules, ◌≡◌, ◌+◌, ◌-◌, ◌≤◌, min, arith, refl, ◌∙◌}
use Rattle.std.proofs.lemmas.Bool.{eqb-true, eq-eqb, ne_eqb}
use Rattle.sweep.specs.RunParts.Reads.{code_limit}
use Rattle.sweep.specs.Calls.{no_round, then_round}
use Rattle.sweep.proofs.Streaming.{streamed_start, rose_since, written_so_far, called_so_far, window_is, at_write_fault, at_end_of_input, past_limit, at_bad_code, streamed_next}
use Rattle.sweep.proofs.stream.stream_all.Goals as goal

pub pulls-init : goal.pulls-init
pulls-init g c = record {
  streamed = streamed_start c.pieces_join.ensures _ _ _ _ _ _;
  wide = search rules;
  few = omega arith;
  short = omega arith;
  counted = omega arith;
  source_later = omega arith;
  rounds = no_round;
  sink_later = omega arith;
}

pub returns-in-Err-write_ready-clause-answer : goal.returns-in-Err-write_ready-clause-answer
unfolding code_limit
returns-in-Err-write_ready-clause-answer g c =
    let s = c.pulls.invariant.streamed in
    let f = c.in-Ok.ensures.ok in
    let room_is : c.min-room.result ≤ code_limit + 1 - (c.pulls.at + c.pulls.len) = omega (arith, c.min-room.ensures) in
    let end_is : c.min-end.result ≡ min (c.pulls.len + c.in-Ok.n) (code_limit - c.pulls.at) = c.min-end.ensures in
    let front = rw (window_is c.pieces_join.ensures _ _ _ _ _ _ _ _ _ _ _ _ _ _ _ _ s f room_is end_is) at c.in-Err-write_ready.ensures.err in
    (rose_since _ _ _ c.pulls.invariant.sink_later (c.in-Err-write_ready.ensures.cause.failed refl), at_write_fault c.pieces_join.ensures _ _ _ _ _ _ _ _ _ _ _ _ _ _ _ _ s f room_is end_is _ _ front (λ e. eqb-true c.in-Ok.n 0 e))

pub returns-in-Some-clause-answer : goal.returns-in-Some-clause-answer
unfolding code_limit
returns-in-Some-clause-answer g c =
    let s = c.pulls.invariant.streamed in
    let f = c.in-Ok.ensures.ok in
    let room_is : c.min-room.result ≤ code_limit + 1 - (c.pulls.at + c.pulls.len) = omega (arith, c.min-room.ensures) in
    let end_is : c.min-end.result ≡ min (c.pulls.len + c.in-Ok.n) (code_limit - c.pulls.at) = c.min-end.ensures in
    let h = rw (window_is c.pieces_join.ensures _ _ _ _ _ _ _ _ _ _ _ _ _ _ _ _ s f room_is end_is) at c.in-Ok-write_ready.ensures.ok in
    at_bad_code c.pieces_join.ensures _ _ _ _ _ _ _ _ _ _ _ _ _ _ _ _ s f room_is end_is _ _ _ h c.in-Some.error c.in-Some.is (λ e. eqb-true c.in-Ok.n 0 e)

pub returns-then-n-eq0-clause-answer : goal.returns-then-n-eq0-clause-answer
unfolding code_limit
returns-then-n-eq0-clause-answer g c =
    let s = c.pulls.invariant.streamed in
    let f = c.in-Ok.ensures.ok in
    let room_is : c.min-room.result ≤ code_limit + 1 - (c.pulls.at + c.pulls.len) = omega (arith, c.min-room.ensures) in
    let end_is : c.min-end.result ≡ min (c.pulls.len + c.in-Ok.n) (code_limit - c.pulls.at) = c.min-end.ensures in
    let h = rw (window_is c.pieces_join.ensures _ _ _ _ _ _ _ _ _ _ _ _ _ _ _ _ s f room_is end_is) at c.in-Ok-write_ready.ensures.ok in
    at_end_of_input c.pieces_join.ensures _ _ _ _ _ _ _ _ _ _ _ _ _ _ _ _ s f room_is end_is _ _ _ h c.if-n-eq0.true (eq-eqb c.in-Ok.n 0 c.if-n-eq0.true) c.in_default.is

pub returns-then-end-len-clause-answer : goal.returns-then-end-len-clause-answer
unfolding code_limit
returns-then-end-len-clause-answer g c =
    let s = c.pulls.invariant.streamed in
    let f = c.in-Ok.ensures.ok in
    let room_is : c.min-room.result ≤ code_limit + 1 - (c.pulls.at + c.pulls.len) = omega (arith, c.min-room.ensures) in
    let end_is : c.min-end.result ≡ min (c.pulls.len + c.in-Ok.n) (code_limit - c.pulls.at) = c.min-end.ensures in
    let h = rw (window_is c.pieces_join.ensures _ _ _ _ _ _ _ _ _ _ _ _ _ _ _ _ s f room_is end_is) at c.in-Ok-write_ready.ensures.ok in
    (c.from.ensures, past_limit c.pieces_join.ensures _ _ _ _ _ _ _ _ _ _ _ _ _ _ _ _ s f room_is end_is _ _ _ h c.if-end-len.true (ne_eqb c.in-Ok.n 0 c.if-n-eq0.false) c.in_default.is)

pub pulls-preserved : goal.pulls-preserved
unfolding code_limit
pulls-preserved g c =
    let s = c.pulls.invariant.streamed in
    let f = c.in-Ok.ensures.ok in
    let room_is : c.min-room.result ≤ code_limit + 1 - (c.pulls.at + c.pulls.len) = omega (arith, c.min-room.ensures) in
    let end_is : c.min-end.result ≡ min (c.pulls.len + c.in-Ok.n) (code_limit - c.pulls.at) = c.min-end.ensures in
    let h = rw (window_is c.pieces_join.ensures _ _ _ _ _ _ _ _ _ _ _ _ _ _ _ _ s f room_is end_is) at c.in-Ok-write_ready.ensures.ok in
    let next = streamed_next c.pieces_join.ensures _ _ _ _ _ _ _ _ _ _ _ _ _ _ _ _ s f room_is end_is _ _ _ h c.keep.new.window (omega (arith, c.if-end-len.false)) (ne_eqb c.in-Ok.n 0 c.if-n-eq0.false) c.in_default.is c.keep.ensures.kept in
    record {
      streamed = next;
      wide = c.keep.ensures.len ∙ (c.fill.ensures.len ∙ c.pulls.invariant.wide);
      few = omega (arith, next.reaches, next.few);
      short = next.short;
      counted = omega (arith, c.pulls.invariant.counted, c.in-Ok-write_ready.ensures.few);
      rounds = then_round c.pulls.invariant.rounds (omega (arith, c.if-n-eq0.false)) c.in-Ok.ensures.pull c.in-Ok-write_ready.ensures.puts (written_so_far _ _ _ _ _ _ _ _ _ _ _ next);
      source_later = omega (arith, c.pulls.invariant.source_later, c.fill.ensures.cause.later);
      sink_later = omega (arith, c.pulls.invariant.sink_later, c.write_ready.ensures.cause.later);
    }

pub returns-in-Err-clause-calls : goal.returns-in-Err-clause-calls
returns-in-Err-clause-calls g c =
    called_so_far c.pulls.source c.pulls.sink c.pulls.invariant.streamed c.pulls.invariant.rounds ((record {}, c.in-Err.ensures.pull), refl) tt

pub returns-in-Err-write_ready-clause-calls : goal.returns-in-Err-write_ready-clause-calls
returns-in-Err-write_ready-clause-calls g c =
    called_so_far c.pulls.source c.pulls.sink c.pulls.invariant.streamed c.pulls.invariant.rounds ((c.in-Ok.n, c.in-Ok.ensures.pull), c.in-Err-write_ready.ensures.last) tt

pub returns-in-Some-clause-calls : goal.returns-in-Some-clause-calls
returns-in-Some-clause-calls g c =
    called_so_far c.pulls.source c.pulls.sink c.pulls.invariant.streamed c.pulls.invariant.rounds ((c.in-Ok.n, c.in-Ok.ensures.pull), c.in-Ok-write_ready.ensures.puts)
    (omega (arith, c.pulls.invariant.streamed.reaches, c.pulls.invariant.streamed.short))

pub returns-then-n-eq0-clause-calls : goal.returns-then-n-eq0-clause-calls
returns-then-n-eq0-clause-calls g c =
    called_so_far c.pulls.source c.pulls.sink c.pulls.invariant.streamed c.pulls.invariant.rounds ((c.in-Ok.n, c.in-Ok.ensures.pull), c.in-Ok-write_ready.ensures.puts) tt

pub returns-then-end-len-clause-calls : goal.returns-then-end-len-clause-calls
returns-then-end-len-clause-calls g c =
    called_so_far c.pulls.source c.pulls.sink c.pulls.invariant.streamed c.pulls.invariant.rounds ((c.in-Ok.n, c.in-Ok.ensures.pull), c.in-Ok-write_ready.ensures.puts) tt
