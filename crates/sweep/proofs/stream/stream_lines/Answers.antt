use Rattle.sweep.specs.Ends.{of_streamed}
use Rattle.sweep.proofs.Completing.{completes}
use Rattle.sweep.proofs.stream.stream_lines.Goals as goal

pub returns-clause-answer : goal.returns-clause-answer
returns-clause-answer g c = rw c.stream_answer.ensures c.stream_all.ensures.answer

pub returns-clause-complete : goal.returns-clause-complete
returns-clause-complete g c = rw c.stream_answer.ensures (λ s o.
    completes c.sweeps_agree.ensures c.told_bytes_are_read.ensures c.args.bits c.args.base c.args.lines (g.S.Source.left c.args.source.now) (g.S.Source.left c.stream_all.new.source) (g.K.Sink.held c.args.sink.now)
    (g.K.Sink.held c.stream_all.new.sink) _ _ (of_streamed c.stream_all.result) c.stream_all.ensures.answer s o)

pub returns-clause-calls : goal.returns-clause-calls
returns-clause-calls g c = rw c.stream_answer.ensures c.stream_all.ensures.calls
