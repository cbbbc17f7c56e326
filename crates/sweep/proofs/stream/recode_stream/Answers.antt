use Rattle.sweep.proofs.stream.recode_stream.Goals as goal

pub returns-clause-complete : goal.returns-clause-complete
returns-clause-complete g c = rw c.mode_of.ensures at c.stream_lines.ensures.complete
