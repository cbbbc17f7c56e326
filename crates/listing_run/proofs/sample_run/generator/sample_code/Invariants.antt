use Rattle.listing_run.proofs.SampleRun.Drawing.{Drawn}
use Rattle.listing_run.proofs.sample_run.generator.sample_code.Given as goal

abbrev pub invariant-loop : goal.invariant-loop
invariant-loop l = Drawn l.initial.count l.state l.counter l.code.items
