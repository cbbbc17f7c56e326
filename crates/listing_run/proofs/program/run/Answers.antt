use Rattle.listing_run.proofs.program.run.Goals as goal

pub returns-clause-complete : goal.returns-clause-complete
returns-clause-complete g c = rw c.command_of.ensures at c.answer-status.ensures.complete
