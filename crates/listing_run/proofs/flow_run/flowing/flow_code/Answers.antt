use Rattle.std.proofs.Common.{refl}
use Rattle.sweep.specs.RunParts.Reads.{whole_limit}
use Rattle.listing_run.proofs.FlowRun.Ends.{unread, completes}
use Rattle.listing_run.proofs.flow_run.flowing.flow_code.Goals as goal

pub returns-in-Err-clause-answer : goal.returns-in-Err-clause-answer
unfolding whole_limit
returns-in-Err-clause-answer g c =
    unread c.args.bits c.args.base _ _ (g.K.Sink.held c.args.out.now) _ _ _ c.in-Err.unread refl c.in-Err.ensures.unread

pub returns-in-Err-clause-complete : goal.returns-in-Err-clause-complete
unfolding whole_limit
returns-in-Err-clause-complete g c = λ source_rose out_rose. completes c.told_bytes_are_read.ensures _ _ _ c.in-Err.unread c.in-Err.ensures.unread source_rose
