use Rattle.byte_ports.proofs.FailAtLemmas.{listed_call_counts, inner_call_counts}
use Rattle.byte_ports.proofs.fail_at.FailAtSink.put.Goals as goal

pub returns-then-is_next_listed-clause-cause : goal.returns-then-is_next_listed-clause-cause
returns-then-is_next_listed-clause-cause g c = listed_call_counts _ _ _ _ _ c.is_next_listed.ensures.counted cc

pub returns-clause-cause : goal.returns-clause-cause
returns-clause-cause g c = inner_call_counts _ _ _ _ _ _ c.is_next_listed.ensures.counted c.is_next_listed.ensures.later c.put.ensures.cause
