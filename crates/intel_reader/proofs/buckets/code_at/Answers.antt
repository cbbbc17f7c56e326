use Rattle.std.proofs.lemmas.Option.{slice_get-get_or}
use Rattle.intel_reader.specs.Buckets.{order}
use Rattle.intel_reader.proofs.Complete.{ordered_below}
use Rattle.intel_reader.proofs.buckets.code_at.Goals as goal

pub returns-clause-at : goal.returns-clause-at
unfolding order
returns-clause-at c = slice_get-get_or order c.args.index _ c.requires

pub returns-clause-below : goal.returns-clause-below
unfolding order
returns-clause-below c = ordered_below c.args.index _ (slice_get-get_or order c.args.index _ c.requires)
