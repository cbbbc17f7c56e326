use Rattle.std.proofs.lemmas.Option.{slice_get-get_or}
use Rattle.intel_reader.specs.Buckets.{starts}
use Rattle.intel_reader.proofs.Complete.{start_within}
use Rattle.intel_reader.proofs.buckets.start_at.Goals as goal

pub returns-clause-start : goal.returns-clause-start
unfolding starts
returns-clause-start c = slice_get-get_or starts c.args.bucket _ c.requires

pub returns-clause-within : goal.returns-clause-within
unfolding starts
returns-clause-within c = start_within c.args.bucket _ (slice_get-get_or starts c.args.bucket _ c.requires)
