use Rattle.std.proofs.lemmas.Option.{slice_get-get_or}
use Rattle.instruction_info.specs.Effects.{indexes}
use Rattle.instruction_info.proofs.Effects.{index-within}
use Rattle.instruction_info.proofs.effect.index_at.Goals as goal

pub returns-clause-place : goal.returns-clause-place
unfolding indexes
returns-clause-place c = slice_get-get_or indexes c.args.code.0 _ c.requires

pub returns-clause-within : goal.returns-clause-within
unfolding indexes
returns-clause-within c = index-within c.args.code.0 _ (slice_get-get_or indexes c.args.code.0 _ c.requires)
