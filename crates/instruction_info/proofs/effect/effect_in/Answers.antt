use Rattle.std.proofs.lemmas.Option.{slice_get-get_or}
use Rattle.instruction_info.specs.Effects.{effects}
use Rattle.instruction_info.proofs.effect.effect_in.Goals as goal

pub returns : goal.returns
unfolding effects
returns c = slice_get-get_or effects c.args.index _ c.requires
