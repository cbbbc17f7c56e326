use Rattle.std.proofs.Common.{ap}
use Rattle.instruction_info.specs.Effects.{features_of}
use Rattle.instruction_info.proofs.features.features_of.Goals as goal

pub returns : goal.returns
unfolding features_of
returns c = ap (λ e. e.features) c.effect_at.ensures.effect
