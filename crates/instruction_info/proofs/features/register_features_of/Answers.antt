use Rattle.std.proofs.Common.{ap}
use Rattle.instruction_info.specs.Effects.{register_features_of}
use Rattle.instruction_info.proofs.features.register_features_of.Goals as goal

pub returns : goal.returns
unfolding register_features_of
returns c = ap (λ e. e.register_features) c.effect_at.ensures.effect
