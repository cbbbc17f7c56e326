use Rattle.std.proofs.Common.{refl}
use Rattle.instruction_info.specs.Effects.{register_list}
use Rattle.instruction_info.proofs.effect.register_list.Goals as goal

pub returns-clause-list : goal.returns-clause-list
unfolding register_list
returns-clause-list c = refl
