use Rattle.std.proofs.Common.{refl}
use Rattle.instruction_info.specs.Effects.{memory_list}
use Rattle.instruction_info.proofs.effect.memory_list.Goals as goal

pub returns-clause-list : goal.returns-clause-list
unfolding memory_list
returns-clause-list c = refl
