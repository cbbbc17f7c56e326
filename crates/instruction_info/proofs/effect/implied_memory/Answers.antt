use Rattle.std.proofs.Common.{ap, ◌∙◌}
use Rattle.instruction_info.specs.Effects.{implied_memory_of, memory_in}
use Rattle.instruction_info.proofs.Effects.{part-of, part-few}
use Rattle.instruction_info.proofs.effect.implied_memory.Goals as goal

pub returns-clause-value : goal.returns-clause-value
unfolding implied_memory_of
returns-clause-value c =
    let e = c.effect_at-effect.result in
    part-of c.memory_list.result.now _ e.first_memory e.memories c.memory_list.ensures.list ∙ ap (λ e. memory_in e) c.effect_at-effect.ensures.effect

pub returns-clause-few : goal.returns-clause-few
returns-clause-few c =
    let e = c.effect_at-effect.result in part-few c.memory_list.result.now e.first_memory e.memories _ c.effect_at-effect.ensures.few_memories
