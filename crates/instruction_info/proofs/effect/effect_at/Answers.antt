use Rattle.instruction_info.proofs.Effects.{effect-known, effect-fits, registers-lie, registers-few, memory-lies, memory-few}
use Rattle.instruction_info.proofs.effect.effect_at.Goals as goal

pub returns-clause-effect : goal.returns-clause-effect
returns-clause-effect c = effect-known c.args.code.0 _ _ c.index_at.ensures.place c.effect_in.ensures

pub returns-clause-registers : goal.returns-clause-registers
returns-clause-registers c = registers-lie _ (effect-fits _ _ c.effect_in.ensures)

pub returns-clause-memory : goal.returns-clause-memory
returns-clause-memory c = memory-lies _ (effect-fits _ _ c.effect_in.ensures)

pub returns-clause-few_registers : goal.returns-clause-few_registers
returns-clause-few_registers c = registers-few _ (effect-fits _ _ c.effect_in.ensures)

pub returns-clause-few_memories : goal.returns-clause-few_memories
returns-clause-few_memories c = memory-few _ (effect-fits _ _ c.effect_in.ensures)
