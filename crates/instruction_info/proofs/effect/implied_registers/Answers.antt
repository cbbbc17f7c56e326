use Rattle.std.proofs.Common.{ap, ◌∙◌}
use Rattle.instruction_info.specs.Effects.{registers_of, registers_in}
use Rattle.instruction_info.proofs.Effects.{part-of, part-few}
use Rattle.instruction_info.proofs.effect.implied_registers.Goals as goal

pub returns-clause-value : goal.returns-clause-value
unfolding registers_of
returns-clause-value c =
    let e = c.effect_at-effect.result in
    part-of c.register_list.result.now _ e.first_register e.registers c.register_list.ensures.list ∙ ap (λ e. registers_in e) c.effect_at-effect.ensures.effect

pub returns-clause-few : goal.returns-clause-few
returns-clause-few c =
    let e = c.effect_at-effect.result in part-few c.register_list.result.now e.first_register e.registers _ c.effect_at-effect.ensures.few_registers
