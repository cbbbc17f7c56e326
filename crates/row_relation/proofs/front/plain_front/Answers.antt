use Rattle.std.proofs.Common.{◌≡◌, ◌∙◌, length, sym, subst, rules, true}
use Rattle.instruction_parts.specs.declared.spelling.PrefixState.{PrefixState}
use Rattle.row_fit.specs.Fits.{vex_in_range}
use Rattle.row_fit.proofs.SoundLaws.{sound_conditions}
use Rattle.plain_spelling.proofs.FrontRange.{byte_front-plain, plain_front-range}
use Rattle.row_relation.proofs.front.plain_front.Goals as goal

pub returns-clause-value : goal.returns-clause-value
returns-clause-value c =
    let four : length c.args.instr.now.ops ≡ 4 = search rules in
    c.plain_front.ensures.value
    ∙ byte_front-plain c.args.bits c.args.row.now c.args.instr.now (sound_conditions c.args.row.now c.requires.sound) four c.requires.registers

pub returns-clause-vex : goal.returns-clause-vex
returns-clause-vex c =
    let four : length c.args.instr.now.ops ≡ 4 = search rules in
    subst (λ (f : PrefixState). vex_in_range f.vex ≡ true) (sym (returns-clause-value c))
    (plain_front-range c.args.bits c.args.row.now c.args.instr.now (sound_conditions c.args.row.now c.requires.sound) four c.requires.registers)
