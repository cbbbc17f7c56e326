use Rattle.std.proofs.Common.{ap, sym, ◌∙◌, length}
use Rattle.row_fit.specs.Fits.{immediates_bytes}
use Rattle.instruction_parts.specs.Sizes.{state_size}
use Rattle.row_fit.proofs.FitLaws.{all_conditions, modrm_range, sib_range, immediates_length}
use Rattle.row_meaning.proofs.operands.row_meaning.Goals as goal

pub instr_into-requires-clause-modrm : goal.instr_into-requires-clause-modrm
instr_into-requires-clause-modrm c =
    modrm_range c.args.s.now (all_conditions c.args.bits c.args.row.now c.args.s.now c.requires.fitting).ranges

pub instr_into-requires-clause-sib : goal.instr_into-requires-clause-sib
instr_into-requires-clause-sib c =
    sib_range c.args.s.now (all_conditions c.args.bits c.args.row.now c.args.s.now c.requires.fitting).ranges

pub instr_into-requires-clause-whole : goal.instr_into-requires-clause-whole
instr_into-requires-clause-whole c =
    ap length c.as_slice-2.ensures.value
    ∙ immediates_length c.args.bits c.args.row.now c.args.s.now (all_conditions c.args.bits c.args.row.now c.args.s.now c.requires.fitting).lengths
    ∙ ap (λ state. immediates_bytes (state_size c.args.bits c.args.row.now state) c.args.row.now) (sym c.state_of-state.ensures)
