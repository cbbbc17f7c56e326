use Rattle.std.proofs.Common.{ap, sym, ◌∙◌}
use Rattle.instruction_parts.specs.Front.{long_front}
use Rattle.row_fit.proofs.FrontLaws.{front_law}
use Rattle.row_fit.proofs.FrontConverse.{same_state}
use Rattle.row_fit.proofs.laws.bytes_fix_state.Goals as goal

pub returns : goal.returns
returns c = λ bits row other_row s other rest other_rest h h' e.
    same_state _ _ (sym (front_law bits row s rest h) ∙ ap (long_front bits) e ∙ front_law bits other_row other other_rest h')
