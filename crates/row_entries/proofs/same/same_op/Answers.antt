use Rattle.std.proofs.Common.{rules, sym, ◌∙◌}
use denote.Enum.Bare.{same_true, true_same}
use Rattle.instruction_parts.specs.contracts.row_types.OpKind.{the_type}
use Rattle.row_entries.proofs.same.same_op.Goals as goal

pub returns : goal.returns
returns c = (λ e. same_true the_type (search rules) _ _ (sym c.eq.ensures ∙ e), λ e. c.eq.ensures ∙ true_same the_type _ _ e)
