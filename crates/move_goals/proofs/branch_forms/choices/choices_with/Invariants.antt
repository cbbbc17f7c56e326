use Rattle.std.proofs.Common.{◌≡◌, map, take}
use Rattle.move_goals.specs.BranchForms.Choices as spec
use Rattle.move_goals.proofs.branch_forms.choices.choices_with.Given as goal

abbrev pub invariant-loop-form : goal.invariant-loop-form
invariant-loop-form l = l.choices.items ≡ map (spec.branch_choice l.bits l.instr l.branch) (take l.form-index l.forms)
