use Rattle.move_goals.proofs.BranchForms.Named.{short-jump-named, short-condition-named, short-count-named, near-jump-named, near-call-named, near-condition-named, far-jump-named, far-call-named}
use Rattle.move_goals.proofs.branch_forms.laws.codes_name_their_rows.Goals as goal

pub returns-clause-short_jump : goal.returns-clause-short_jump
returns-clause-short_jump c = short-jump-named

pub returns-clause-short_condition : goal.returns-clause-short_condition
returns-clause-short_condition c = short-condition-named

pub returns-clause-short_count : goal.returns-clause-short_count
returns-clause-short_count c = short-count-named

pub returns-clause-near_jump : goal.returns-clause-near_jump
returns-clause-near_jump c = near-jump-named

pub returns-clause-near_call : goal.returns-clause-near_call
returns-clause-near_call c = near-call-named

pub returns-clause-near_condition : goal.returns-clause-near_condition
returns-clause-near_condition c = near-condition-named

pub returns-clause-far_jump : goal.returns-clause-far_jump
returns-clause-far_jump c = far-jump-named

pub returns-clause-far_call : goal.returns-clause-far_call
returns-clause-far_call c = far-call-named
