use Rattle.move_goals.proofs.branch_forms.laws_below.laws_below.Goals as goal

pub returns : goal.returns
returns c = record {
  rows = c.rows_are_of_the_parts.ensures;
  spelled = c.spelled_meets_conditions.ensures;
  targets = c.spellings_are_moved.ensures;
}
