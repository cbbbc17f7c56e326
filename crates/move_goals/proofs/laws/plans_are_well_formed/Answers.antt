use Rattle.move_goals.proofs.Planned as planned
use Rattle.move_goals.proofs.laws.plans_are_well_formed.Goals as goal

pub returns : goal.returns
returns c = record {
  well_formed = planned.well_formed c.forms_are_fit.ensures;
  one_span-of = planned.one_span-of;
  outside-fit = planned.outside-fit c.forms_are_fit.ensures;
  well_formed_with = planned.well_formed_with c.forms_are_fit.ensures;
  kept-fit = planned.kept_fits;
  one_more = planned.one_more;
}
