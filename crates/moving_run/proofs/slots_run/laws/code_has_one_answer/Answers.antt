use Rattle.moving_run.proofs.SlotsRun.Unique as code
use Rattle.moving_run.proofs.slots_run.laws.code_has_one_answer.Goals as goal

pub returns : goal.returns
returns c = record {
  answer_unique = code.answer_unique c.least_is_unique.ensures c.places_are_gaps.ensures c.sweeps_agree.ensures c.inputs_are_read_in_one_way.ensures;
}
