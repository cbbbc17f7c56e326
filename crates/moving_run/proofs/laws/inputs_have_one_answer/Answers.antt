use Rattle.moving_run.proofs.Unique as inputs
use Rattle.moving_run.proofs.laws.inputs_have_one_answer.Goals as goal

pub returns : goal.returns
returns c = record { answer_unique = inputs.answer_unique c.sweeps_agree.ensures c.least_is_unique.ensures }
