use Rattle.c_calls.proofs.StepAnswers.{step-short}
use Rattle.c_calls.proofs.stepping.step.Goals as goal

pub report_of-requires : goal.report_of-requires
report_of-requires c = step-short _ _ _ _ c.step_code-answer.result c.step_code-answer.ensures

pub put_step-requires : goal.put_step-requires
put_step-requires c = step-short _ _ _ _ c.step_code-answer.result c.step_code-answer.ensures
