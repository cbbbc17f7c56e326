use Rattle.c_calls.proofs.StepCallAnswers.{call-short}
use Rattle.c_calls.proofs.step_calls.step_call.Goals as goal

pub report_of-requires : goal.report_of-requires
report_of-requires c = call-short _ _ _ _ c.call_code-answer.result c.call_code-answer.ensures

pub put_call-requires : goal.put_call-requires
put_call-requires c = call-short _ _ _ _ c.call_code-answer.result c.call_code-answer.ensures
