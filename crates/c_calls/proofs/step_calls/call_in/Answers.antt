use Rattle.std.proofs.Common.{refl}
use Rattle.c_calls.proofs.step_calls.call_in.Goals as goal

pub returns-in-Ok-step_call_at : goal.returns-in-Ok-step_call_at
returns-in-Ok-step_call_at c = record {
  item = c.in-Ok.item;
  reads = c.in-Ok.ensures.answer;
  stood = c.in-Ok-step_call_at.ensures.answer;
  len = refl;
  done = c.pushed_len.ensures;
  begins = c.in-Ok-step_call_at.ensures.begins;
  short = c.in-Ok-step_call_at.ensures.short;
}

pub returns-in-Err-step_call_at : goal.returns-in-Err-step_call_at
returns-in-Err-step_call_at c = (c.in-Ok.item, (c.in-Ok.ensures.answer, c.in-Err-step_call_at.ensures.answer))
