use Rattle.std.proofs.Common.{refl}
use Rattle.c_calls.proofs.stepping.step_in.Goals as goal

pub returns-in-Ok-step_at : goal.returns-in-Ok-step_at
returns-in-Ok-step_at c = record {
  item = c.in-Ok.item;
  reads = c.in-Ok.ensures.answer;
  stood = c.in-Ok-step_at.ensures.answer;
  len = refl;
  done = c.done_len-done.ensures.done c.args.place c.in-Ok-step_at.ensures.answer;
  fits = c.in-Ok-step_at.ensures.fits;
  short = record { short = c.in-Ok-step_at.ensures.short; parts = c.in-Ok-step_at.ensures.starts };
}

pub returns-in-Err-step_at : goal.returns-in-Err-step_at
returns-in-Err-step_at c = (c.in-Ok.item, (c.in-Ok.ensures.answer, c.in-Err-step_at.ensures.answer))
