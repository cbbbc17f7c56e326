use Rattle.std.specs.Prelude.{Ok}
use Rattle.c_calls.proofs.StepAnswers.{step-short}
use Rattle.c_calls.proofs.laws.steps_are_short.Goals as goal

pub returns : goal.returns
returns c = λ bits ip bytes place code is. (step-short bits ip bytes place (Ok code) is).short
