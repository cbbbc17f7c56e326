use Rattle.std.proofs.Common.{sym, ◌∙◌}
use Rattle.std.proofs.lemmas.Bool.{lt-ltb}
use Rattle.step_slots.proofs.UnlistedSteps.{held-wide}
use Rattle.step_slots.proofs.unlisted_step.is_held.Goals as goal

pub returns-then-len-gt8 : goal.returns-then-len-gt8
returns-then-len-gt8 c = lt-ltb 8 c.args.len c.if-len-gt8.true ∙ sym (held-wide c.args.len c.args.size c.args.number c.if-len-gt8.true c.requires)
