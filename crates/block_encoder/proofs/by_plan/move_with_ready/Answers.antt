use Rattle.std.proofs.Common.{sym, ap, ◌∙◌}
use Rattle.block_encoder.specs.Written.{first_end_past}
use Rattle.block_encoder.proofs.Answering.{new_pass}
use Rattle.block_encoder.proofs.by_plan.move_with_ready.Goals as goal

pub returns-in-Some : goal.returns-in-Some
returns-in-Some c =
    new_pass c.laws_below.ensures c.args.bits c.args.plan.now c.in_ok-laid.laid c.in_ok-laid.ensures c.in-Some.end
    (sym (c.in-Some.ensures ∙ ap (λ xs. first_end_past c.args.bits xs) c.deref.ensures.value))
