use Rattle.std.proofs.Common.{rules, ap, ◌∙◌, length}
use Rattle.branch_sizes.specs.Plan.{BlockPlan}
use Rattle.move_goals.specs.Goals.{goal_at}
use Rattle.block_encoder.specs.Moved.{IsOldSound}
use Rattle.block_encoder.specs.Planned.{as_moving}
use Rattle.block_encoder.proofs.Chosen.{plan-count}
use Rattle.block_encoder.proofs.Aimed.{go_to_goals}
use Rattle.block_encoder.proofs.Answering.{answer_is}
use Rattle.block_encoder.proofs.ordered.move_ordered_blocks.Goals as goal

pub move_with_ready-requires-clause-plan : goal.move_with_ready-requires-clause-plan
move_with_ready-requires-clause-plan c =
    ap (λ (p : BlockPlan). length p.items) c.in_ok-plan.ensures
    ∙ plan-count c.args.bits c.args.spans.now c.args.items.now (goal_at c.args.spans.now c.args.items.now)

pub returns-clause-answer : goal.returns-clause-answer
returns-clause-answer c =
    let sound : IsOldSound c.args.bits c.args.items.now c.args.spans.now =
    record { few = c.requires.few; order = c.requires.order; ends = search rules } in
    answer_is c.args.bits c.args.items.now c.args.spans.now sound c.in_ok-plan.plan c.in_ok-plan.ensures
    (as_moving c.move_with_ready.result) c.move_with_ready.ensures

pub returns-clause-goals : goal.returns-clause-goals
returns-clause-goals c =
    go_to_goals c.laws_below.ensures c.args.bits c.args.items.now c.args.spans.now c.requires.spans c.requires.placed
    (as_moving c.move_with_ready.result)
