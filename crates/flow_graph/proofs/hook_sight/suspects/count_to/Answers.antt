use Rattle.flow_graph.proofs.HookSight.Ending.{is_true, not_true}
use Rattle.flow_graph.proofs.HookSight.Places.{cursor_at, cursor_past}
use Rattle.flow_graph.proofs.hook_sight.suspects.count_to.Goals as goal

pub returns-then-is_at : goal.returns-then-is_at
returns-then-is_at c =
    cursor_at c.args.starts.now c.requires.ascending c.args.next c.args.p c.requires.cursor (c.is_at.ensures.0 (is_true c.if-is_at.true))

pub returns-else-is_at : goal.returns-else-is_at
returns-else-is_at c =
    cursor_past c.args.starts.now c.requires.ascending c.args.next c.args.p c.requires.cursor
    (λ at. not_true c.if-is_at.false (c.is_at.ensures.1 at))
