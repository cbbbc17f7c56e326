use Rattle.flow_graph.specs.Control.{code_bytes}
use Rattle.flow_graph.specs.HookSight.Entries.{part_of}
use Rattle.flow_graph.proofs.HookSight.Ending.{is_true, not_true}
use Rattle.flow_graph.proofs.HookSight.Places.{not_in_list}
use Rattle.flow_graph.proofs.HookSight.Suspecting.{none_within, none_at, least_suspect}
use Rattle.flow_graph.proofs.hook_sight.suspects.suspect_from.Goals as goal

pub returns-then-p-taken : goal.returns-then-p-taken
returns-then-p-taken c =
    none_within (code_bytes c.args.bits c.args.ip c.args.code.now) (part_of c.args.taken c.args.moved.now c.args.start) c.args.starts.now c.args.p
    c.if-p-taken.true

pub returns-then-is_at : goal.returns-then-is_at
returns-then-is_at c =
    none_at (code_bytes c.args.bits c.args.ip c.args.code.now) (part_of c.args.taken c.args.moved.now c.args.start) c.args.starts.now c.args.p
    c.args.next (c.is_at.ensures.0 (is_true c.if-is_at.true))

pub returns : goal.returns
returns c =
    least_suspect (code_bytes c.args.bits c.args.ip c.args.code.now) (part_of c.args.taken c.args.moved.now c.args.start) c.args.starts.now c.args.p
    c.requires.inside c.if-p-taken.false
    (not_in_list c.args.starts.now c.requires.ascending c.args.next c.args.p c.requires.cursor (λ at. not_true c.if-is_at.false (c.is_at.ensures.1 at)))
    c.passage_from.result c.passage_from.ensures
