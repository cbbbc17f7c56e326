use Rattle.std.proofs.Common.{ℕ, Option, sym, subst}
use Rattle.flow_graph.specs.Control.{code_bytes}
use Rattle.flow_graph.specs.HookSight.Entries.{part_of, IsEntryOf, IsLeast, IsPassage}
use Rattle.flow_graph.proofs.HookSight.Entering.{least_passage}
use Rattle.flow_graph.proofs.hook_sight.passages.passage_from.Goals as goal

pub returns : goal.returns
returns c =
    let code = code_bytes c.args.bits c.args.ip c.args.code.now in
    let part = part_of c.args.taken c.args.moved.now c.args.start in
    subst (IsLeast (IsPassage code part c.args.p)) (sym c.lesser.ensures)
    (least_passage code part c.args.p c.exits_at-exits.result c.exits_at-exits.ensures.exits c.entry_of-end.result c.entry_of-target.result
    (subst (λ (to : Option ℕ). IsEntryOf code part c.args.p to c.entry_of-end.result) c.end_exit.ensures c.entry_of-end.ensures)
    c.entry_of-target.ensures)
