use Rattle.std.proofs.Common.{sym, subst}
use Rattle.flow_graph.specs.Control.{code_bytes_with}
use Rattle.flow_graph.specs.Marks.{AreMarks}
use Rattle.flow_graph.proofs.Listing.{chained, graph_right}
use Rattle.flow_graph.proofs.graph.flow_graph_following.Goals as goal

pub blocks_of-requires-clause-chained : goal.blocks_of-requires-clause-chained
blocks_of-requires-clause-chained c =
    let code = code_bytes_with c.args.follow c.args.bits c.args.base c.args.bytes.now in
    chained code c.args.entries.now c.deref.result.now (subst (AreMarks code c.args.entries.now) (sym c.deref.ensures.value) c.in_ok-walk.ensures.marks)

pub returns : goal.returns
returns c =
    let code = code_bytes_with c.args.follow c.args.bits c.args.base c.args.bytes.now in
    let blocks = c.in_ok-blocks.blocks in
    graph_right code c.args.entries.now c.deref.result.now (subst (AreMarks code c.args.entries.now) (sym c.deref.ensures.value) c.in_ok-walk.ensures.marks) blocks.starts.items blocks.leaders.items
    c.deref-2.result.now blocks.flows.items c.in_ok-blocks.ensures.listed
    (rw (c.deref.ensures.value, c.deref-2.ensures.value) c.in_ok-walk.ensures.told) c.in_ok-blocks.ensures.flows
