use Rattle.std.proofs.Common.{ℕ, List, ◌∙◌, subst}
use Rattle.std.specs.Prelude.{IfOk}
use Rattle.flow_graph.specs.Control.{code_bytes}
use Rattle.flow_graph.specs.Graphs.{IsFlowGraphFrom}
use Rattle.flow_graph.proofs.hook_sight.looking.graph_of.Goals as goal

pub returns : goal.returns
returns c =
    let code = code_bytes c.args.bits c.args.ip c.args.code.now in
    subst (λ (firsts : List ℕ). IfOk c.flow_graph_from.result (λ graph. IsFlowGraphFrom code firsts graph))
    (c.deref.ensures.value ∙ c.in_ok-firsts.ensures) c.flow_graph_from.ensures
