use Rattle.std.proofs.Common.{◌-◌, length}
use Rattle.flow_graph.specs.Control.{code_bytes_with}
use Rattle.flow_graph.specs.Walks.{IsTreated, IsWalk}
use Rattle.flow_graph.specs.Told.{AreTold}
use Rattle.flow_graph.proofs.walk.walk_all.Given as goal

abbrev pub invariant-turns : goal.invariant-turns
invariant-turns l =
    let code = code_bytes_with l.follow l.bits l.base l.bytes in
    record {
      walk : IsWalk code l.entries l.walk.marks.items l.walk.order.items (IsTreated code l.walk.order.items l.turn);
      told : AreTold code l.walk.order.items l.turn l.walk.flows.items;
    }

abbrev pub decreases-turns : goal.decreases-turns
decreases-turns l = length l.bytes - l.turn
