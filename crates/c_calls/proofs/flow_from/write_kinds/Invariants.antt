use Rattle.std.proofs.Common.{◌≡◌, ◌++◌, map, take, drop}
use Rattle.c_calls.specs.FlowFrom.{flow_kind_number}
use Rattle.c_calls.proofs.flow_from.write_kinds.Given as goal

abbrev pub invariant-kinds : goal.invariant-kinds
invariant-kinds l = l.out ≡ map flow_kind_number (take l.k l.flows) ++ drop l.k l.initial.out
