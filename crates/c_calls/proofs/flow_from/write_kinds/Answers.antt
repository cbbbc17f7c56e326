use Rattle.std.proofs.Common.{arith}
use Rattle.c_calls.specs.FlowFrom.{flow_kind_number}
use Rattle.c_calls.proofs.PutKinds.{puts_at}
use Rattle.c_calls.proofs.flow_from.write_kinds.Goals as goal

pub kinds-preserved : goal.kinds-preserved
kinds-preserved c =
    puts_at flow_kind_number c.args.flows.now c.args.out.now c.kinds.k _ _ c.kinds.out c.kind_number.ensures c.kinds.invariant (omega arith) c.requires
