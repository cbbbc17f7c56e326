use Rattle.std.proofs.Common.{Result, Ok, Err}
use Rattle.std.specs.Prelude.{IfOk}
use Rattle.flow_graph.specs.Control.{code_bytes_with}
use Rattle.detour.proofs.entries.graph_following.Goals as goal

-- what follows from what holds of an answer's graph holds of it
through : {X E : Type 0} (r : Result X E) (P Q : X → Type 0) → ((x : X) → P x → Q x) → IfOk r P → IfOk r Q
through (Ok x) P Q f h = f x h
through (Err e) P Q f h = h

pub returns : goal.returns
returns c =
    through c.flow_graph_following.result _ _
    (λ graph from. (c.one_entry_is_the_first_byte.ensures (code_bytes_with c.args.follow c.args.bits c.args.ip c.args.code.now) graph).0 from) c.flow_graph_following.ensures
