use Rattle.block_encoder.proofs.PushedCalls.Jumped.{jumped_facts}
use Rattle.block_encoder.proofs.pushed_calls.laws.jumps_go_where_calls_go.Goals as goal

pub returns : goal.returns
returns c = jumped_facts
