use Rattle.block_encoder.proofs.PushedCalls.Encoded.{push_facts}
use Rattle.block_encoder.proofs.pushed_calls.laws.return_addresses_are_pushed.Goals as goal

pub returns : goal.returns
returns c = push_facts c.laws_below.ensures
