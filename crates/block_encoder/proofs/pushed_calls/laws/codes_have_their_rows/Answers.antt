use Rattle.block_encoder.proofs.PushedCalls.Rows.{code_facts}
use Rattle.block_encoder.proofs.pushed_calls.laws.codes_have_their_rows.Goals as goal

pub returns : goal.returns
returns c = code_facts
