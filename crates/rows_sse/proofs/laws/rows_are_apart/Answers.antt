use Rattle.rows_sse.proofs.Apart.{rows_apart}
use Rattle.rows_sse.proofs.laws.rows_are_apart.Goals as goal

pub returns : goal.returns
returns c = rows_apart
