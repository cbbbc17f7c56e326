use Rattle.rows_integer.proofs.Apart.{rows_apart}
use Rattle.rows_integer.proofs.laws.rows_are_apart.Goals as goal

pub returns : goal.returns
returns c = rows_apart
