use Rattle.rows_x87.proofs.Apart.{rows_apart}
use Rattle.rows_x87.proofs.laws.rows_are_apart.Goals as goal

pub returns : goal.returns
returns c = rows_apart
