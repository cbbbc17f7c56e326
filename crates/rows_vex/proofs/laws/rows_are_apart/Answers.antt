use Rattle.rows_vex.proofs.Apart.{rows_apart}
use Rattle.rows_vex.proofs.laws.rows_are_apart.Goals as goal

pub returns : goal.returns
returns c = rows_apart
