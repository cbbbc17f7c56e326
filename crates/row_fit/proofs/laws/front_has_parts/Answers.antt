use Rattle.row_fit.proofs.FrontConverse.{front_converse}
use Rattle.row_fit.proofs.laws.front_has_parts.Goals as goal

pub returns : goal.returns
returns c = front_converse
