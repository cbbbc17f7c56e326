use Rattle.move_goals.specs.Starts.{AreStartsBelow}
use Rattle.move_goals.proofs.starts.starts_of.Given as goal

abbrev pub invariant-items : goal.invariant-items
invariant-items l = AreStartsBelow l.items l.k l.starts
