use Rattle.x86_values.proofs.Wrapped.{twice}
use Rattle.x86_values.proofs.laws.wrapped_twice.Goals as goal

pub returns : goal.returns
returns c = twice
