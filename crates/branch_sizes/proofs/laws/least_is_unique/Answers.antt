use Rattle.branch_sizes.proofs.Existing.{least_unique}
use Rattle.branch_sizes.proofs.laws.least_is_unique.Goals as goal

pub returns : goal.returns
returns c = least_unique
