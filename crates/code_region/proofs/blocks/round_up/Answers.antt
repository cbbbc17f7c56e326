use Rattle.std.proofs.Common.{arith}
use Rattle.std.proofs.lemmas.Bool.Decides.{nat_tests}
use Rattle.code_region.specs.State.{len_in_units}
use Rattle.code_region.proofs.blocks.round_up.Goals as goal

pub returns-then-len-gt-LAST_UNIT : goal.returns-then-len-gt-LAST_UNIT
unfolding len_in_units
returns-then-len-gt-LAST_UNIT c = grind (arith, nat_tests)

pub returns-else-len-gt-LAST_UNIT : goal.returns-else-len-gt-LAST_UNIT
unfolding len_in_units
returns-else-len-gt-LAST_UNIT c = grind (arith, nat_tests)
