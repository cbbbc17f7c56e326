use Rattle.std.proofs.Common.{◌≡◌}
use Rattle.x86_values.specs.declared.Bits.TheVariants.{B64}
use Rattle.moving_tests.proofs.tests.slot_model_tests.slots_follow_a_plain_list.Given as goal

abbrev pub invariant-commands : goal.invariant-commands
invariant-commands g l = l.slots.bits ≡ B64
