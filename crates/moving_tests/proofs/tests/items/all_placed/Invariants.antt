use Rattle.std.proofs.Common.{◌<◌, ℕ, length}
use Rattle.x86_values.specs.declared.Bits.TheVariants.{B64}
use Rattle.move_goals.specs.Items.{IsPlaced, item_at}
use Rattle.moving_tests.proofs.tests.items.all_placed.Given as goal

abbrev pub invariant-items : goal.invariant-items
invariant-items l = (k : ℕ) → k < length l.items.items → IsPlaced B64 (item_at l.items.items k)
