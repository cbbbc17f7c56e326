use Rattle.std.proofs.Common.{◌≡◌, ℕ, ◌<◌, true}
use Rattle.assembly_text.specs.Labels.{begins_label}
use Rattle.assembly_text.specs.Text.{IsNotNamed}
use Rattle.assembly_text.proofs.text.named_in.Given as goal

abbrev pub invariant-places : goal.invariant-places
invariant-places l = (j : ℕ) → j < l.at → begins_label l.text j ≡ true → IsNotNamed l.bits l.text j
