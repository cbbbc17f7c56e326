use Rattle.std.proofs.Common.{◌≡◌, ℕ, ◌-◌, ◌<◌, ◌≤◌, true, length, get_or}
use Rattle.assembly_text.specs.Lines.{is_inner}
use Rattle.assembly_text.proofs.plain.inner_len.Given as goal

abbrev pub invariant-colons : goal.invariant-colons
invariant-colons l = record {
  within : l.at ≤ length l.text;
  inner : (k : ℕ) → k < l.at → is_inner (get_or l.text k 0) ≡ true;
}

abbrev pub decreases-colons : goal.decreases-colons
decreases-colons l = length l.text - l.at
