use Rattle.std.proofs.Common.{◌≡◌, ℕ, ◌-◌, ◌<◌, ◌≤◌, true, length, get_or}
use Rattle.assembly_text.specs.Lines.{is_plain}
use Rattle.assembly_text.proofs.plain.plain_len.Given as goal

abbrev pub invariant-runs : goal.invariant-runs
invariant-runs l = record {
  within : l.at ≤ length l.text;
  plain : (k : ℕ) → k < l.at → is_plain (get_or l.text k 0) ≡ true;
}

abbrev pub decreases-runs : goal.decreases-runs
decreases-runs l = length l.text - l.at

abbrev pub invariant-bytes : goal.invariant-bytes
invariant-bytes l = record {
  within : l.at ≤ length l.text;
  plain : (k : ℕ) → k < l.at → is_plain (get_or l.text k 0) ≡ true;
}

abbrev pub decreases-bytes : goal.decreases-bytes
decreases-bytes l = length l.text - l.at
