use Rattle.std.proofs.Common.{◌≡◌, ◌+◌, drop}
use Rattle.std.specs.List.{prefix_len}
use Rattle.intel_words.specs.Scanning.{is_no_comma}
use Rattle.intel_words.proofs.scanning.token_len.Given as goal

abbrev pub invariant-loop-i : goal.invariant-loop-i
invariant-loop-i l = prefix_len is_no_comma l.text ≡ l.i + prefix_len is_no_comma (drop l.i l.text)
