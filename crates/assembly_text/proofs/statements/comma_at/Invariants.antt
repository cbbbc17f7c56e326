use Rattle.std.proofs.Common.{◌≡◌, ◌+◌, drop}
use Rattle.std.specs.List.{prefix_len}
use Rattle.assembly_text.specs.Statements.{is_no_comma}
use Rattle.assembly_text.proofs.statements.comma_at.Given as goal

abbrev pub invariant-loop-i : goal.invariant-loop-i
invariant-loop-i l = prefix_len is_no_comma l.text ≡ l.i + prefix_len is_no_comma (drop l.i l.text)
