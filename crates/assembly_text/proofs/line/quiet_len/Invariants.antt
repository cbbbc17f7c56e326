use Rattle.std.proofs.Common.{◌≡◌, ◌+◌, drop}
use Rattle.std.specs.List.{prefix_len}
use Rattle.assembly_text.specs.Lines.{is_quiet}
use Rattle.assembly_text.proofs.line.quiet_len.Given as goal

abbrev pub invariant-loop-i : goal.invariant-loop-i
invariant-loop-i l = prefix_len is_quiet l.line ≡ l.i + prefix_len is_quiet (drop l.i l.line)
