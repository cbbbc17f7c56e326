use Rattle.std.proofs.Common.{◌≡◌, ◌≤◌}
use Rattle.opcode_rows.specs.ByName.{rows_named_before}
use Rattle.opcode_rows.proofs.by_name.code_of.Given as goal

abbrev pub invariant-loop-code : goal.invariant-loop-code
invariant-loop-code l = (l.passed ≡ rows_named_before l.name l.code) × (l.passed ≤ l.n)
