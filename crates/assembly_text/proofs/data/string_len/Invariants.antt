use Rattle.std.proofs.Common.{◌≡◌, ◌+◌, drop}
use Rattle.std.specs.List.{prefix_len}
use Rattle.assembly_text.specs.Data.{is_other}
use Rattle.assembly_text.proofs.data.string_len.Given as goal

abbrev pub invariant-loop-i : goal.invariant-loop-i
invariant-loop-i l = prefix_len (is_other l.quote) l.text ≡ l.i + prefix_len (is_other l.quote) (drop l.i l.text)
