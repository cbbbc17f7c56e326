use Rattle.std.proofs.Common.{◌≡◌, ◌+◌, drop}
use Rattle.assembly_text.specs.Lines.{code_len}
use Rattle.assembly_text.proofs.line.quoted_len.Given as goal

abbrev pub invariant-bytes : goal.invariant-bytes
invariant-bytes l = code_len 0 l.line ≡ l.k + code_len l.quote (drop l.k l.line)
