use Rattle.std.proofs.Common.{◌≡◌, map, take}
use Rattle.assembly_text.specs.Lines.{lower_byte}
use Rattle.assembly_text.proofs.line.short_lowered.Given as goal

abbrev pub invariant-bytes : goal.invariant-bytes
invariant-bytes l = l.low.items ≡ map lower_byte (take l.k l.text)
