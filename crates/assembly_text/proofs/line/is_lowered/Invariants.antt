use Rattle.std.proofs.Common.{◌≡◌, map, take}
use Rattle.assembly_text.specs.Lines.{lower_byte}
use Rattle.assembly_text.proofs.line.is_lowered.Given as goal

abbrev pub invariant-loop-i : goal.invariant-loop-i
invariant-loop-i l = map lower_byte (take l.i l.text) ≡ take l.i l.text
