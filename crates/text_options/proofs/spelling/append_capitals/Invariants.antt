use Rattle.std.proofs.Common.{◌≡◌, ◌++◌, take}
use Rattle.text_options.specs.Spelling.{capitals}
use Rattle.text_options.proofs.spelling.append_capitals.Given as goal

abbrev pub invariant-loop-c : goal.invariant-loop-c
invariant-loop-c l = l.out.items ≡ l.initial.out.items ++ capitals l.last (take l.c-index l.characters)
