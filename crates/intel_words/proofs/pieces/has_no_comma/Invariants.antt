use Rattle.std.proofs.Common.{◌≡◌, drop}
use Rattle.std.specs.List.{list_all}
use Rattle.intel_words.specs.Scanning.{is_no_comma}
use Rattle.intel_words.proofs.pieces.has_no_comma.Given as goal

abbrev pub invariant-loop-c : goal.invariant-loop-c
invariant-loop-c l = list_all is_no_comma l.piece ≡ list_all is_no_comma (drop l.c-index l.piece)
