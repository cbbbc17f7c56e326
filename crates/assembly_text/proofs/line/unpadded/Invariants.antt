use Rattle.std.proofs.Common.{◌≡◌, ◌+◌, ◌≤◌, length, take}
use Rattle.std.specs.List.{suffix_len}
use Rattle.assembly_text.specs.Lines.{is_blank}
use Rattle.assembly_text.proofs.line.unpadded.Given as goal

abbrev pub invariant-blanks : goal.invariant-blanks
invariant-blanks l = record {
  within : l.len ≤ length l.text;
  rest : l.len + suffix_len is_blank l.text ≡ length l.text + suffix_len is_blank (take l.len l.text);
}

abbrev pub decreases-blanks : goal.decreases-blanks
decreases-blanks l = l.len
