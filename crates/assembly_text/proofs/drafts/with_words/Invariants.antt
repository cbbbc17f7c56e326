use Rattle.std.proofs.Common.{◌≡◌, ◌≤◌, ◌+◌, length}
use Rattle.assembly_text.specs.Drafts.{no_words, with_words}
use Rattle.assembly_text.proofs.drafts.with_words.Given as goal

abbrev pub invariant-words : goal.invariant-words
invariant-words l = record {
  same : with_words no_words l.start 0 l.text ≡ with_words l.d l.at 0 l.rest;
  near : l.at + length l.rest ≤ l.start + length l.text;
}

abbrev pub decreases-words : goal.decreases-words
decreases-words l = length l.rest
