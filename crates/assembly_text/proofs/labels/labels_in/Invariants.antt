use Rattle.std.proofs.Common.{◌≡◌, ◌≤◌, ◌+◌, ℕ, List, length, bytes_eq}
use Rattle.std.specs.HashMap as hash
use Rattle.assembly_text.specs.Lines.{lines_in}
use Rattle.assembly_text.specs.Labels.{number_from, first_number, labels_from}
use Rattle.assembly_text.proofs.labels.labels_in.Given as goal

abbrev pub invariant-lines : goal.invariant-lines
invariant-lines l = record {
  same : (name : List ℕ) → number_from (lines_in l.text) name 0
      ≡ first_number (hash.get_by (λ k. bytes_eq name k.now) l.numbers) (number_from (lines_in l.rest) name l.count);
  total : labels_from (lines_in l.text) 0 ≡ labels_from (lines_in l.rest) l.count;
  few : l.count + length l.rest ≤ length l.text;
}

abbrev pub decreases-lines : goal.decreases-lines
decreases-lines l = length l.rest
