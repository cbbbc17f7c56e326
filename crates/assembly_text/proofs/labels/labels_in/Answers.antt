use Rattle.std.proofs.Common.{◌≤◌, length, arith, sym, ap, ◌∙◌, bytes_eq}
use Rattle.std.specs.HashMap as hash
use Rattle.std.proofs.lemmas.Bool.Decides.{nat_tests}
use Rattle.assembly_text.specs.Labels.{first_number}
use Rattle.assembly_text.proofs.Telling.{number_end, labels_end}
use Rattle.assembly_text.proofs.Finding.{first_none}
use Rattle.assembly_text.proofs.labels.labels_in.Goals as goal

pub invariant_of-result : goal.invariant_of-result
invariant_of-result c =
    let none : length c.lines.rest.now ≤ 0 = grind (arith, nat_tests, c.is_empty.ensures, c.lines-test.false) in
    record {
      counted = sym (c.lines.invariant.total ∙ labels_end c.lines.rest.now c.lines.count none);
      right = λ name.
          let g = hash.get_by (λ k. bytes_eq name k.now) c.lines.numbers in
          sym (c.lines.invariant.same name ∙ (ap (first_number g) (number_end c.lines.rest.now name c.lines.count none) ∙ first_none g));
    }
