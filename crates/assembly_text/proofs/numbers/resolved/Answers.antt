use Rattle.std.proofs.Common.{◌≤◌, ◌++◌, List, ℕ, length, arith, sym, ap, ◌∙◌}
use Rattle.std.proofs.lemmas.Bool.Decides.{nat_tests}
use Rattle.assembly_text.proofs.Resolving.{unnamed_text}
use Rattle.assembly_text.proofs.numbers.resolved.Goals as goal

pub returns-then-is_empty : goal.returns-then-is_empty
returns-then-is_empty c =
    let none : length c.args.names.now ≤ 0 = grind (arith, nat_tests, c.is_empty.ensures, c.if-is_empty.true) in
    c.in_ok-extend_from_slice.ensures.items ∙ ap (λ (x : List ℕ). x ++ c.args.text.now) c.in_ok-out.ensures.items ∙ sym (unnamed_text c.args.names.now c.args.text.now none)
