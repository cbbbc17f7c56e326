use Rattle.std.proofs.Common.{◌≡◌, ℕ, List, ◌++◌, sym, ap, subst, ◌∙◌}
use Rattle.std.specs.Prelude.{OnOk}
use Rattle.assembly_text.specs.Names.{stem, ending}
use Rattle.assembly_text.proofs.Unprefixed.{unprefixed_head}
use Rattle.assembly_text.proofs.names.put_head.Goals as goal

pub returns-then-not-has_prefix : goal.returns-then-not-has_prefix
returns-then-not-has_prefix c =
    let name = ap (λ (w : List ℕ). stem w ++ ending w) c.first_word.ensures in
    let head = name ∙ sym (unprefixed_head c.args.text.now c.if-not-has_prefix.ensures) in
    subst (λ (t : List ℕ). OnOk c.put_name.result (c.put_name.new.out.items ≡ c.args.out.now.items ++ t)) head c.put_name.ensures
