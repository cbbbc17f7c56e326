use Rattle.std.proofs.Common.{ℕ, sym, ap, ◌∙◌}
use Rattle.std.specs.Prelude.{◌==◌}
use Rattle.std.proofs.lemmas.Bool.{not-true}
use Rattle.assembly_text.proofs.LabelNames.{dotted}
use Rattle.assembly_text.proofs.labels.is_dotted.Goals as goal

pub returns-then-byte_at-eq46 : goal.returns-then-byte_at-eq46
returns-then-byte_at-eq46 c = λ other.
    let third = c.byte_at-then-byte_at-eq46 in
    dotted c.args.name.now (sym c.byte_at.ensures ∙ c.if-byte_at-eq46.true) (ap (λ (x : ℕ). x == 40) (sym third.ensures) ∙ not-true (third.result == 40) other)
    c.names_are_words.ensures
