use Rattle.std.proofs.Common.{◌≡◌, ◌∙◌, sym, ap, ℕ, List, refl, true}
use Rattle.std.specs.Prelude.{bytes_eq}
use Rattle.std.proofs.lemmas.Slice.Eq.{bytes_eq-Decides}
use Rattle.assembly_text.proofs.Keeping.{read_as}
use Rattle.assembly_text.proofs.known.code_before.Goals as goal

pub returns-then-eq : goal.returns-then-eq
returns-then-eq c =
    let line = c.in-Some.line.now in
    let words = sym c.as_slice.ensures.value in
    let same : bytes_eq line.text.items c.args.text.now ≡ true = ap (λ (x : List ℕ). bytes_eq x c.args.text.now) words ∙ (sym c.eq.ensures ∙ c.if-eq.true) in
    read_as c.args.known.now.bits c.args.bits c.args.known.now.base c.args.base line.text.items c.args.text.now line.read
    (c.if-not-are_of.ensures.mode refl) (c.if-not-are_of.ensures.address refl) ((bytes_eq-Decides line.text.items c.args.text.now).0 same) c.in-Some.ensures
