use Rattle.std.proofs.Common.{◌≡◌, ◌++◌, ◌∷◌, ℕ, [], sym, ap, ◌∙◌}
use Rattle.std.specs.Prelude.{unwrap_or}
use Rattle.code_assembler.specs.Finished.{label_address}
use Rattle.assembly_text.specs.Rounds.{places_from}
use Rattle.assembly_text.proofs.Growing.{place_more, place_end}
use Rattle.assembly_text.proofs.rounds.places_of.Goals as goal

pub labels-preserved : goal.labels-preserved
labels-preserved c =
    let a = c.args.made.now in
    let base = c.args.base in
    let out = c.labels.places.items in
    let put : c.push.new.self.items ≡ out ++ unwrap_or (label_address a c.labels.k) base ∷ [] =
    c.in_ok-push.ensures.items ∙ ap (λ (x : ℕ). out ++ x ∷ []) (c.unwrap_or.ensures ∙ ap (λ o. unwrap_or o base) c.address_of.ensures) in
    rw put (place_more a base out c.label_count-count.result c.labels.k c.labels-test.true ∙ c.labels.invariant)

pub returns : goal.returns
returns c =
    let a = c.args.made.now in
    sym (place_end a c.args.base c.labels.places.items c.label_count-count.result c.labels.k c.labels-test.false)
    ∙ (c.labels.invariant ∙ ap (places_from a c.args.base 0) c.label_count-count.ensures)
