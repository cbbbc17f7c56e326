use Rattle.std.proofs.Common.{◌≡◌, refl, subst}
use Rattle.std.specs.Prelude.{IfOk}
use Rattle.branch_sizes.specs.Plan.{plan_of}
use Rattle.branch_sizes.specs.Layout.{IsLeast, ArePlaces}
use Rattle.branch_sizes.proofs.layout.least_choices.Goals as goal

pub returns-clause-least : goal.returns-clause-least
returns-clause-least c =
    let same : plan_of c.spans.result.now c.items.result.now ≡ c.args.plan.now =
    rw (c.spans.ensures.spans, c.items.ensures) refl in
    subst (λ p. IfOk c.grown_from_first.result (λ least. IsLeast p least.choices.items)) same
    c.grown_from_first.ensures.least

pub returns-clause-places : goal.returns-clause-places
returns-clause-places c =
    let same : plan_of c.spans.result.now c.items.result.now ≡ c.args.plan.now =
    rw (c.spans.ensures.spans, c.items.ensures) refl in
    subst (λ p. IfOk c.grown_from_first.result (λ least. ArePlaces p least.choices.items least.places.items)) same
    c.grown_from_first.ensures.places
