use Rattle.std.proofs.Common.{sym, subst, ◌∙◌}
use Rattle.branch_sizes.specs.Plan.{plan_of}
use Rattle.branch_sizes.specs.Layout.{IsLayout}
use Rattle.branch_sizes.proofs.Growing.{first_is_layout}
use Rattle.branch_sizes.proofs.worklist.first_places.Goals as goal

pub places-requires-clause-layout : goal.places-requires-clause-layout
places-requires-clause-layout c =
    let p = plan_of c.args.spans.now c.args.items.now in
    subst (IsLayout p) (sym (c.deref.ensures.value ∙ c.in_ok-layout.ensures.items_if_clones_equal (λ y e. e)))
    (first_is_layout p c.requires)
