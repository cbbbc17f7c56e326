use Rattle.std.proofs.Common.{◌≡◌, arith, sym, subst, ◌∙◌}
use Rattle.std.proofs.lemmas.List.{take_at}
use Rattle.branch_sizes.specs.Tables.{plan_in}
use Rattle.branch_sizes.specs.Layout.{first_layout, AreLengths, ArePlaces, IsLayout, IsLeast}
use Rattle.branch_sizes.proofs.Growing.{first_is_layout}
use Rattle.branch_sizes.proofs.worklist.least_of.Goals as goal

pub make-requires : goal.make-requires
make-requires c =
    let p = plan_in c.args.tables.now in
    subst (IsLayout p) (sym (c.deref.ensures.value ∙ c.in_ok-choices.ensures.items_if_clones_equal (λ y e. e)))
    (first_is_layout p c.args.tables.now.plan)

pub grow_until_closed-requires : goal.grow_until_closed-requires
grow_until_closed-requires c =
    let p = plan_in c.args.tables.now in
    let is : c.deref_mut.result.now ≡ first_layout p =
    c.deref_mut.ensures.value ∙ c.in_ok-choices.ensures.items_if_clones_equal (λ y e. e) in
    record {
      layout = is;
      lengths = subst (λ xs. AreLengths p xs c.in_ok-sums.sums) (sym is) c.in_ok-sums.ensures;
    }

pub returns : goal.returns
returns c =
    let p = plan_in c.args.tables.now in
    let grown = c.in_ok-places.ensures in
    let back = take_at c.grow_until_closed.new.layout _ c.in_ok-choices.choices.len
    (omega (
      arith,
      c.in_ok-choices.choices.ok,
      c.in_ok-choices.ensures.len,
      c.deref_mut.ensures.len,
      grown.least.closed.is_layout.len,
    )) in
    record {
      least = subst (IsLeast p) (sym back) grown.least;
      places = subst (λ xs. ArePlaces p xs c.in_ok-places.places.items) (sym back) grown.places;
      below = grown.below;
    }
