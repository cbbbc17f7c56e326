use Rattle.std.proofs.Common.{◌≡◌, ◌<◌, ◌^◌, ℕ, List, length, get_or, rules, sym, subst}
use Rattle.branch_sizes.specs.Tables.{plan_in}
use Rattle.branch_sizes.specs.Layout.{first_layout, ArePlaces, IsLayout, AtMost}
use Rattle.branch_sizes.proofs.Growing.{first_is_layout}
use Rattle.branch_sizes.proofs.Rising.{first_at_most}
use Rattle.branch_sizes.proofs.worklist.grow_until_closed.Goals as goal

pub passes-init : goal.passes-init
passes-init c =
    let p = plan_in c.args.tables.now in
    let is : c.args.layout.now ≡ first_layout p = c.requires.layout in
    let now : c.in_ok-now.now.items ≡ c.args.tables.now.first.now = c.in_ok-now.ensures.items in
    record {
      lengths = c.requires.lengths;
      is_layout = subst (IsLayout p) (sym is) (first_is_layout p c.args.tables.now.plan);
      least = λ other closed. subst (λ xs. AtMost xs other) (sym is) (first_at_most p other);
      places = subst (ArePlaces p c.args.layout.now) (sym now)
          (subst (λ xs. ArePlaces p xs c.args.tables.now.first.now) (sym is) c.args.tables.now.right_first);
      below = subst (λ (xs : List ℕ). (i : ℕ) → i < length xs → get_or xs i 0 < 2 ^ 66) (sym now)
          c.args.tables.now.small_first;
    }

pub passes-preserved : goal.passes-preserved
passes-preserved c =
    let grown = c.in_ok-grow_unclosed.ensures in
    record {
      lengths = grown.lengths;
      is_layout = grown.grows.layout;
      least = λ other closed. grown.grows.below other closed (c.passes.invariant.least other closed);
      places = c.in_ok-now-2.ensures.places;
      below = c.in_ok-now-2.ensures.below;
    }

pub passes-smaller : goal.passes-smaller
passes-smaller c = c.in_ok-grow_unclosed.ensures.less

pub returns-clause-least : goal.returns-clause-least
returns-clause-least c = record {
  closed = c.in_ok-unclosed.ensures.closed (search rules);
  least = c.passes.invariant.least;
}
