use Rattle.std.proofs.Common.{◌≡◌, ℕ, ◌<◌, List, length, get_or, arith, ap, subst, sym}
use Rattle.std.proofs.lemmas.List.{get_or_default, get_or_read}
use Rattle.std.specs.Prelude.{IsTrue}
use Rattle.branch_sizes.specs.declared.plan.Branch.{Branch}
use Rattle.branch_sizes.specs.declared.plan.Choice.{Choice}
use Rattle.branch_sizes.specs.Plan.{BlockPlan, IsWellFormed, no_choice, no_branch, is_fit_reach}
use Rattle.branch_sizes.specs.Layout.{IsLayout}
use Rattle.branch_sizes.specs.Tables.{plan_in}
use Rattle.branch_sizes.proofs.Items.{inside_below, reach_fit}
use Rattle.branch_sizes.proofs.limits.rooms_of.Goals as goal

-- the choice of an item is one of its choices
chosen-below : (p : BlockPlan) (layout : List ℕ) → IsLayout p layout → (k : ℕ) → k < length p.items → (b : Branch) → b ≡ get_or p.items k b
    → (f : ℕ) → f ≡ get_or layout k 0 → f < length b.choices.items
chosen-below p layout valid k lt b is f e =
    let here = subst (λ x. get_or layout k 0 < length x.choices.items) (sym (get_or_read p.items k b lt is no_branch)) (valid.valid k lt) in
    omega (arith, here, e)

-- and its reach is fit
chosen-fit : (p : BlockPlan) → IsWellFormed p → (layout : List ℕ) → IsLayout p layout → (k : ℕ) → k < length p.items → (b : Branch) → b ≡ get_or p.items k b
    → (f : ℕ) → f ≡ get_or layout k 0 → (choices : List Choice) → choices ≡ b.choices.items → IsTrue (is_fit_reach (get_or choices f no_choice).reach)
chosen-fit p fit layout valid k lt b is f e choices same =
    subst (λ xs. IsTrue (is_fit_reach (get_or xs f no_choice).reach)) (sym same)
    (reach_fit p fit k lt b is f (chosen-below p layout valid k lt b is f e))

pub bounds-deref-f : goal.bounds-deref-f
bounds-deref-f c =
    let item = get_or c.args.tables.now.items.now c.args.k c.index-tables-k.result in
    let is = get_or_default c.args.tables.now.items.now c.args.k c.index-tables-k.result item c.requires.item in
    omega (
      arith,
      chosen-below (plan_in c.args.tables.now) c.args.layout.now c.requires.layout c.args.k c.requires.item item is c.from-f.result c.from-f.ensures,
      ap (λ (xs : List Choice). length xs) c.deref.ensures.0,
    )

pub rooms_apart-requires-clause-fit : goal.rooms_apart-requires-clause-fit
rooms_apart-requires-clause-fit c =
    let item = get_or c.args.tables.now.items.now c.args.k c.index-tables-k.result in
    let is = get_or_default c.args.tables.now.items.now c.args.k c.index-tables-k.result item c.requires.item in
    chosen-fit (plan_in c.args.tables.now) c.args.tables.now.plan c.args.layout.now c.requires.layout c.args.k c.requires.item item is c.from-f.result c.from-f.ensures _ c.deref.ensures.0

pub rooms_apart-requires-clause-place : goal.rooms_apart-requires-clause-place
rooms_apart-requires-clause-place c = c.args.tables.now.small_first c.args.k (omega (arith, c.requires.item, c.args.tables.now.right_first.len))

pub bounds-tables-j : goal.bounds-tables-j
bounds-tables-j c =
    let item = get_or c.args.tables.now.items.now c.args.k c.index-tables-k.result in
    let is = get_or_default c.args.tables.now.items.now c.args.k c.index-tables-k.result item c.requires.item in
    omega (
      arith,
      c.args.tables.now.right_blocks.len,
      inside_below (plan_in c.args.tables.now) c.args.tables.now.plan c.args.k c.requires.item item is c.in-Inside.j c.in-Inside.is,
    )

pub bounds-tables-j-else-tables-j : goal.bounds-tables-j-else-tables-j
bounds-tables-j-else-tables-j c =
    let item = get_or c.args.tables.now.items.now c.args.k c.index-tables-k.result in
    let is = get_or_default c.args.tables.now.items.now c.args.k c.index-tables-k.result item c.requires.item in
    omega (
      arith,
      c.args.tables.now.right_first.len,
      inside_below (plan_in c.args.tables.now) c.args.tables.now.plan c.args.k c.requires.item item is c.in-Inside.j c.in-Inside.is,
    )

pub rooms_apart-requires-else-tables-j-clause-fit : goal.rooms_apart-requires-else-tables-j-clause-fit
rooms_apart-requires-else-tables-j-clause-fit c =
    let item = get_or c.args.tables.now.items.now c.args.k c.index-tables-k.result in
    let is = get_or_default c.args.tables.now.items.now c.args.k c.index-tables-k.result item c.requires.item in
    chosen-fit (plan_in c.args.tables.now) c.args.tables.now.plan c.args.layout.now c.requires.layout c.args.k c.requires.item item is c.from-f.result c.from-f.ensures _ c.deref.ensures.0

pub rooms_apart-requires-else-tables-j-clause-place : goal.rooms_apart-requires-else-tables-j-clause-place
rooms_apart-requires-else-tables-j-clause-place c =
    c.args.tables.now.small_first c.args.k (omega (arith, c.requires.item, c.args.tables.now.right_first.len))

pub rooms_apart-requires-else-tables-j-clause-goal : goal.rooms_apart-requires-else-tables-j-clause-goal
rooms_apart-requires-else-tables-j-clause-goal c =
    let item = get_or c.args.tables.now.items.now c.args.k c.index-tables-k.result in
    let is = get_or_default c.args.tables.now.items.now c.args.k c.index-tables-k.result item c.requires.item in
    let below = inside_below (plan_in c.args.tables.now) c.args.tables.now.plan c.args.k c.requires.item item is c.in-Inside.j c.in-Inside.is in
    c.args.tables.now.small_first _ (omega (arith, below, c.args.tables.now.right_first.len))
