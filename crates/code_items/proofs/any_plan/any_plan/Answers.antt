use Rattle.std.proofs.Common.{◌≡◌, length, map, arith, ap, ◌∙◌}
use Rattle.std.specs.List.{range_with_len}
use Rattle.std.proofs.lemmas.List.FromFn.{length-map-range_with_len}
use Rattle.branch_sizes.specs.Plan.{one_block}
use Rattle.code_items.specs.AnyPlan.{any_branch_at, any_plan_with}
use Rattle.code_items.proofs.AnyPlanned.{items_fit}
use Rattle.code_items.proofs.any_plan.any_plan.Goals as goal

pub items-preserved : goal.items-preserved
items-preserved c =
    c.laws_below.ensures.plans.one_more (any_branch_at c.args.bits c.args.items.now)
    c.items.branches.items c.push.new.self.items c.items.k c.any_branch_at.result c.items.invariant c.in_ok-push.ensures.items c.any_branch_at.ensures

pub new-requires-clause-few : goal.new-requires-clause-few
new-requires-clause-few c =
    omega (
      arith,
      ap length c.items.invariant,
      length-map-range_with_len (any_branch_at c.args.bits c.args.items.now) 0 c.items.k,
      c.items.auto.k-end,
      c.requires.few,
    )

pub new-requires-clause-fit : goal.new-requires-clause-fit
new-requires-clause-fit c =
    let f = any_branch_at c.args.bits c.args.items.now in
    let all : c.items.k ≡ length c.args.items.now = omega (arith, c.items-test.false, c.items.auto.k-end) in
    let are : c.items.branches.items ≡ map f (range_with_len 0 (length c.args.items.now)) = c.items.invariant ∙ ap (λ n. map f (range_with_len 0 n)) all in
    items_fit c.laws_below.ensures c.args.bits c.args.items.now c.requires.sound c.items.branches.items are

pub returns : goal.returns
unfolding any_plan_with
returns c =
    let f = any_branch_at c.args.bits c.args.items.now in
    let all : c.items.k ≡ length c.args.items.now = omega (arith, c.items-test.false, c.items.auto.k-end) in
    let are : c.items.branches.items ≡ map f (range_with_len 0 (length c.args.items.now)) = c.items.invariant ∙ ap (λ n. map f (range_with_len 0 n)) all in
    c.new.ensures ∙ ap (one_block c.args.new) are
