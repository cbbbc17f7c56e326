use Rattle.std.proofs.Common.{◌≡◌, length, map, arith, ap, ◌∙◌}
use Rattle.std.specs.List.{range_with_len}
use Rattle.std.proofs.lemmas.List.FromFn.{length-map-range_with_len}
use Rattle.branch_sizes.specs.Plan.{one_block}
use Rattle.code_items.specs.AnyPlan.{any_branch_with, any_plan_with, goal_in}
use Rattle.code_items.proofs.AnyPlanned.{items_fit_with}
use Rattle.code_items.proofs.any_plan.any_plan_with.Goals as goal

pub items-preserved : goal.items-preserved
items-preserved c =
    c.laws_below.ensures.plans.one_more (any_branch_with c.args.bits c.args.items.now (goal_in c.args.goals.now))
    c.items.branches.items c.push.new.self.items c.items.k c.any_branch_with.result c.items.invariant c.in_ok-push.ensures.items c.any_branch_with.ensures

pub any_branch_with-requires-clause-goal : goal.any_branch_with-requires-clause-goal
any_branch_with-requires-clause-goal c = omega (arith, c.requires.goals.count, c.items-test.true)

pub new-requires-clause-few : goal.new-requires-clause-few
new-requires-clause-few c =
    omega (
      arith,
      ap length c.items.invariant,
      length-map-range_with_len (any_branch_with c.args.bits c.args.items.now (goal_in c.args.goals.now)) 0 c.items.k,
      c.items.auto.k-end,
      c.requires.few,
    )

pub new-requires-clause-fit : goal.new-requires-clause-fit
new-requires-clause-fit c =
    let f = any_branch_with c.args.bits c.args.items.now (goal_in c.args.goals.now) in
    let all : c.items.k ≡ length c.args.items.now = omega (arith, c.items-test.false, c.items.auto.k-end) in
    let are : c.items.branches.items ≡ map f (range_with_len 0 (length c.args.items.now)) = c.items.invariant ∙ ap (λ n. map f (range_with_len 0 n)) all in
    items_fit_with c.laws_below.ensures c.args.bits c.args.items.now c.requires.sound (goal_in c.args.goals.now) c.requires.goals.each c.items.branches.items are

pub returns : goal.returns
unfolding any_plan_with
returns c =
    let f = any_branch_with c.args.bits c.args.items.now (goal_in c.args.goals.now) in
    let all : c.items.k ≡ length c.args.items.now = omega (arith, c.items-test.false, c.items.auto.k-end) in
    let are : c.items.branches.items ≡ map f (range_with_len 0 (length c.args.items.now)) = c.items.invariant ∙ ap (λ n. map f (range_with_len 0 n)) all in
    c.new.ensures ∙ ap (one_block c.args.new) are
