use Rattle.std.proofs.Common.{◌≡◌, ℕ, [], ◌∷◌, length, map, arith, ap, ◌∙◌}
use Rattle.std.specs.List.{range_with_len}
use Rattle.std.proofs.lemmas.List.FromFn.{length-map-range_with_len}
use Rattle.branch_sizes.specs.Plan.{plan_of, one_block}
use Rattle.move_goals.specs.Plan.{branch_with, plan_with}
use Rattle.code_assembler.specs.Routine.{routine_goals}
use Rattle.code_assembler.proofs.Fit.{items_fit}
use Rattle.code_assembler.proofs.finishing.plan_at.Goals as goal

pub items-preserved : goal.items-preserved
items-preserved c =
    c.laws_below.ensures.plans.one_more (branch_with c.args.bits c.args.items.now (routine_goals c.args.labels.now c.args.aims.now c.args.items.now))
    c.items.branches.items c.push.new.self.items c.items.k c.branch_at.result c.items.invariant c.in_ok-push.ensures.items c.branch_at.ensures

pub new-requires-clause-few : goal.new-requires-clause-few
new-requires-clause-few c =
    omega (
      arith,
      ap length c.items.invariant,
      length-map-range_with_len (branch_with c.args.bits c.args.items.now (routine_goals c.args.labels.now c.args.aims.now c.args.items.now)) 0 c.items.k,
      c.items.auto.k-end,
      c.requires.few,
    )

pub new-requires-clause-fit : goal.new-requires-clause-fit
new-requires-clause-fit c =
    let f = branch_with c.args.bits c.args.items.now (routine_goals c.args.labels.now c.args.aims.now c.args.items.now) in
    let all : c.items.k ≡ length c.args.items.now = omega (arith, c.items-test.false, c.items.auto.k-end) in
    let are : c.items.branches.items ≡ map f (range_with_len 0 (length c.args.items.now)) = c.items.invariant ∙ ap (λ n. map f (range_with_len 0 n)) all in
    items_fit c.laws_below.ensures c.args.bits c.args.labels.now c.args.aims.now c.args.items.now c.requires.placed c.requires.few c.items.branches.items are

pub returns : goal.returns
unfolding plan_with
returns c =
    let f = branch_with c.args.bits c.args.items.now (routine_goals c.args.labels.now c.args.aims.now c.args.items.now) in
    let all : c.items.k ≡ length c.args.items.now = omega (arith, c.items-test.false, c.items.auto.k-end) in
    let are : c.items.branches.items ≡ map f (range_with_len 0 (length c.args.items.now)) = c.items.invariant ∙ ap (λ n. map f (range_with_len 0 n)) all in
    c.new.ensures
    ∙ (ap (one_block c.args.base) are
    ∙ ap (λ (n : ℕ). plan_of (record { count = n; new_base = c.args.base } ∷ []) (map f (range_with_len 0 (length c.args.items.now))))
    (length-map-range_with_len f 0 (length c.args.items.now)))
