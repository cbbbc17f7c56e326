use Rattle.std.proofs.Common.{◌≡◌, ℕ, [], ◌∷◌, List, length, map, arith, ap, sym, subst, ◌∙◌}
use Rattle.std.specs.Prelude.{IsTrue}
use Rattle.std.specs.List.{list_all, range_with_len}
use Rattle.std.proofs.lemmas.List.FromFn.{length-map-range_with_len}
use Rattle.branch_sizes.specs.declared.plan.Branch.{Branch}
use Rattle.branch_sizes.specs.Plan.{plan_of, one_block, is_fit_branch}
use Rattle.move_goals.specs.Plan.{branch_with, kept_goals, plan_with}
use Rattle.move_goals.proofs.Planned.{one_more, outside-fit}
use Rattle.move_goals.proofs.outside.plan_outside.Goals as goal

pub items-preserved : goal.items-preserved
items-preserved c =
    one_more (branch_with c.args.bits c.args.items.now (kept_goals c.args.items.now)) c.items.branches.items c.push.new.self.items c.items.k c.kept_branch.result
    c.items.invariant c.in_ok-push.ensures.items c.kept_branch.ensures

pub new-requires-clause-few : goal.new-requires-clause-few
new-requires-clause-few c =
    omega (
      arith,
      ap length c.items.invariant,
      length-map-range_with_len (branch_with c.args.bits c.args.items.now (kept_goals c.args.items.now)) 0 c.items.k,
      c.items.auto.k-end,
      c.requires.few,
    )

pub new-requires-clause-fit : goal.new-requires-clause-fit
unfolding plan_with
new-requires-clause-fit c =
    let f = branch_with c.args.bits c.args.items.now (kept_goals c.args.items.now) in
    let all : c.items.k ≡ length c.args.items.now = omega (arith, c.items-test.false, c.items.auto.k-end) in
    let are : c.items.branches.items ≡ map f (range_with_len 0 (length c.args.items.now)) = c.items.invariant ∙ ap (λ n. map f (range_with_len 0 n)) all in
    let fit = (outside-fit c.forms_are_fit.ensures c.args.bits c.args.items.now c.args.new_base c.requires.placed c.requires.few).fit in
    subst (λ (bs : List Branch). IsTrue (list_all (is_fit_branch (length bs)) bs)) (sym are) fit

pub returns : goal.returns
unfolding plan_with
returns c =
    let f = branch_with c.args.bits c.args.items.now (kept_goals c.args.items.now) in
    let all : c.items.k ≡ length c.args.items.now = omega (arith, c.items-test.false, c.items.auto.k-end) in
    let are : c.items.branches.items ≡ map f (range_with_len 0 (length c.args.items.now)) = c.items.invariant ∙ ap (λ n. map f (range_with_len 0 n)) all in
    c.new.ensures
    ∙ (ap (one_block c.args.new_base) are
    ∙ ap (λ (n : ℕ). plan_of (record { count = n; new_base = c.args.new_base } ∷ []) (map f (range_with_len 0 (length c.args.items.now))))
    (length-map-range_with_len f 0 (length c.args.items.now)))
