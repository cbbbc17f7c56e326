use Rattle.std.proofs.Common.{◌≡◌, ℕ, ◌+◌, List, [], ◌∷◌, ◌++◌, length, map, arith, ap, sym, ◌∙◌}
use Rattle.std.specs.List.{range_with_len}
use Rattle.std.proofs.lemmas.List.FromFn.{map-range_with_len_more}
use Rattle.branch_sizes.specs.declared.plan.Goal.{Goal}
use Rattle.detour.specs.AnyTrampoline.{any_trampoline_goal}
use Rattle.detour.proofs.any_trampoline.any_goals.Goals as goal

one_goal : (f : ℕ → Goal) (xs ys : List Goal) (k : ℕ) (x : Goal) → xs ≡ map f (range_with_len 0 k) → ys ≡ xs ++ x ∷ [] → x ≡ f k
    → ys ≡ map f (range_with_len 0 (k + 1))
one_goal f xs ys k x old last is =
    last
    ∙ (ap (λ (zs : List Goal). zs ++ x ∷ []) old
    ∙ (ap (λ (y : Goal). map f (range_with_len 0 k) ++ y ∷ []) is ∙ sym (map-range_with_len_more f 0 k k (omega arith))))

pub items-preserved : goal.items-preserved
items-preserved c =
    one_goal (any_trampoline_goal c.args.rule c.args.bits c.args.lines.now c.args.items.now c.args.count c.args.follow) c.items.goals.items c.push.new.self.items c.items.k
    c.any_goal_at.result c.items.invariant c.in_ok-push.ensures.items c.any_goal_at.ensures

pub returns : goal.returns
returns c =
    let all : c.items.k ≡ length c.args.items.now = omega (arith, c.items-test.false, c.items.auto.k-end) in
    c.items.invariant
    ∙ ap (λ (n : ℕ). map (any_trampoline_goal c.args.rule c.args.bits c.args.lines.now c.args.items.now c.args.count c.args.follow) (range_with_len 0 n)) all
