use Rattle.std.proofs.Common.{◌≡◌, ◌≤◌, List, length, Err, refl, arith, ap, sym, subst, ◌∙◌}
use Rattle.move_goals.specs.declared.items.Placed.{Placed}
use Rattle.branch_sizes.specs.declared.plan.Goal.{Goal}
use Rattle.code_items.specs.declared.any_items.AnyItem.{AnyItem}
use Rattle.code_items.specs.AnyItems.{AreAnySound}
use Rattle.code_items.specs.AnyPlan.{any_plan_with, goal_in, AreAnyGoals}
use Rattle.code_items.specs.AnyMoved.{IsMovedAnyBy, IsAnyPlanAnswer}
use Rattle.detour.specs.Taken.{moved_count}
use Rattle.detour.specs.Trampoline.{block_items, pushed_last}
use Rattle.detour.specs.AnyTaken.{outline}
use Rattle.detour.specs.AnyTrampoline.{any_block_items, any_trampoline_goals, goals_of_taken}
use Rattle.detour.proofs.Planned.{block_long, block_few, call_placed}
use Rattle.detour.proofs.AnyPlanned.{block-same, block-sound, goals-fit, goals-are}
use Rattle.detour.proofs.any_trampoline.lay_any_trampoline.Goals as goal
use Rattle.detour.proofs.any_trampoline.lay_any_trampoline.Goals.{After-deref-4, After-deref-6}

-- the moved ones are among those that are taken
within : (c : After-deref-4) → (c.moved_count-count.result ≡ moved_count c.args.taken.outline.items.items)
    × (moved_count c.args.taken.outline.items.items ≤ length c.args.taken.outline.items.items)
within c =
    let mc = c.moved_count-count.ensures.value ∙ ap moved_count c.deref.ensures.value in
    (mc, omega (arith, mc, c.moved_count-count.ensures.within, ap length c.deref.ensures.value))

-- there are as many instructions as lines, which are few
same-length : (c : After-deref-4) → (length c.deref-4.result.now ≡ length c.deref-3.result.now) × (length c.deref-3.result.now ≤ 65536)
same-length c =
    let bits = c.args.bits in
    let t = c.args.taken.outline.items.items in
    let xs = c.args.taken.items.items in
    let w = (within c).1 in
    let lines : length c.deref-3.result.now ≡ length (block_items c.args.rule bits c.args.ip t) = ap length (c.deref-3.ensures.value ∙ c.in_ok-lines.ensures) in
    let block : length c.deref-4.result.now ≡ length (any_block_items c.args.rule bits c.args.ip xs) = ap length (c.deref-4.ensures.value ∙ c.in_ok-block.ensures) in
    let inside : moved_count (outline bits xs) ≤ length (outline bits xs) = subst (λ (ps : List Placed). moved_count ps ≤ length ps) c.requires.lines w in
    let both = block-same c.args.rule bits c.args.ip xs inside in
    let shown : length (block_items c.args.rule bits c.args.ip t) ≡ length (block_items c.args.rule bits c.args.ip (outline bits xs)) =
    ap (λ (ps : List Placed). length (block_items c.args.rule bits c.args.ip ps)) c.requires.lines in
    (omega (arith, lines, block, both, shown), omega (arith, lines, block_few c.args.rule bits c.args.ip t w, c.requires.fit.few))

-- the instructions of the trampoline are sound
sound : (c : After-deref-4) → AreAnySound c.args.bits (any_block_items c.args.rule c.args.bits c.args.ip c.args.taken.items.items)
sound c =
    block-sound c.laws_below.ensures c.args.bits c.args.rule c.args.ip c.args.taken.items.items
    (λ pushed e. call_placed c.args.bits c.pushed_last-called.result (pushed_last c.args.rule c.args.bits c.args.taken.outline.items.items)
    c.pushed_last-called.ensures.value c.pushed_last-called.ensures.placed pushed (ap (pushed_last c.args.rule c.args.bits) c.requires.lines ∙ e))
    c.requires.sound

-- the goals are those of what is taken
goals : (c : After-deref-6) → c.deref-6.result.now ≡ goals_of_taken c.args.rule c.args.bits c.args.ip c.args.taken.items.items
goals c =
    c.deref-6.ensures.value
    ∙ (c.in_ok-goals.ensures
    ∙ goals-are c.args.rule c.args.bits c.args.ip c.args.taken.items.items c.args.taken.outline.items.items c.deref-3.result.now c.deref-4.result.now
    c.moved_count-count.result c.follow_count-follow.result c.requires.lines (c.deref-3.ensures.value ∙ c.in_ok-lines.ensures)
    (c.deref-4.ensures.value ∙ c.in_ok-block.ensures) (c.moved_count-count.ensures.value ∙ ap moved_count c.deref.ensures.value) c.follow_count-follow.ensures)

pub any_goals-requires-clause-within : goal.any_goals-requires-clause-within
any_goals-requires-clause-within c =
    let w = within c in
    let len : length c.deref-3.result.now ≡ length (block_items c.args.rule c.args.bits c.args.ip c.args.taken.outline.items.items) =
    ap length (c.deref-3.ensures.value ∙ c.in_ok-lines.ensures) in
    omega (arith, w.0, len, block_long c.args.rule c.args.bits c.args.ip c.args.taken.outline.items.items w.1)

pub any_goals-requires-clause-few : goal.any_goals-requires-clause-few
any_goals-requires-clause-few c = (same-length c).1

pub move_any_block-requires-clause-few : goal.move_any_block-requires-clause-few
move_any_block-requires-clause-few c =
    let at = (goal.at.move_any_block-requires-clause-few c).After-deref-4 in
    let same = same-length at in
    omega (arith, same.0, same.1, ap length (c.deref-5.ensures.value ∙ sym c.deref-4.ensures.value))

pub move_any_block-requires-clause-sound : goal.move_any_block-requires-clause-sound
move_any_block-requires-clause-sound c =
    subst (λ (xs : List AnyItem). AreAnySound c.args.bits xs) (sym (c.deref-5.ensures.value ∙ c.in_ok-block.ensures))
    (sound (goal.at.move_any_block-requires-clause-sound c).After-deref-4)

pub move_any_block-requires-clause-goals : goal.move_any_block-requires-clause-goals
move_any_block-requires-clause-goals c =
    let at = (goal.at.move_any_block-requires-clause-goals c).After-deref-4 in
    let lines = c.deref-3.result.now in
    let block = c.deref-4.result.now in
    let w = within at in
    let len : length lines ≡ length (block_items c.args.rule c.args.bits c.args.ip c.args.taken.outline.items.items) =
    ap length (c.deref-3.ensures.value ∙ c.in_ok-lines.ensures) in
    let many : c.moved_count-count.result ≤ length lines =
    omega (arith, w.0, len, block_long c.args.rule c.args.bits c.args.ip c.args.taken.outline.items.items w.1) in
    let fit = goals-fit c.laws_below.ensures c.args.bits c.args.rule lines block c.moved_count-count.result c.follow_count-follow.result many (same-length at).0 in
    subst (λ (gs : List Goal). AreAnyGoals c.args.bits c.deref-5.result.now gs) (sym (c.deref-6.ensures.value ∙ c.in_ok-goals.ensures))
    (subst (λ (xs : List AnyItem). AreAnyGoals c.args.bits xs (any_trampoline_goals c.args.rule c.args.bits lines block c.moved_count-count.result c.follow_count-follow.result))
    (c.deref-4.ensures.value ∙ sym c.deref-5.ensures.value) fit)

pub returns-in-Ok : goal.returns-in-Ok
returns-in-Ok c =
    let whole = any_block_items c.args.rule c.args.bits c.args.ip c.args.taken.items.items in
    let moved = subst (λ (xs : List AnyItem). IsMovedAnyBy c.args.bits xs (any_plan_with c.args.bits xs (goal_in c.deref-6.result.now) c.args.place) c.in-Ok.moved)
    (c.deref-5.ensures.value ∙ c.in_ok-block.ensures) c.in-Ok.ensures in (
      refl,
      (
        sound (goal.at.returns-in-Ok c).After-deref-4,
        subst (λ (gs : List Goal). IsMovedAnyBy c.args.bits whole (any_plan_with c.args.bits whole (goal_in gs) c.args.place) c.in-Ok.moved)
            (goals (goal.at.returns-in-Ok c).After-deref-6) moved,
      ),
    )

pub returns-in-Err : goal.returns-in-Err
returns-in-Err c =
    let whole = any_block_items c.args.rule c.args.bits c.args.ip c.args.taken.items.items in
    let refused = subst (λ (xs : List AnyItem). IsAnyPlanAnswer c.args.bits xs (any_plan_with c.args.bits xs (goal_in c.deref-6.result.now) c.args.place) (Err c.in-Err.why))
    (c.deref-5.ensures.value ∙ c.in_ok-block.ensures) c.in-Err.ensures in
    subst (λ (gs : List Goal). IsAnyPlanAnswer c.args.bits whole (any_plan_with c.args.bits whole (goal_in gs) c.args.place) (Err c.in-Err.why))
    (goals (goal.at.returns-in-Err c).After-deref-6) refused
