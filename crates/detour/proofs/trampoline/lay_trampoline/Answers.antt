use Rattle.std.proofs.Common.{◌≡◌, ◌≤◌, List, length, Result, Ok, Err, arith, ap, sym, subst, ◌∙◌}
use Rattle.std.specs.Prelude.{IfOk}
use Rattle.move_goals.specs.declared.items.Placed.{Placed}
use Rattle.move_goals.specs.Items.{ArePlaced}
use Rattle.branch_sizes.specs.Plan.{BlockPlan}
use Rattle.block_encoder.specs.declared.error.PlanError.{PlanError}
use Rattle.block_encoder.specs.Moved.{MovedLists}
use Rattle.detour.specs.Taken.{moved_count}
use Rattle.detour.specs.Trampoline.{block_items}
use Rattle.detour.proofs.Planned.{block_long, block_few, call_placed, block_placed, plan_count}
use Rattle.detour.proofs.trampoline.lay_trampoline.Goals as goal

pub plan_at-requires-clause-within : goal.plan_at-requires-clause-within
plan_at-requires-clause-within c =
    let t = c.args.taken.now.items.items in
    let mc : c.moved_count-count.result ≡ moved_count t = c.moved_count-count.ensures.value ∙ ap moved_count c.deref.ensures.value in
    let w : moved_count t ≤ length t = omega (arith, mc, c.moved_count-count.ensures.within, ap length c.deref.ensures.value) in
    let len : length c.deref-3.result.now ≡ length (block_items c.args.rule c.args.bits c.args.ip t) = ap length (c.deref-3.ensures.value ∙ c.in_ok-items.ensures) in
    omega (arith, mc, len, block_long c.args.rule c.args.bits c.args.ip t w)

pub plan_at-requires-clause-few : goal.plan_at-requires-clause-few
plan_at-requires-clause-few c =
    let t = c.args.taken.now.items.items in
    let mc : c.moved_count-count.result ≡ moved_count t = c.moved_count-count.ensures.value ∙ ap moved_count c.deref.ensures.value in
    let w : moved_count t ≤ length t = omega (arith, mc, c.moved_count-count.ensures.within, ap length c.deref.ensures.value) in
    let len : length c.deref-3.result.now ≡ length (block_items c.args.rule c.args.bits c.args.ip t) = ap length (c.deref-3.ensures.value ∙ c.in_ok-items.ensures) in
    omega (arith, len, block_few c.args.rule c.args.bits c.args.ip t w, c.requires.few)

pub plan_at-requires-clause-placed : goal.plan_at-requires-clause-placed
plan_at-requires-clause-placed c =
    subst (λ (xs : List Placed). ArePlaced c.args.bits xs) (sym (c.deref-3.ensures.value ∙ c.in_ok-items.ensures))
    (block_placed c.laws_below.ensures c.args.rule c.args.bits c.args.ip c.args.taken.now.items.items
    (call_placed c.args.bits c.pushed_last-called.result _ c.pushed_last-called.ensures.value c.pushed_last-called.ensures.placed) c.requires.placed)

pub move_planned-requires : goal.move_planned-requires
move_planned-requires c =
    ap (λ (p : BlockPlan). length p.items) c.in_ok-plan.ensures
    ∙ (plan_count c.laws_below.ensures c.args.bits c.deref-3.result.now c.moved_count-count.result c.follow_count-follow.result c.args.place c.args.rule
    ∙ ap length (c.deref-3.ensures.value ∙ sym c.deref-4.ensures.value))

if_moved : (P : Type 0) (r : Result MovedLists PlanError) → P → IfOk r (λ _. P)
if_moved P (Ok m) p = p
if_moved P (Err why) p = tt

pub returns-clause-placed : goal.returns-clause-placed
returns-clause-placed c =
    if_moved (ArePlaced c.args.bits (block_items c.args.rule c.args.bits c.args.ip c.args.taken.now.items.items)) c.move_planned.result
    (block_placed c.laws_below.ensures c.args.rule c.args.bits c.args.ip c.args.taken.now.items.items
    (call_placed c.args.bits c.pushed_last-called.result _ c.pushed_last-called.ensures.value c.pushed_last-called.ensures.placed) c.requires.placed)
