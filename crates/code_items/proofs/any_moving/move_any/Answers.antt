use Rattle.std.proofs.Common.{◌≡◌, List, length, Err, refl, sym, ap, ◌∙◌, subst}
use Rattle.std.proofs.lemmas.List.FromFn.{length-map-range_with_len}
use Rattle.branch_sizes.specs.Layout.{item_choice, place}
use Rattle.branch_sizes.specs.Plan.{BlockPlan}
use Rattle.code_items.specs.declared.any_items.AnyItem.{AnyItem}
use Rattle.code_items.specs.AnyItems.{any_at}
use Rattle.code_items.specs.AnyPlan.{any_target, any_goals, any_plan}
use Rattle.code_items.specs.AnyMoved.{IsMovedAnyBy, IsAnyPlanAnswer}
use Rattle.code_items.specs.declared.moving.MoveCodeError.{MoveCodeError}
use Rattle.code_items.specs.AnyWriting.{IsAnyMoveAnswer}
use Rattle.code_items.proofs.AnyPlanned.{inside-below}
use Rattle.code_items.proofs.AnyCode.{code-refused, of-lists}
use Rattle.code_items.proofs.any_moving.move_any.Goals as goal
use Rattle.code_items.proofs.any_moving.move_any.Goals.{In-Ok-move_by_plan}

pub move_by_plan-requires-clause-plan : goal.move_by_plan-requires-clause-plan
move_by_plan-requires-clause-plan c =
    let bits = c.args.bits in
    let items = c.deref-2.result.now in
    let same : c.deref.result.now ≡ items = c.deref.ensures.value ∙ sym c.deref-2.ensures.value in
    record {
      goals = any_goals bits items;
      new = c.args.new;
      is = c.in-Ok.ensures ∙ ap (λ (xs : List AnyItem). any_plan bits xs c.args.new) same;
      inside = λ k j lt e. inside-below c.laws_below.ensures bits items (any_target bits (any_at items k)) j e;
    }

-- the instructions are moved by the plan of their targets
moved : (c : In-Ok-move_by_plan) → IsMovedAnyBy c.args.bits c.args.items.items (any_plan c.args.bits c.args.items.items c.args.new) c.in-Ok-move_by_plan.block
moved c =
    let of : c.in-Ok.plan ≡ any_plan c.args.bits c.args.items.items c.args.new =
    c.in-Ok.ensures ∙ ap (λ (xs : List AnyItem). any_plan c.args.bits xs c.args.new) c.deref.ensures.value in
    subst (λ (p : BlockPlan). IsMovedAnyBy c.args.bits c.args.items.items p c.in-Ok-move_by_plan.block) of
    (subst (λ (xs : List AnyItem). IsMovedAnyBy c.args.bits xs c.in-Ok.plan c.in-Ok-move_by_plan.block) c.deref-2.ensures.value c.in-Ok-move_by_plan.ensures)

pub invariant_of-result : goal.invariant_of-result
invariant_of-result c =
    let m = moved c in
    let p = any_plan c.args.bits c.args.items.items c.args.new in
    record {
      starts = ap length m.starts ∙ length-map-range_with_len (place p m.layout) 0 (length c.args.items.items);
      forms = ap length m.forms ∙ length-map-range_with_len (λ k. (item_choice p m.layout k).form) 0 (length c.args.items.items);
    }

pub returns-in-Ok-move_by_plan : goal.returns-in-Ok-move_by_plan
returns-in-Ok-move_by_plan c =
    let m = moved (goal.at.returns-in-Ok-move_by_plan c).In-Ok-move_by_plan in
    (refl, of-lists c.args.bits c.args.items.items (any_plan c.args.bits c.args.items.items c.args.new) c.in-Ok-move_by_plan.block m)

pub returns-in-Err-move_by_plan : goal.returns-in-Err-move_by_plan
returns-in-Err-move_by_plan c =
    let of : c.in-Ok.plan ≡ any_plan c.args.bits c.args.items.items c.args.new =
    c.in-Ok.ensures ∙ ap (λ (xs : List AnyItem). any_plan c.args.bits xs c.args.new) c.deref.ensures.value in
    subst (λ (why : MoveCodeError). IsAnyMoveAnswer c.args.bits c.args.items.items c.args.new (Err why)) (sym c.code_error.ensures)
    (code-refused c.args.bits c.args.items.items c.args.new c.in-Err-move_by_plan.why
    (subst (λ (p : BlockPlan). IsAnyPlanAnswer c.args.bits c.args.items.items p (Err c.in-Err-move_by_plan.why)) of
    (subst (λ (xs : List AnyItem). IsAnyPlanAnswer c.args.bits xs c.in-Ok.plan (Err c.in-Err-move_by_plan.why)) c.deref-2.ensures.value c.in-Err-move_by_plan.ensures)))
