use Rattle.std.proofs.Common.{◌≡◌, List, length, sym, ap, ◌∙◌, subst}
use Rattle.branch_sizes.specs.Plan.{BlockPlan}
use Rattle.move_goals.specs.declared.items.Placed.{Placed}
use Rattle.block_encoder.specs.ByPlan.{IsMovedBy}
use Rattle.code_items.specs.AnyWriting.{stand_ins}
use Rattle.code_items.proofs.AnyAnswered.{plan-count, count-same}
use Rattle.code_items.proofs.AnyCode.{moved-items, refused}
use Rattle.code_items.proofs.any_block.move_by_plan.Goals as goal

pub move_planned-requires : goal.move_planned-requires
move_planned-requires c =
    let of = c.requires.plan in
    let are : c.deref.result.now ≡ stand_ins c.in-Some.filler c.args.items.now = c.deref.ensures.value ∙ c.in-Ok.ensures in
    ap (λ (p : BlockPlan). length p.items) of.is
    ∙ (plan-count c.args.bits c.args.items.now of.goals of.new ∙ (sym (count-same c.in-Some.filler c.args.items.now) ∙ sym (ap length are)))

pub returns-in-Ok-write_items : goal.returns-in-Ok-write_items
returns-in-Ok-write_items c =
    let are : c.deref-in-Ok-move_planned.result.now ≡ stand_ins c.in-Some.filler c.args.items.now = c.deref-in-Ok-move_planned.ensures.value ∙ c.in-Ok.ensures in
    let again : c.deref.result.now ≡ c.deref-in-Ok-move_planned.result.now = c.deref.ensures.value ∙ sym c.deref-in-Ok-move_planned.ensures.value in
    moved-items c.args.bits c.args.items.now c.deref-in-Ok-move_planned.result.now c.args.plan.now c.in-Some.filler are c.requires.plan
    c.in-Ok-move_planned.moved c.in-Ok-write_items.bytes.items
    (subst (λ (xs : List Placed). IsMovedBy c.args.bits xs c.args.plan.now c.in-Ok-move_planned.moved) again c.in-Ok-move_planned.ensures)
    (λ h. c.in-Ok-write_items.ensures h)

pub returns : goal.returns
returns c =
    let are : c.deref.result.now ≡ stand_ins c.in-Some.filler c.args.items.now = c.deref.ensures.value ∙ c.in-Ok.ensures in
    refused c.args.bits c.args.items.now c.deref.result.now c.args.plan.now c.in-Some.filler are c.requires.plan
    c.laws_below.ensures.targets c.in-Some.ensures c.in-Err.why c.in-Err.ensures
