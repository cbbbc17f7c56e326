use Rattle.std.proofs.Common.{sym, ◌∙◌, arith}
use Rattle.branch_sizes.specs.declared.plan.Form.TheVariants.{Itself, Short, Near, Far, Bridge, FarBridge}
use Rattle.move_goals.proofs.BranchForms.Sized.{is-in-range, itself-form, short-form, near-form, far_condition-form, far_other-form, bridge-form, far_bridge-form, sized, short-told}
use Rattle.move_goals.proofs.branch_forms.form_lengths.branch_length.Goals as goal

pub returns-in-Itself : goal.returns-in-Itself
returns-in-Itself c =
    sized c.laws_below.ensures c.args.bits c.args.instr.now c.args.branch c.args.form Itself c.plain_length.result c.requires c.in-Itself.is
    (c.plain_length.ensures.value ∙ sym (itself-form c.args.bits c.args.instr.now c.args.branch))

pub returns-in-Short : goal.returns-in-Short
returns-in-Short c =
    let range = is-in-range c.laws_below.ensures c.args.instr.now c.args.branch c.requires in
    sized c.laws_below.ensures c.args.bits c.args.instr.now c.args.branch c.args.form Short c.short_bytes-short.result c.requires c.in-Short.is
    (short-told c.args.bits c.args.instr.now c.args.branch _ _ c.counter_size-asize.ensures c.short_bytes-short.ensures.value
    ∙ sym (short-form c.args.bits c.args.instr.now c.args.branch range))

pub returns-in-Near : goal.returns-in-Near
returns-in-Near c =
    let range = is-in-range c.laws_below.ensures c.args.instr.now c.args.branch c.requires in
    sized c.laws_below.ensures c.args.bits c.args.instr.now c.args.branch c.args.form Near c.near_bytes.result c.requires c.in-Near.is
    (c.near_bytes.ensures.value ∙ sym (near-form c.args.bits c.args.instr.now c.args.branch range))

pub returns-in-Condition : goal.returns-in-Condition
returns-in-Condition c =
    let range = is-in-range c.laws_below.ensures c.args.instr.now c.args.branch c.requires in
    let short = short-told c.args.bits c.args.instr.now c.args.branch _ _ c.counter_size-asize.ensures c.short_bytes-short.ensures.value in
    sized c.laws_below.ensures c.args.bits c.args.instr.now c.args.branch c.args.form Far _ c.requires c.in-Far.is
    (omega (arith, short, c.slot_bytes.ensures.value, far_condition-form c.args.bits c.args.instr.now c.in-Condition.field-0 c.args.branch c.in-Condition.is range))

pub returns-in_default : goal.returns-in_default
returns-in_default c =
    sized c.laws_below.ensures c.args.bits c.args.instr.now c.args.branch c.args.form Far c.slot_bytes-in_default.result c.requires c.in-Far.is
    (c.slot_bytes-in_default.ensures.value ∙ sym (far_other-form c.args.bits c.args.instr.now c.args.branch c.in_default.not-Condition))

pub returns-in-Bridge : goal.returns-in-Bridge
returns-in-Bridge c =
    let range = is-in-range c.laws_below.ensures c.args.instr.now c.args.branch c.requires in
    let short = short-told c.args.bits c.args.instr.now c.args.branch _ _ c.counter_size-asize.ensures c.short_bytes-short.ensures.value in
    sized c.laws_below.ensures c.args.bits c.args.instr.now c.args.branch c.args.form Bridge _ c.requires c.in-Bridge.is
    (omega (arith, short, c.near_bytes-in-Bridge.ensures.value, bridge-form c.args.bits c.args.instr.now c.args.branch range))

pub returns-in-FarBridge : goal.returns-in-FarBridge
returns-in-FarBridge c =
    let range = is-in-range c.laws_below.ensures c.args.instr.now c.args.branch c.requires in
    let short = short-told c.args.bits c.args.instr.now c.args.branch _ _ c.counter_size-asize.ensures c.short_bytes-short.ensures.value in
    sized c.laws_below.ensures c.args.bits c.args.instr.now c.args.branch c.args.form FarBridge _ c.requires c.in-FarBridge.is
    (omega (arith, short, c.slot_bytes-in-FarBridge.ensures.value, far_bridge-form c.args.bits c.args.instr.now c.args.branch range))
