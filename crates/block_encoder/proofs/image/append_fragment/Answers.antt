use Rattle.std.proofs.Common.{◌≡◌, [], ◌∷◌, List, sym, ap, subst, ◌∙◌}
use Rattle.x86_values.specs.declared.Instr.{Instr}
use Rattle.branch_sizes.specs.declared.plan.Form.TheVariants.{Itself, Short, Near}
use Rattle.move_goals.specs.MovedTargets.Targets.{with_target}
use Rattle.move_goals.specs.BranchForms.Images.{image_of}
use Rattle.block_encoder.proofs.Ready.{itself-image, fragment_single}
use Rattle.block_encoder.proofs.image.append_fragment.Goals as goal

pub returns-in-Itself : goal.returns-in-Itself
returns-in-Itself c =
    let i = c.args.instr.now in
    let fragment = c.args.fragment.now in
    let only : Instr → List Instr = λ x. x ∷ [] in
    let image = itself-image c.args.bits i fragment.place fragment.goal fragment.slot
    ∙ ap only (ap (λ g. with_target g i) (sym c.requires.goal) ∙ sym c.with_target.ensures) in
    fragment_single c.args.bits i c.with_target.result fragment Itself c.args.bytes.now.items c.append_single.new.bytes.items c.append_single.result
    c.in-Itself.is image c.append_single.ensures

pub returns-in-Short : goal.returns-in-Short
returns-in-Short c =
    let i = c.args.instr.now in
    let fragment = c.args.fragment.now in
    let image = subst (λ g. image_of c.args.bits i Short fragment.place g fragment.slot ≡ c.short_image.result ∷ []) c.requires.goal
    (c.short_image.ensures c.args.bits fragment.place fragment.slot) in
    fragment_single c.args.bits i c.short_image.result fragment Short c.args.bytes.now.items c.append_single-in-Short.new.bytes.items c.append_single-in-Short.result
    c.in-Short.is image c.append_single-in-Short.ensures

pub returns-in-Near : goal.returns-in-Near
returns-in-Near c =
    let i = c.args.instr.now in
    let fragment = c.args.fragment.now in
    let image = subst (λ g. image_of c.args.bits i Near fragment.place g fragment.slot ≡ c.near_image.result ∷ []) c.requires.goal
    (c.near_image.ensures c.args.bits fragment.place fragment.slot) in
    fragment_single c.args.bits i c.near_image.result fragment Near c.args.bytes.now.items c.append_single-in-Near.new.bytes.items c.append_single-in-Near.result
    c.in-Near.is image c.append_single-in-Near.ensures
