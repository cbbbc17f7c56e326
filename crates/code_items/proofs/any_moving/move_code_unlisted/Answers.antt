use Rattle.std.proofs.Common.{◌≡◌, None, sym, ◌∙◌, arith}
use Rattle.code_items.specs.Items.{old_pass}
use Rattle.code_items.proofs.Answered.{none_told}
use Rattle.code_items.proofs.AnyCode.{old_end-refused, list-ascends, list-sound, answered}
use Rattle.code_items.proofs.any_moving.move_code_unlisted.Goals as goal

pub returns-in-Some : goal.returns-in-Some
returns-in-Some c =
    old_end-refused _ _ _ c.in-Ok.items.items c.in-Ok.ensures c.args.new c.len-count.result (c.len-count.ensures ∙ c.in-Ok.items.ok.0) (omega arith) c.in-Some.end
    (sym c.old_pass.ensures ∙ c.in-Some.is)

pub move_any-requires-clause-ascend : goal.move_any-requires-clause-ascend
move_any-requires-clause-ascend c =
    let inside : old_pass c.args.bits c.args.old c.args.bytes.now ≡ None = sym c.old_pass.ensures ∙ none_told c.old_pass.result c.in_default.not-Some in
    list-ascends _ _ _ c.in-Ok.items.items c.in-Ok.ensures inside

pub move_any-requires-clause-sound : goal.move_any-requires-clause-sound
move_any-requires-clause-sound c =
    let inside : old_pass c.args.bits c.args.old c.args.bytes.now ≡ None = sym c.old_pass.ensures ∙ none_told c.old_pass.result c.in_default.not-Some in
    list-sound _ _ _ c.in-Ok.items.items c.in-Ok.ensures inside

pub returns : goal.returns
returns c =
    let inside : old_pass c.args.bits c.args.old c.args.bytes.now ≡ None = sym c.old_pass.ensures ∙ none_told c.old_pass.result c.in_default.not-Some in
    answered _ _ _ c.in-Ok.items.items c.in-Ok.ensures inside c.args.new (omega arith) c.move_any.result c.move_any.ensures
