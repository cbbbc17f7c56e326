use Rattle.std.proofs.Common.{◌≡◌, None, sym, ◌∙◌, arith}
use Rattle.block_encoder.specs.declared.error.PlanError.TheVariants as error
use Rattle.code_items.specs.Items.{old_pass}
use Rattle.code_items.proofs.Answered.{old_end-refused, in_order, is_refused, is_moved, are_beside, none_told, refusal_is}
use Rattle.code_items.proofs.moving.move_code.Goals as goal

pub returns-in-Some : goal.returns-in-Some
returns-in-Some c =
    old_end-refused _ _ _ c.args.new c.in-Ok.code c.in-Ok.ensures c.blocks_have_all_items.ensures c.first_numbers_pass.ensures c.len-count.result c.len-count.ensures
    (omega arith) c.in-Some.end (sym c.old_pass.ensures ∙ c.in-Some.is)

pub move_ordered-requires-clause-order : goal.move_ordered-requires-clause-order
move_ordered-requires-clause-order c =
    let inside : old_pass c.args.bits c.args.old c.args.bytes.now ≡ None = sym c.old_pass.ensures ∙ none_told c.old_pass.result c.in_default.not-Some in
    in_order _ _ _ _ c.in-Ok.code c.in-Ok.ensures c.blocks_have_all_items.ensures c.first_numbers_pass.ensures inside

pub invariant_of-result : goal.invariant_of-result
invariant_of-result c = are_beside _ _ _ _ c.in-Ok-move_ordered.ensures

pub returns-in-Ok-move_ordered : goal.returns-in-Ok-move_ordered
returns-in-Ok-move_ordered c =
    let inside : old_pass c.args.bits c.args.old c.args.bytes.now ≡ None = sym c.old_pass.ensures ∙ none_told c.old_pass.result c.in_default.not-Some in
    is_moved _ _ _ c.args.new c.in-Ok.code c.in-Ok.ensures c.blocks_have_all_items.ensures c.first_numbers_pass.ensures inside _ c.in-Ok-move_ordered.ensures

pub returns-in-Err-Wraps : goal.returns-in-Err-Wraps
returns-in-Err-Wraps c =
    let inside : old_pass c.args.bits c.args.old c.args.bytes.now ≡ None = sym c.old_pass.ensures ∙ none_told c.old_pass.result c.in_default.not-Some in
    let told : c.in-Err-Wraps.field-0 ≡ error.Wraps c.in-Err-Wraps.end = cc in
    is_refused _ _ _ c.args.new c.in-Ok.code c.in-Ok.ensures c.blocks_have_all_items.ensures c.first_numbers_pass.ensures inside _
    (refusal_is _ _ _ _ _ _ c.move_ordered.ensures c.in-Err-Wraps.is told)

pub returns : goal.returns
returns c =
    let inside : old_pass c.args.bits c.args.old c.args.bytes.now ≡ None = sym c.old_pass.ensures ∙ none_told c.old_pass.result c.in_default.not-Some in
    let told : c.in-Err-TooFar.field-0 ≡ error.TooFar c.in-Err-TooFar.at c.in-Err-TooFar.target = cc in
    is_refused _ _ _ c.args.new c.in-Ok.code c.in-Ok.ensures c.blocks_have_all_items.ensures c.first_numbers_pass.ensures inside _
    (refusal_is _ _ _ _ _ _ c.move_ordered.ensures c.in-Err-TooFar.is told)
