use Rattle.std.proofs.Common.{ap, length, ◌∙◌}
use Rattle.c_calls.proofs.BlockPlaces.{starts_of_moved, forms_of_moved, ends_of_moved}
use Rattle.c_calls.proofs.BlockAnswers.{too_far_in}
use Rattle.c_calls.proofs.moved_blocks.move_read.Goals as goal

pub entries_of-requires-clause-starts : goal.entries_of-requires-clause-starts
entries_of-requires-clause-starts c =
    ap length c.starts.ensures ∙ starts_of_moved c.args.bits c.args.spans.now c.args.items.now c.in-Ok.moved c.in-Ok.ensures.answer

pub entries_of-requires-clause-forms : goal.entries_of-requires-clause-forms
entries_of-requires-clause-forms c =
    ap length c.forms.ensures ∙ forms_of_moved c.args.bits c.args.spans.now c.args.items.now c.in-Ok.moved c.in-Ok.ensures.answer

pub places_of-requires-clause-starts : goal.places_of-requires-clause-starts
places_of-requires-clause-starts c = starts_of_moved c.args.bits c.args.spans.now c.args.items.now c.in-Ok.moved c.in-Ok.ensures.answer

pub places_of-requires-clause-forms : goal.places_of-requires-clause-forms
places_of-requires-clause-forms c = forms_of_moved c.args.bits c.args.spans.now c.args.items.now c.in-Ok.moved c.in-Ok.ensures.answer

pub places_of-requires-clause-ends : goal.places_of-requires-clause-ends
places_of-requires-clause-ends c = ends_of_moved c.args.bits c.args.spans.now c.args.items.now c.in-Ok.moved c.in-Ok.ensures.answer

pub returns-in-Err-TooFar : goal.returns-in-Err-TooFar
returns-in-Err-TooFar c =
    let told = rw c.in-Err-TooFar.field-0-is at c.in-Err-TooFar.ensures.answer in
    let said = rw c.in-Err-TooFar.field-0-is at c.too_far.ensures in
    too_far_in c.args.bits c.args.spans.now c.args.items.now c.in-Err-TooFar.at c.in-Err-TooFar.target c.too_far.result told said
