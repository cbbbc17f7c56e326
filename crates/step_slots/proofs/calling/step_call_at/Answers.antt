use Rattle.std.proofs.Common.{◌≤◌, Result, length, sym, subst}
use Rattle.std.specs.Prelude.{IfOk}
use Rattle.block_encoder.specs.Moved.{MovedLists}
use Rattle.block_encoder.specs.PushedCalls.Items.{items_in}
use Rattle.step_slots.specs.declared.calling.CallError.{CallError}
use Rattle.step_slots.specs.Calling.{IsCallStood, BeginsWithPush}
use Rattle.step_slots.proofs.Called.{call-stood, call-short, call-begins}
use Rattle.step_slots.proofs.calling.step_call_at.Goals as goal

pub returns-in-Some-clause-answer : goal.returns-in-Some-clause-answer
returns-in-Some-clause-answer c =
    let items = items_in c.in-Some.call in
    subst (λ (r : Result MovedLists CallError). IsCallStood c.args.bits c.args.item c.args.place r) (sym c.call_answer.ensures)
    (call-stood c.args.bits c.args.item c.args.place items (sym c.in-Some.ensures.value) c.move_call.result c.move_call.ensures)

pub returns-in-Some-clause-begins : goal.returns-in-Some-clause-begins
returns-in-Some-clause-begins c =
    let items = items_in c.in-Some.call in
    subst (λ (r : Result MovedLists CallError). IfOk r (λ (moved : MovedLists). BeginsWithPush c.args.bits c.args.place moved)) (sym c.call_answer.ensures)
    (call-begins c.calls_below.ensures c.args.bits c.args.item c.args.place items (sym c.in-Some.ensures.value) c.in-Some.ensures.placed c.in-Some.ensures.few
    c.move_call.result c.move_call.ensures)

pub returns-in-Some-clause-short : goal.returns-in-Some-clause-short
returns-in-Some-clause-short c =
    let items = items_in c.in-Some.call in
    subst (λ (r : Result MovedLists CallError). IfOk r (λ (moved : MovedLists). length moved.bytes ≤ 43)) (sym c.call_answer.ensures)
    (call-short c.calls_below.ensures c.args.bits c.args.item c.args.place items (sym c.in-Some.ensures.value) c.in-Some.ensures.placed c.in-Some.ensures.few
    c.move_call.result c.move_call.ensures)
