use Rattle.std.proofs.Common.{rules, arith, length}
use Rattle.code_region.proofs.Placed.{placed-refused, answer-empty, answer-many, answer-found, answer-full, rounded-some, fit-same, full-same, fit-inserts, kept-insert, state-insert}
use Rattle.code_region.proofs.blocks.Region.place.Goals as goal

pub returns-then-len-eq0-clause-answer : goal.returns-then-len-eq0-clause-answer
returns-then-len-eq0-clause-answer c = answer-empty _ _ c.if-len-eq0.true

pub returns-then-len-eq0-clause-state : goal.returns-then-len-eq0-clause-state
returns-then-len-eq0-clause-state c = placed-refused _ _ _ (answer-empty c.args.self.now c.args.len c.if-len-eq0.true)

pub returns-then-len-self-clause-answer : goal.returns-then-len-self-clause-answer
returns-then-len-self-clause-answer c =
    let f = c.self.inside in
    answer-many f.base f.max_blocks f.bytes.items f.spans.items c.args.self.now c.args.len c.self.view_is c.if-len-eq0.false (omega arith)

pub returns-then-len-self-clause-state : goal.returns-then-len-self-clause-state
returns-then-len-self-clause-state c =
    let f = c.self.inside in
    placed-refused _ _ _ (answer-many f.base f.max_blocks f.bytes.items f.spans.items c.args.self.now c.args.len c.self.view_is c.if-len-eq0.false (omega arith))

pub first_fit-requires-clause-some : goal.first_fit-requires-clause-some
first_fit-requires-clause-some c = rounded-some c.args.len c.round_up-needed.result c.round_up-needed.ensures c.if-len-eq0.false

pub overflow_cast-span : goal.overflow_cast-span
overflow_cast-span c =
    let f = c.self.inside in
    let fit = fit-same _ (length f.bytes.items) _ f.spans.items c.round_up-needed.result c.in-Found.index c.in-Found.start c.in-Found.packed (omega arith) c.deref.ensures.value (c.in-Found.ensures {u = tt}) in
    let some = rounded-some c.args.len c.round_up-needed.result c.round_up-needed.ensures c.if-len-eq0.false in
    let inside = (fit-inserts f.base f.max_blocks f.bytes.items f.spans.items _ _ _ _ _ c.self.invariant.0 some fit).inside in
    search rules

pub overflow_add-result : goal.overflow_add-result
overflow_add-result c =
    let f = c.self.inside in
    let fit = fit-same _ (length f.bytes.items) _ f.spans.items c.round_up-needed.result c.in-Found.index c.in-Found.start c.in-Found.packed (omega arith) c.deref.ensures.value (c.in-Found.ensures {u = tt}) in
    let some = rounded-some c.args.len c.round_up-needed.result c.round_up-needed.ensures c.if-len-eq0.false in
    let inside = (fit-inserts f.base f.max_blocks f.bytes.items f.spans.items _ _ _ _ _ c.self.invariant.0 some fit).inside in
    search rules

pub invariant_of-self : goal.invariant_of-self
invariant_of-self c =
    let f = c.self.inside in
    let fit = fit-same _ (length f.bytes.items) _ f.spans.items c.round_up-needed.result c.in-Found.index c.in-Found.start c.in-Found.packed (omega arith) c.deref.ensures.value (c.in-Found.ensures {u = tt}) in
    let some = rounded-some c.args.len c.round_up-needed.result c.round_up-needed.ensures c.if-len-eq0.false in
    rw c.insert_span.ensures.items (
      kept-insert f.base f.max_blocks f.bytes.items f.spans.items _ _ _ _ _ _ c.self.invariant.0 some (λ e. absurd (omega arith)) c.insert_span.ensures.capacity fit,
      fit.tight,
    )

pub returns-in-Found-clause-answer : goal.returns-in-Found-clause-answer
returns-in-Found-clause-answer c =
    let f = c.self.inside in
    let fit = fit-same _ (length f.bytes.items) _ f.spans.items c.round_up-needed.result c.in-Found.index c.in-Found.start c.in-Found.packed (omega arith) c.deref.ensures.value (c.in-Found.ensures {u = tt}) in
    rw c.from.ensures (answer-found f.base f.max_blocks f.bytes.items f.spans.items c.args.self.now c.args.len _ _ _ _ c.self.view_is c.if-len-eq0.false (λ e. absurd (omega arith)) c.round_up-needed.ensures fit)

pub returns-in-Found-clause-state : goal.returns-in-Found-clause-state
returns-in-Found-clause-state c =
    let f = c.self.inside in
    let fit = fit-same _ (length f.bytes.items) _ f.spans.items c.round_up-needed.result c.in-Found.index c.in-Found.start c.in-Found.packed (omega arith) c.deref.ensures.value (c.in-Found.ensures {u = tt}) in
    rw c.insert_span.ensures.items
    (state-insert f.base f.max_blocks f.bytes.items f.spans.items c.args.self.now _ c.args.len _ _ _ _ c.self.view_is c.self.invariant.0 c.if-len-eq0.false (λ e. absurd (omega arith)) c.round_up-needed.ensures fit)

pub returns-in-Missing-clause-answer : goal.returns-in-Missing-clause-answer
returns-in-Missing-clause-answer c =
    let f = c.self.inside in
    let full = full-same _ (length f.bytes.items) _ f.spans.items c.round_up-needed.result c.in-Missing.largest (omega arith) c.deref.ensures.value (c.in-Missing.ensures {u = tt}) in
    rw c.from-in-Missing.ensures
    (answer-full f.base f.max_blocks f.bytes.items f.spans.items c.args.self.now c.args.len _ _ c.self.view_is c.if-len-eq0.false (λ e. absurd (omega arith)) c.round_up-needed.ensures full)

pub returns-in-Missing-clause-state : goal.returns-in-Missing-clause-state
returns-in-Missing-clause-state c =
    let f = c.self.inside in
    let full = full-same _ (length f.bytes.items) _ f.spans.items c.round_up-needed.result c.in-Missing.largest (omega arith) c.deref.ensures.value (c.in-Missing.ensures {u = tt}) in
    placed-refused _ _ _
    (answer-full f.base f.max_blocks f.bytes.items f.spans.items c.args.self.now c.args.len _ _ c.self.view_is c.if-len-eq0.false (λ e. absurd (omega arith)) c.round_up-needed.ensures full)
