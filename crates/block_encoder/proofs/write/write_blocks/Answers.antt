use Rattle.std.proofs.Common.{◌≡◌, ◌+◌, ◌-◌, ◌<◌, [], ◌∷◌, ◌++◌, length, arith, ap, sym, subst, ◌∙◌}
use Rattle.std.proofs.lemmas.Result.{err_from_is_err_and}
use Rattle.branch_sizes.specs.Layout.{span_at}
use Rattle.move_goals.specs.Items.{item_at}
use Rattle.move_goals.specs.Ready.{MayBeReady}
use Rattle.block_encoder.proofs.Writing.{item_step}
use Rattle.block_encoder.proofs.Steps.{ItemFacts, EndFacts, item_facts, item_refuses, end_facts, end_step, blocks_moved}
use Rattle.block_encoder.proofs.write.write_blocks.Goals as goal
use Rattle.block_encoder.proofs.write.write_blocks.Goals.{After-len-k, After-len-first}

-- what holds of the next item
item_here : (c : After-len-k) → ItemFacts c.args.items.now c.args.plan.now c.args.laid.now c.loop-b.b c.loop.counter c.len-k.result
item_here c =
    item_facts c.laws_below.ensures c.args.bits c.args.items.now c.args.plan.now c.args.laid.now c.spans-spans.ensures.plan c.requires.plan c.requires.laid c.requires.ends
    c.loop-b.b c.loop.counter c.loop.bytes.items c.loop.starts.items c.loop.forms.items c.loop-b.slots.items c.loop-b.ends.items
    (c.loop.invariant.written c.requires.laid.0 c.requires.laid.2) (omega (arith, c.loop-b-test.true, ap length c.spans-spans.ensures.spans))
    (omega (arith, c.loop-test.true, c.loop.invariant.count_is)) c.len-k.result (c.len-k.ensures ∙ c.loop.starts.ok.0)

-- what holds of the end of a block, whose items are written
end_here : (c : After-len-first) → EndFacts c.args.plan.now c.args.laid.now c.loop-b.b c.len-first.result c.index.result.now
end_here c =
    end_facts c.laws_below.ensures c.args.bits c.args.items.now c.args.plan.now c.args.laid.now c.spans-spans.ensures.plan c.requires.plan c.requires.laid c.requires.ends
    c.loop-b.b c.loop.counter c.loop.bytes.items c.loop.starts.items c.loop.forms.items c.loop-b.slots.items c.loop-b.ends.items
    (c.loop.invariant.written c.requires.laid.0 c.requires.laid.2) (omega (arith, c.loop-b-test.true, ap length c.spans-spans.ensures.spans))
    (omega (arith, c.loop-test.false, c.loop.auto.counter-end, c.loop.invariant.count_is)) c.len-first.result (c.len-first.ensures ∙ c.loop-b.slots.ok.0)
    c.index.result.now c.index.ensures

pub index-fragment-requires : goal.index-fragment-requires
index-fragment-requires c =
    let f = item_here (goal.at.index-fragment-requires c).After-len-k in
    omega (arith, f.in_fragments, c.args.laid.now.fragments.ok.0)

pub offset_bounds-items-k : goal.offset_bounds-items-k
offset_bounds-items-k c =
    let f = item_here (goal.at.offset_bounds-items-k c).After-len-k in
    omega (arith, f.small)

pub bounds-items-k : goal.bounds-items-k
bounds-items-k c =
    let f = item_here (goal.at.bounds-items-k c).After-len-k in
    f.in_items

pub offset_bounds-branches-k : goal.offset_bounds-branches-k
offset_bounds-branches-k c =
    let f = item_here (goal.at.offset_bounds-branches-k c).After-len-k in
    omega (arith, f.small)

pub bounds-branches-k : goal.bounds-branches-k
bounds-branches-k c =
    let f = item_here (goal.at.bounds-branches-k c).After-len-k in
    omega (arith, f.in_plan, ap length c.items-branches.ensures)

pub write_item-requires-clause-fragment : goal.write_item-requires-clause-fragment
write_item-requires-clause-fragment c =
    let f = item_here (goal.at.write_item-requires-clause-fragment c).After-len-k in
    f.fragment_for c.index-fragment.result.now c.index-branches-k.result c.index-fragment.ensures (rw c.items-branches.ensures at c.index-branches-k.is)

pub write_item-requires-clause-ready : goal.write_item-requires-clause-ready
write_item-requires-clause-ready c =
    subst (λ bytes. MayBeReady c.args.bits (item_at c.args.items.now c.len-k.result).instr bytes) (sym c.ready_of-own.ensures)
    (c.requires.ready c.len-k.result)

pub returns-in_err-write_item : goal.returns-in_err-write_item
returns-in_err-write_item c =
    let bl : c.loop-b.b < length c.args.plan.now.spans = omega (arith, c.loop-b-test.true, ap length c.spans-spans.ensures.spans) in
    let f = item_here (goal.at.returns-in_err-write_item c).After-len-k in
    let p = err_from_is_err_and c.from_residual-in_err-write_item.result c.from_residual-in_err-write_item.ensures.1 in
    rw (p.1, p.2)
    (item_refuses c.laws_below.ensures c.args.bits c.args.items.now c.args.plan.now c.args.laid.now c.spans-spans.ensures.plan c.requires.plan c.requires.laid c.requires.ends
    c.loop-b.b c.loop.counter c.loop.bytes.items c.loop.starts.items c.loop.forms.items c.loop-b.slots.items c.loop-b.ends.items
    (c.loop.invariant.written c.requires.laid.0 c.requires.laid.2) bl c.len-k.result f c.index-fragment.result.now c.index-fragment.ensures
    c.loop.bytes.items c.write_item.new.bytes.items c.in_err-write_item.field-0.0 c.in_err-write_item.ensures)

pub overflow_cast-fragment : goal.overflow_cast-fragment
overflow_cast-fragment c =
    let f = item_here (goal.at.overflow_cast-fragment c).After-len-k in
    let s = f.fragment_for c.index-fragment.result.now c.index-branches-k.result c.index-fragment.ensures (rw c.items-branches.ensures at c.index-branches-k.is) in
    omega (arith, s.place)

pub loop-preserved : goal.loop-preserved
loop-preserved c =
    let f = item_here (goal.at.loop-preserved c).After-len-k in
    record {
      count_is = c.loop.invariant.count_is;
      written = λ layout is.
          item_step c.args.bits c.args.items.now c.args.plan.now layout c.loop-b.b c.loop.counter
          c.loop.bytes.items c.loop.starts.items c.loop.forms.items c.loop-b.slots.items c.loop-b.ends.items (c.loop.invariant.written layout is)
          c.len-k.result f.at c.index-fragment.result.now (f.fragment_is c.index-fragment.result.now c.index-fragment.ensures ∙ is.fragments c.len-k.result f.in_plan)
          c.write_item.new.bytes.items c.push.new.self.items c.push-in-loop.new.self.items
          c.in_ok-write_item.ensures.0 c.in_ok-write_item.ensures.1 c.in_ok-push.ensures.items c.in_ok-push-2.ensures.items;
    }

pub overflow_add-goals : goal.overflow_add-goals
overflow_add-goals c =
    let f = end_here (goal.at.overflow_add-goals c).After-len-first in
    omega (arith, f.few)

pub offset_bounds-deref-first : goal.offset_bounds-deref-first
offset_bounds-deref-first c =
    let f = end_here (goal.at.offset_bounds-deref-first c).After-len-first in
    omega (arith, f.few)

pub slice_bounds-goals-end : goal.slice_bounds-goals-end
slice_bounds-goals-end c =
    let f = end_here (goal.at.slice_bounds-goals-end c).After-len-first in
    omega (arith, f.fits, ap length c.deref-in-loop-b.ensures.value)

pub write_end-requires-clause-images : goal.write_end-requires-clause-images
write_end-requires-clause-images c =
    let f = end_here (goal.at.write_end-requires-clause-images c).After-len-first in
    f.images

pub write_end-requires-clause-goals : goal.write_end-requires-clause-goals
write_end-requires-clause-goals c =
    let f = end_here (goal.at.write_end-requires-clause-goals c).After-len-first in
    f.goals c.deref-in-loop-b.result.now (c.len-first.result + c.index.result.now.slots - c.len-first.result)
    c.deref-in-loop-b.ensures.value (omega arith)

pub loop-b-preserved : goal.loop-b-preserved
loop-b-preserved c =
    let bl : c.loop-b.b < length c.args.plan.now.spans = omega (arith, c.loop-b-test.true, ap length c.spans-spans.ensures.spans) in
    let whole : (span_at c.args.plan.now.spans c.loop-b.b).count ≡ c.loop.counter =
    omega (arith, c.loop-test.false, c.loop.auto.counter-end, c.loop.invariant.count_is) in
    let f = end_facts c.laws_below.ensures c.args.bits c.args.items.now c.args.plan.now c.args.laid.now c.spans-spans.ensures.plan c.requires.plan c.requires.laid c.requires.ends
    c.loop-b.b c.loop.counter c.loop.bytes.items c.loop.starts.items c.loop.forms.items c.loop-b.slots.items c.loop-b.ends.items
    (c.loop.invariant.written c.requires.laid.0 c.requires.laid.2) bl whole c.len-first.result (c.len-first.ensures ∙ c.loop-b.slots.ok.0)
    c.index.result.now c.index.ensures in
    λ layout is.
    end_step c.laws_below.ensures c.args.bits c.args.items.now c.args.plan.now c.args.laid.now layout is c.loop-b.b c.loop.counter
    c.loop.bytes.items c.loop.starts.items c.loop.forms.items c.loop-b.slots.items c.loop-b.ends.items (c.loop.invariant.written layout is) bl whole
    c.len-first.result (c.len-first.ensures ∙ c.loop-b.slots.ok.0) c.index.result.now f.end_is
    c.deref-in-loop-b.result.now (c.len-first.result + c.index.result.now.slots - c.len-first.result)
    c.deref-in-loop-b.ensures.value (omega arith) c.write_end.new.bytes.items c.write_end.new.slots.items c.push-in-loop-b.new.self.items
    c.in_ok-write_end.ensures.bytes c.in_ok-write_end.ensures.slots
    (c.in_ok-push-3.ensures.items ∙ ap (λ n. c.loop-b.ends.items ++ n ∷ []) (c.len-in-loop-b.ensures ∙ c.write_end.new.bytes.ok.0))

pub returns : goal.returns
returns c =
    blocks_moved c.laws_below.ensures c.args.bits c.args.items.now c.args.plan.now c.args.laid.now c.spans-spans.ensures.plan c.requires.plan c.requires.laid c.requires.ends
    c.loop-b.b (omega (arith, c.loop-b-test.false, c.loop-b.auto.b-end, ap length c.spans-spans.ensures.spans))
    _ (c.loop-b.invariant c.requires.laid.0 c.requires.laid.2)
