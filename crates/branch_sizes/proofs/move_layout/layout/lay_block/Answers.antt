use Rattle.std.proofs.Common.{◌≡◌, ◌+◌, ◌++◌, length, arith, sym, subst, ap, ◌∙◌}
use Rattle.branch_sizes.specs.Layout.{first_of_block}
use Rattle.branch_sizes.specs.MoveLayout.Laid.{far_goals, with_goal, is_far_at, goal_address, next_eighth, slots_of, slots_start, fragment_at}
use Rattle.branch_sizes.specs.MoveLayout.Tables.{plan_in, AreFragments}
use Rattle.branch_sizes.proofs.MoveLayout.Standing.{item-below}
use Rattle.branch_sizes.proofs.MoveLayout.Blocks.{push_fragment, far_more, fragment_is, end_is}
use Rattle.branch_sizes.proofs.move_layout.layout.lay_block.Goals as goal

pub fragment_of-requires-clause-item : goal.fragment_of-requires-clause-item
fragment_of-requires-clause-item c =
    item-below c.blocks_have_all_items.ensures c.totals_rise.ensures (plan_in c.args.tables.now) c.args.tables.now.plan c.args.tables.now.layout.now c.args.b c.items.counter c.len-in-items.result
    c.requires.block c.items-test.true (omega (arith, c.len-in-items.ensures, c.items.invariant.fragments.len))

pub items-preserved : goal.items-preserved
items-preserved c =
    let t = c.args.tables.now in
    let p = plan_in t in
    let first = first_of_block t.spans.now c.args.b in
    let at : c.len-in-items.result ≡ first + c.items.counter = omega (arith, c.len-in-items.ensures, c.items.invariant.fragments.len) in
    let start : c.next_multiple_of_8-start.result ≡ slots_start p t.layout.now c.args.b =
    c.next_multiple_of_8-start.ensures.value ∙ ap next_eighth c.images_end_of-images.ensures.value in
    let goals : c.fragment_of.new.goals.items ≡ far_goals p t.layout.now first (c.items.counter + 1) =
    c.in_ok-fragment.ensures.goals
    ∙ (ap (λ xs. with_goal xs (is_far_at p t.layout.now c.len-in-items.result) (goal_address p t.layout.now c.len-in-items.result)) c.items.invariant.goals
    ∙ sym (far_more p t.layout.now first c.items.counter c.len-in-items.result at)) in
    let fragment : c.in_ok-fragment.fragment ≡ fragment_at p t.layout.now (first + c.items.counter) =
    (c.in_ok-fragment.ensures.fragment
    ∙ fragment_is c.blocks_have_all_items.ensures p t.layout.now c.args.b c.items.counter c.len-in-items.result c.next_multiple_of_8-start.result c.fragment_of.new.goals.items
    c.requires.block c.items-test.true at start goals)
    ∙ ap (fragment_at p t.layout.now) at in
    let one : first + c.items.counter + 1 ≡ first + (c.items.counter + 1) = omega arith in
    record {
      count_is = c.items.invariant.count_is;
      numbering = c.in_ok-fragment.ensures.numbering;
      goals = goals;
      fragments = subst (λ n. AreFragments p t.layout.now n c.push.new.self.items) one
          (push_fragment p t.layout.now (first + c.items.counter) c.items.fragments.items c.push.new.self.items c.in_ok-fragment.fragment
          c.items.invariant.fragments c.in_ok-push.ensures.items fragment);
    }

pub returns-clause-slots : goal.returns-clause-slots
unfolding slots_of
returns-clause-slots c =
    let t = c.args.tables.now in
    let all : c.items.goals.items ≡ slots_of (plan_in t) t.layout.now c.args.b =
    c.items.invariant.goals
    ∙ ap (far_goals (plan_in t) t.layout.now (first_of_block t.spans.now c.args.b)) (omega (arith, c.items-test.false, c.items.auto.counter-end, c.items.invariant.count_is)) in
    c.in_ok-extend_from_slice.ensures.items ∙ ap (λ xs. c.args.slots.now.items ++ xs) (c.deref.ensures.value ∙ all)

pub returns-clause-end : goal.returns-clause-end
unfolding slots_of
returns-clause-end c =
    let t = c.args.tables.now in
    let all : c.items.goals.items ≡ slots_of (plan_in t) t.layout.now c.args.b =
    c.items.invariant.goals
    ∙ ap (far_goals (plan_in t) t.layout.now (first_of_block t.spans.now c.args.b)) (omega (arith, c.items-test.false, c.items.auto.counter-end, c.items.invariant.count_is)) in
    end_is (plan_in t) t.layout.now c.args.b c.images_end_of-images.result c.next_multiple_of_8-start.result c.len-count.result c.block_end.result
    c.images_end_of-images.ensures.value
    (c.next_multiple_of_8-start.ensures.value ∙ ap next_eighth c.images_end_of-images.ensures.value)
    (omega (arith, c.len-count.ensures, ap length all)) c.block_end.ensures
