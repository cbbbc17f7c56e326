use Rattle.std.proofs.Common.{◌≡◌, ◌+◌, ◌-◌, Bool, ℕ, List, length, arith, sym, ap, ◌∙◌}
use Rattle.branch_sizes.specs.declared.plan.Choice.{Choice}
use Rattle.branch_sizes.specs.Layout.{total, image_length}
use Rattle.move_goals.specs.Items.{item_at}
use Rattle.move_goals.specs.Plan.{plan_outside}
use Rattle.branch_sizes.specs.MoveLayout.Laid.{has_far_form, with_goal, far_goals}
use Rattle.block_encoder.specs.Last.{last_choice, last_layout}
use Rattle.block_encoder.proofs.LastForms.{images-next, goals-next, last-small, last-bound, last-is}
use Rattle.block_encoder.proofs.last.last_len.Goals as goal

pub overflow_add-images : goal.overflow_add-images
overflow_add-images c =
    let small = last-small c.laws_below.ensures c.args.bits c.args.items.now c.args.new_base c.requires.placed c.requires.few c.items.k in
    omega (arith, small, c.items.invariant.images_is, c.items-test.true, c.requires.few, c.ranges.new_base.fits)

pub items-preserved : goal.items-preserved
items-preserved c =
    let bits = c.args.bits in
    let items = c.args.items.now in
    let p = plan_outside bits items c.args.new_base in
    let goals = far_goals p (last_layout p) 0 c.items.k in
    let form = c.last_choice_at-choice.ensures in
    record {
      images_is = omega (arith, c.items.invariant.images_is, images-next c.laws_below.ensures bits items c.args.new_base c.items.k c.items-test.true, ap (λ (x : Choice). x.len) form);
      goals_is = c.add_goal.ensures
          ∙ (ap (λ (xs : List ℕ). with_goal xs c.is_far_form.result c.kept_target.result) c.items.invariant.goals_is
          ∙ (ap (λ (f : Bool). with_goal goals f c.kept_target.result) (c.is_far_form.ensures ∙ ap (λ (x : Choice). has_far_form x.form) form)
          ∙ (ap (with_goal goals (has_far_form (last_choice bits (item_at items c.items.k).instr).form)) c.kept_target.ensures
          ∙ sym (goals-next c.laws_below.ensures bits items c.args.new_base c.items.k c.items-test.true))));
    }

pub next_multiple_of_8-requires : goal.next_multiple_of_8-requires
next_multiple_of_8-requires c =
    let small = last-small c.laws_below.ensures c.args.bits c.args.items.now c.args.new_base c.requires.placed c.requires.few c.items.k in
    omega (arith, small, c.items.invariant.images_is, c.items.auto.k-end, c.requires.few, c.ranges.new_base.fits)

pub overflow_cast-result : goal.overflow_cast-result
overflow_cast-result c =
    let items = c.args.items.now in
    let p = plan_outside c.args.bits items c.args.new_base in
    let all : c.items.k ≡ length items = omega (arith, c.items-test.false, c.items.auto.k-end) in
    let images = c.items.invariant.images_is ∙ ap (λ (n : ℕ). c.args.new_base + total (image_length p (last_layout p)) n) all in
    let goals = c.items.invariant.goals_is ∙ ap (far_goals p (last_layout p) 0) all in
    let value = last-is c.laws_below.ensures c.args.bits items c.args.new_base c.items.images c.next_multiple_of_8.result c.len.result c.block_end-end.result images
    (c.len.ensures.value ∙ ap length goals) c.next_multiple_of_8.ensures.value c.block_end-end.ensures in
    omega (arith, value, last-bound c.laws_below.ensures c.args.bits items c.args.new_base c.requires.placed c.requires.few)

pub returns-clause-value : goal.returns-clause-value
returns-clause-value c =
    let items = c.args.items.now in
    let p = plan_outside c.args.bits items c.args.new_base in
    let all : c.items.k ≡ length items = omega (arith, c.items-test.false, c.items.auto.k-end) in
    let images = c.items.invariant.images_is ∙ ap (λ (n : ℕ). c.args.new_base + total (image_length p (last_layout p)) n) all in
    let goals = c.items.invariant.goals_is ∙ ap (far_goals p (last_layout p) 0) all in
    ap (λ (n : ℕ). c.block_end-end.result - n) c.from.ensures
    ∙ last-is c.laws_below.ensures c.args.bits items c.args.new_base c.items.images c.next_multiple_of_8.result c.len.result c.block_end-end.result images
    (c.len.ensures.value ∙ ap length goals) c.next_multiple_of_8.ensures.value c.block_end-end.ensures

pub returns-clause-small : goal.returns-clause-small
returns-clause-small c =
    let items = c.args.items.now in
    let p = plan_outside c.args.bits items c.args.new_base in
    let all : c.items.k ≡ length items = omega (arith, c.items-test.false, c.items.auto.k-end) in
    let images = c.items.invariant.images_is ∙ ap (λ (n : ℕ). c.args.new_base + total (image_length p (last_layout p)) n) all in
    let goals = c.items.invariant.goals_is ∙ ap (far_goals p (last_layout p) 0) all in
    let value = last-is c.laws_below.ensures c.args.bits items c.args.new_base c.items.images c.next_multiple_of_8.result c.len.result c.block_end-end.result images
    (c.len.ensures.value ∙ ap length goals) c.next_multiple_of_8.ensures.value c.block_end-end.ensures in
    omega (arith, value, last-bound c.laws_below.ensures c.args.bits items c.args.new_base c.requires.placed c.requires.few)
