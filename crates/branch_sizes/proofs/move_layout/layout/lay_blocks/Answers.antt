use Rattle.std.proofs.Common.{◌≡◌, ◌++◌, length, arith, sym, ap, ◌∙◌}
use Rattle.branch_sizes.specs.Layout.{first_of_block}
use Rattle.branch_sizes.specs.MoveLayout.Laid.{slots_of, all_slots}
use Rattle.branch_sizes.specs.MoveLayout.Tables.{plan_in}
use Rattle.branch_sizes.proofs.MoveLayout.Blocks.{push_end, slots_more}
use Rattle.branch_sizes.proofs.move_layout.layout.lay_blocks.Goals as goal

pub spans-preserved : goal.spans-preserved
spans-preserved c =
    let t = c.args.tables.now in
    let p = plan_in t in
    record {
      fragments = c.in_ok-end.ensures.fragments;
      ends = push_end p t.layout.now c.spans.b c.spans.ends.items c.push.new.self.items c.in_ok-end.end
          c.spans.invariant.ends c.in_ok-push.ensures.items c.in_ok-end.ensures.end;
      slots = (c.in_ok-end.ensures.slots ∙ ap (λ xs. xs ++ slots_of p t.layout.now c.spans.b) c.spans.invariant.slots)
          ∙ sym (slots_more p t.layout.now c.spans.b);
    }

pub returns : goal.returns
returns c =
    let t = c.args.tables.now in
    let p = plan_in t in
    let all : c.spans.b ≡ length t.spans.now = omega (arith, c.spans-test.false, c.spans.auto.b-end) in
    let items : first_of_block t.spans.now c.spans.b ≡ length t.items.now =
    omega (arith, ap (first_of_block t.spans.now) all, c.blocks_have_all_items.ensures.first_of_end t.spans.now, t.plan.counts) in
    record {
      fragment_count = omega (arith, c.spans.invariant.fragments.len, items);
      fragments = λ k lt. c.spans.invariant.fragments.each k (omega (arith, items, lt));
      end_count = omega (arith, c.spans.invariant.ends.len, all);
      ends = λ b lt. c.spans.invariant.ends.each b (omega (arith, all, lt));
      slots = c.spans.invariant.slots ∙ ap (all_slots p t.layout.now) all;
    }
