use Rattle.std.proofs.Common.{◌≡◌, ◌+◌}
use Rattle.branch_sizes.specs.Layout.{first_of_block, span_at}
use Rattle.branch_sizes.specs.MoveLayout.Laid.{far_goals}
use Rattle.branch_sizes.specs.MoveLayout.Slots.{IsNumbering}
use Rattle.branch_sizes.specs.MoveLayout.Tables.{plan_in, AreFragments}
use Rattle.branch_sizes.proofs.move_layout.layout.lay_block.Given as goal

abbrev pub invariant-items : goal.invariant-items
invariant-items l =
    let p = plan_in l.tables in
    let first = first_of_block l.tables.spans.now l.b in
    record {
      count_is : l.end ≡ (span_at l.tables.spans.now l.b).count;
      numbering : IsNumbering l.numbers l.goals.items;
      goals : l.goals.items ≡ far_goals p l.tables.layout.now first l.counter;
      fragments : AreFragments p l.tables.layout.now (first + l.counter) l.fragments.items;
    }
