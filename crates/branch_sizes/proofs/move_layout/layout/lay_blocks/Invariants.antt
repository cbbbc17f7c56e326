use Rattle.std.proofs.Common.{◌≡◌}
use Rattle.branch_sizes.specs.Layout.{first_of_block}
use Rattle.branch_sizes.specs.MoveLayout.Laid.{all_slots}
use Rattle.branch_sizes.specs.MoveLayout.Tables.{plan_in, AreFragments, AreEnds}
use Rattle.branch_sizes.proofs.move_layout.layout.lay_blocks.Given as goal

abbrev pub invariant-spans : goal.invariant-spans
invariant-spans l =
    let p = plan_in l.tables in
    record {
      fragments : AreFragments p l.tables.layout.now (first_of_block l.tables.spans.now l.b) l.fragments.items;
      ends : AreEnds p l.tables.layout.now l.b l.ends.items;
      slots : l.slots.items ≡ all_slots p l.tables.layout.now l.b;
    }
