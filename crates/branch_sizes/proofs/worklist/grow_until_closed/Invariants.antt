use Rattle.std.proofs.Common.{◌^◌, ◌<◌, ℕ, List, length, get_or}
use Rattle.branch_sizes.specs.Tables.{plan_in}
use Rattle.branch_sizes.specs.Layout.{AreLengths, ArePlaces, IsLayout, IsClosed, AtMost, room}
use Rattle.branch_sizes.proofs.worklist.grow_until_closed.Given as goal

abbrev pub invariant-passes : goal.invariant-passes
invariant-passes l =
    let p = plan_in l.tables in
    record {
      lengths : AreLengths p l.layout l.sums;
      is_layout : IsLayout p l.layout;
      least : (other : List ℕ) → IsClosed p other → AtMost l.layout other;
      places : ArePlaces p l.layout l.now.items;
      below : (i : ℕ) → i < length l.now.items → get_or l.now.items i 0 < 2 ^ 66;
    }

abbrev pub decreases-passes : goal.decreases-passes
decreases-passes l = room (plan_in l.tables) l.layout
