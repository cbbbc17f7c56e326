use Rattle.std.proofs.Common.{◌≡◌, ◌<◌}
use Rattle.branch_sizes.specs.Tables.{plan_in}
use Rattle.branch_sizes.specs.Layout.{AreLengths, GrowsTo, room}
use Rattle.branch_sizes.proofs.worklist.grow_unclosed.Given as goal

abbrev pub invariant-turns : goal.invariant-turns
invariant-turns l =
    let p = plan_in l.tables in
    record {
      lengths : AreLengths p l.layout l.sums;
      grows : GrowsTo p l.initial.layout l.layout;
      same : l.n ≡ 0 → l.layout ≡ l.initial.layout;
      less : 0 < l.n → room p l.layout < room p l.initial.layout;
    }
