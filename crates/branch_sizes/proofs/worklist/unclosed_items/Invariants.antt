use Rattle.std.proofs.Common.{◌≡◌, ◌<◌, ℕ, length}
use Rattle.branch_sizes.specs.Tables.{plan_in}
use Rattle.branch_sizes.specs.Layout.{AreUnclosed, IsItemClosed}
use Rattle.branch_sizes.proofs.worklist.unclosed_items.Given as goal

abbrev pub invariant-items : goal.invariant-items
invariant-items l =
    let p = plan_in l.tables in
    record {
      unclosed : AreUnclosed p l.layout l.unclosed.items;
      closed : length l.unclosed.items ≡ 0 → (i : ℕ) → i < l.k → IsItemClosed p l.layout i;
    }
