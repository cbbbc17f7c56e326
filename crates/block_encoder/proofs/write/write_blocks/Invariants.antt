use Rattle.std.proofs.Common.{◌≡◌, ℕ, List}
use Rattle.branch_sizes.specs.Layout.{span_at}
use Rattle.branch_sizes.specs.MoveLayout.Laid.{IsLaid}
use Rattle.block_encoder.proofs.Writing.{AreWritten}
use Rattle.block_encoder.proofs.write.write_blocks.Given as goal

abbrev pub invariant-loop : goal.invariant-loop
invariant-loop l = record {
  count_is : l.end ≡ (span_at l.plan.spans l.b).count;
  written : (layout : List ℕ) → IsLaid l.plan layout l.laid
      → AreWritten l.bits l.items l.plan layout l.b l.counter l.bytes.items l.starts.items l.forms.items l.slots.items l.ends.items;
}

abbrev pub invariant-loop-b : goal.invariant-loop-b
invariant-loop-b l =
    (layout : List ℕ) → IsLaid l.plan layout l.laid
    → AreWritten l.bits l.items l.plan layout l.b 0 l.bytes.items l.starts.items l.forms.items l.slots.items l.ends.items
