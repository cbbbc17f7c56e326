use Rattle.std.proofs.Common.{◌≡◌, length}
use Rattle.move_goals.specs.Ready.{AreReady}
use Rattle.move_goals.proofs.ready.ready_bytes.Given as goal

abbrev pub invariant-items : goal.invariant-items
invariant-items l = record {
  len : length l.ready.items ≡ l.k;
  each : AreReady l.bits l.items l.ready.items;
}
