use Rattle.std.proofs.Common.{◌≡◌, ◌++◌, take}
use Rattle.block_encoder.specs.Bytes.{slot_bytes}
use Rattle.block_encoder.proofs.ends.write_end.Given as goal

abbrev pub invariant-goals : goal.invariant-goals
invariant-goals l = record {
  bytes : l.bytes.items ≡ l.initial.bytes.items ++ slot_bytes (take l.i l.goals);
  slots : l.slots.items ≡ l.initial.slots.items ++ take l.i l.goals;
}
