use Rattle.std.proofs.Common.{◌≡◌, ◌≤◌, ◌*◌, ◌^◌, take}
use Rattle.c_calls.specs.Blocks.{total_len}
use Rattle.c_calls.proofs.moved_blocks.total_len.Given as goal

abbrev pub invariant-each : goal.invariant-each
invariant-each l = (l.total ≡ total_len (take l.b l.blocks)) × (l.total ≤ l.b * 2 ^ 64)
