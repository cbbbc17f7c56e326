use Rattle.std.proofs.Common.{take}
use Rattle.c_calls.specs.Blocks.{AreBlocksRead}
use Rattle.c_calls.proofs.moved_blocks.read_blocks.Given as goal

abbrev pub invariant-each : goal.invariant-each
invariant-each l = AreBlocksRead l.bits l.bytes (take l.b l.blocks) l.spans.items l.items.items
