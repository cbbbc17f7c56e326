use Rattle.std.proofs.Common.{drop}
use Rattle.moving_run.proofs.Blocks.{BlocksBegun}
use Rattle.moving_run.proofs.code.read_code.Given as goal

abbrev pub invariant-loop-word : goal.invariant-loop-word
invariant-loop-word l = BlocksBegun l.bits l.words l.input (drop l.word-index l.words) l.rest l.items.items l.spans.items l.count
