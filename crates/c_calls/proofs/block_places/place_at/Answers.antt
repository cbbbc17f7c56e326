use Rattle.std.proofs.Common.{arith}
use Rattle.c_calls.proofs.CodeLengths.{block_within}
use Rattle.c_calls.proofs.block_places.place_at.Goals as goal

pub code_len-requires-clause-within : goal.code_len-requires-clause-within
code_len-requires-clause-within c =
    omega (arith, c.requires.first, block_within c.args.items.now c.args.spans.now c.requires.spans c.args.b c.requires.block)
