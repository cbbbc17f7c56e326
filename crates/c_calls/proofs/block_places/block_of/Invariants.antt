use Rattle.std.proofs.Common.{◌≡◌, ◌+◌, drop}
use Rattle.branch_sizes.specs.Layout.{block_number}
use Rattle.c_calls.specs.Blocks.{number_in_block}
use Rattle.c_calls.proofs.block_places.block_of.Given as goal

abbrev pub invariant-each : goal.invariant-each
invariant-each l =
    (block_number l.spans l.initial.at ≡ l.b + block_number (drop l.b l.spans) l.at) × (number_in_block l.spans l.initial.at ≡ number_in_block (drop l.b l.spans) l.at)
