use Rattle.std.proofs.Common.{◌≡◌}
use Rattle.branch_sizes.specs.Layout.{first_of_block}
use Rattle.c_calls.specs.Blocks.{places}
use Rattle.c_calls.proofs.block_places.places_of.Given as goal

abbrev pub invariant-each : goal.invariant-each
invariant-each l = (l.list.items ≡ places l.bits l.spans l.items l.moved l.b) × (l.first ≡ first_of_block l.spans l.b)
