-- What the tables of a plan say of a block.
use Rattle.std.proofs.Common.{◌≡◌, ℕ, ◌+◌, ◌<◌, ◌≤◌, length, arith}
use Rattle.branch_sizes.specs.Facts.{BlockFacts}
use Rattle.branch_sizes.specs.Layout.{first_of_block, span_at}
use Rattle.branch_sizes.specs.declared.move_layout.tables.Tables.{Tables}

-- a block ends among the items, of which there are few
pub block-fits : (blocks : BlockFacts) (t : Tables) (b first : ℕ) → b < length t.spans.now → first ≡ first_of_block t.spans.now b
    → (first + (span_at t.spans.now b).count ≤ length t.items.now) × (length t.items.now ≤ 65536)
block-fits blocks t b first bl e =
    let counts = t.plan.counts in
    (omega (arith, e, counts, blocks.first_below t.spans.now b bl), t.plan.few_items)
