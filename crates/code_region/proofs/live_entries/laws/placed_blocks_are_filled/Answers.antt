use Rattle.code_region.proofs.LiveEntries.Live.{fill-facts}
use Rattle.code_region.proofs.live_entries.laws.placed_blocks_are_filled.Goals as goal

pub returns : goal.returns
returns c = fill-facts c.laws_below.ensures
