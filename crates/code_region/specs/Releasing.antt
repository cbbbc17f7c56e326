-- What a release answers, and the region after it.
use Rattle.std.specs.Prelude.{ℕ, ◌==◌, not, filter, Option, Some, None, Result, Ok, Err}
use Rattle.code_region.specs.declared.refusals.NotTaken.{NotTaken}
use Rattle.code_region.specs.State.{LiveBlock, RegionState, live_block}

-- a release succeeds where a block was found
abbrev pub release_of : Option LiveBlock → ℕ → Result (Unit {0}) NotTaken
release_of (Some block) place = Ok tt
release_of None place = Err (record { place = place })

-- a release succeeds where a live block starts at the address
unfoldable pub release_answer : RegionState → ℕ → Result (Unit {0}) NotTaken
release_answer state place = release_of (live_block state place) place

-- the region without the block that starts at the address
unfoldable pub after_release : RegionState → ℕ → RegionState
after_release state place = record state { live = filter (λ block. not (block.place == place)) state.live }
