-- What a fill makes of a live block.
use Rattle.std.specs.Prelude.{ℕ, ◌-◌, ◌==◌, nat_le, if◌then◌else◌, Bool, false, List, ◌++◌, map, length, replicate, Option, Some, None, Result, Ok, Err}
use Rattle.code_region.specs.declared.refusals.FillError.{FillError}
use Rattle.code_region.specs.declared.refusals.FillError.TheVariants.{NotLive, TooLong}
use Rattle.code_region.specs.State.{LiveBlock, RegionState, int3, live_block}

-- the block with these first bytes, and INT3 behind them
abbrev pub with_content : List ℕ → LiveBlock → LiveBlock
with_content bytes block = record block { content = bytes ++ replicate (block.len - length bytes) int3 }

-- so many bytes fit the block, if there is one
abbrev pub block_holds : Option LiveBlock → ℕ → Bool
block_holds (Some block) count = nat_le count block.len
block_holds None count = false

-- a live block starts at the address, and so many bytes fit it
unfoldable pub can_fill : RegionState → ℕ → ℕ → Bool
can_fill state place count = block_holds (live_block state place) count

-- a fill is refused where no live block starts at the address, and else where the bytes are more than the block has
abbrev pub fill_answer : Option LiveBlock → ℕ → ℕ → Result (Unit {0}) FillError
fill_answer None place count = Err (NotLive place)
fill_answer (Some block) place count = if nat_le count block.len then Ok tt else Err (TooLong block.len)

-- the region after the bytes are written at the front of the block that starts at the address
unfoldable pub after_fill : RegionState → ℕ → List ℕ → RegionState
after_fill state place bytes = record state {
  live = map (λ block. if block.place == place then with_content bytes block else block) state.live;
}
