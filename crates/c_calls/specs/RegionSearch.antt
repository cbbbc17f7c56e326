-- What a search among the live blocks of a region finds.
use Rattle.std.specs.Prelude.{◌≡◌, ℕ, ◌+◌, ◌^◌, ◌<◌, ◌≤◌, ◌==◌, true, not, List, ◌∷◌, ◌++◌, length, take, drop, map, filter, find, slice_index_or, Option, Some, None}
use Rattle.code_region.specs.declared.gaps.Span.{Span}
use Rattle.code_region.specs.Gaps.{gaps_between, first_gap}
use Rattle.code_region.specs.State.{LiveBlock, span_of}
use Rattle.code_region.specs.Placing.{with_block}
use Rattle.c_calls.specs.declared.flat.FlatRegion.{FlatRegion}
use Rattle.c_calls.specs.declared.flat.FlatLive.{FlatLive}
use Rattle.c_calls.specs.Regions.{are_laid, are_in_units, live_of, live_block_of}

-- the blocks of some entries of the array
abbrev pub blocks_of : List FlatLive → List LiveBlock
blocks_of live = map live_block_of live

-- the first gap of so many bytes that they leave
abbrev pub gap_of : ℕ → ℕ → ℕ → List FlatLive → Option Span
gap_of base limit needed live = first_gap needed (gaps_between base limit (map span_of (blocks_of live)))

-- the address of a gap
abbrev pub IsStart : Option Span → ℕ → Type 0
IsStart None place = ⊥
IsStart (Some gap) place = gap.start ≡ place

-- the first gap of so many bytes begins at an address, and a block there stands before the block of this number
pub record IsNewPlace (base limit needed : ℕ) (live : List FlatLive) (index place : ℕ) : Type 0 where
  pub within : index ≤ length live
  pub start : IsStart (gap_of base limit needed live) place
  pub order : (len : ℕ) → let new : FlatLive = record { place = place; len = len } in
      with_block (live_block_of new) (blocks_of live) ≡ blocks_of (take index live) ++ live_block_of new ∷ blocks_of (drop index live)

-- no gap has so many bytes
abbrev pub IsRegionFull : ℕ → ℕ → ℕ → List FlatLive → Type 0
IsRegionFull base limit needed live = gap_of base limit needed live ≡ None

-- what stands for a block that is not there
abbrev pub no_live : FlatLive
no_live = record { place = 0; len = 0 }

-- the block that starts at an address, and the blocks without it
abbrev pub found_at : ℕ → List LiveBlock → Option LiveBlock
found_at place blocks = find (λ block. block.place == place) blocks

-- the blocks without the one that starts at an address
abbrev pub without : ℕ → List LiveBlock → List LiveBlock
without place blocks = filter (λ block. not (block.place == place)) blocks

-- the block of this number starts at an address, and no other does
pub record StartsAt (place : ℕ) (live : List FlatLive) (k : ℕ) : Type 0 where
  pub within : k < length live
  pub found : found_at place (blocks_of live) ≡ Some (live_block_of (slice_index_or live k no_live))
  pub others : without place (blocks_of live) ≡ blocks_of (take k live ++ drop (k + 1) live)

-- none does
pub record StartsNowhere (place : ℕ) (live : List FlatLive) : Type 0 where
  pub none : found_at place (blocks_of live) ≡ None
  pub all : without place (blocks_of live) ≡ blocks_of live

-- numbers and an array that are a region: its live blocks are in the array, and laid inside it in units
pub record IsRegion (region : FlatRegion) (blocks : List FlatLive) : Type 0 where
  pub few : region.count ≤ length blocks
  pub laid : are_laid region.base (region.base + region.size) (live_of region blocks) ≡ true
  pub units : are_in_units region.base (live_of region blocks) ≡ true
  pub end : region.base + region.size ≤ 2 ^ 64
