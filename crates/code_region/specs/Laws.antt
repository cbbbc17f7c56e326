-- Laws over whole runs.
use Rattle.std.specs.Prelude.{◌≡◌, ◌⊎◌, ℕ, ◌+◌, ◌-◌, ◌%◌, ◌<◌, ◌≤◌, List, All, AllPairs, Ok, slice_index_or, take, drop}
use Rattle.code_region.specs.State.{RegionState, int3, region_image}
use Rattle.code_region.specs.Placing.{place_answer, after_place}
use Rattle.code_region.specs.Releasing.{release_answer, after_release}

-- each live block is inside the region
abbrev pub AreInside : RegionState → Type 0
AreInside state =
    All (λ block. (state.base ≤ block.place) × (block.place + block.len ≤ state.base + state.size)) state.live

-- each live block ends where the next ones start, or before
abbrev pub AreDisjoint : RegionState → Type 0
AreDisjoint state = AllPairs (λ block later. block.place + block.len ≤ later.place) state.live

-- a place that is handed out and released at once leaves blocks and bytes as they were, and is handed out again
pub record Restores (state : RegionState) (len place : ℕ) : Type 0 where
  pub succeeds : release_answer (after_place state len) place ≡ Ok tt
  pub blocks : after_release (after_place state len) place ≡ state
  pub bytes : region_image (after_release (after_place state len) place) ≡ region_image state
  pub again : place_answer (after_release (after_place state len) place) len ≡ Ok place

-- each live block stands a multiple of 16 bytes behind the base, and takes a multiple of 16 bytes
abbrev pub AreInUnits : RegionState → Type 0
AreInUnits state = All (λ block. ((block.place - state.base) % 16 ≡ 0) × (block.len % 16 ≡ 0)) state.live

-- in the image each live block has its content at its place, and each byte that no live block takes is INT3
pub record HoldsContents (state : RegionState) (image : List ℕ) : Type 0 where
  pub contents : All (λ block. take block.len (drop (block.place - state.base) image) ≡ block.content) state.live
  pub elsewhere : (k : ℕ) → k < state.size
      → All (λ block. (state.base + k < block.place) ⊎ (block.place + block.len ≤ state.base + k)) state.live → slice_index_or image k 0 ≡ int3
