-- What holds of a sound region, and of the places that are handed out in it.
use Rattle.std.specs.Prelude.{◌≡◌, ℕ, ◌+◌, ◌-◌, ◌%◌, ◌≤◌, List, length, None, Ok, IsTrue}
use Rattle.code_region.specs.State.{RegionState, len_in_units, gaps_of, live_block, region_image}
use Rattle.code_region.specs.Gaps.{first_gap}
use Rattle.code_region.specs.Opening.{empty_region}
use Rattle.code_region.specs.Placing.{place_answer, after_place}
use Rattle.code_region.specs.Releasing.{after_release}
use Rattle.code_region.specs.Filling.{can_fill, after_fill}
use Rattle.code_region.specs.Keeping.{IsSound}
use Rattle.code_region.specs.Laws.{AreInside, AreDisjoint, AreInUnits, HoldsContents, Restores}

-- a region is sound as it begins, and stays so; a sound one keeps its live blocks apart, with their bytes
pub record RegionFacts : Type 0 where
  pub opened-sound : (base size max_blocks : ℕ) → IsSound (empty_region base size max_blocks)
  pub placed-sound : (state : RegionState) (len : ℕ) → IsSound state → IsSound (after_place state len)
  pub released-sound : (state : RegionState) (place : ℕ) → IsSound state → IsSound (after_release state place)
  pub filled-sound : (state : RegionState) (place : ℕ) (bytes : List ℕ) → IsSound state → IsTrue (can_fill state place (length bytes)) → IsSound (after_fill state place bytes)
  pub inside : (state : RegionState) → IsSound state → AreInside state
  pub disjoint : (state : RegionState) → IsSound state → AreDisjoint state
  pub contents : (state : RegionState) → IsSound state → HoldsContents state (region_image state)
  pub restores : (state : RegionState) (len place : ℕ) → IsSound state → place_answer state len ≡ Ok place → Restores state len place

-- the places that are handed out
pub record PlaceFacts : Type 0 where
  -- a place is handed out only where a gap is long enough
  pub gap-none : (state : RegionState) (len place : ℕ) → first_gap (len_in_units len) (gaps_of state) ≡ None → place_answer state len ≡ Ok place → ⊥
  -- no live block starts there, and the new one ends inside the region
  pub place-free : (state : RegionState) (len place : ℕ) → IsSound state → place_answer state len ≡ Ok place → live_block state place ≡ None
  pub place-inside : (state : RegionState) (len place : ℕ) → IsSound state → place_answer state len ≡ Ok place → place + len_in_units len ≤ state.base + state.size
  -- it stands a multiple of 16 bytes behind the base, where the live blocks do, and takes a multiple of 16 bytes
  pub place-units : (state : RegionState) (len place : ℕ) → IsSound state → AreInUnits state → place_answer state len ≡ Ok place
      → (state.base ≤ place) × ((place - state.base) % 16 ≡ 0)
  pub rounded-units : (len : ℕ) → len_in_units len % 16 ≡ 0
