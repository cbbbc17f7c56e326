-- What a request for a place answers, and the region after it.
use Rattle.std.specs.Prelude.{ℕ, ◌==◌, nat_lt, if◌then◌else◌, List, [], ◌∷◌, length, replicate, Option, Some, None, Result, Ok, Err}
use Rattle.code_region.specs.declared.gaps.Span.{Span}
use Rattle.code_region.specs.declared.refusals.PlaceError.{PlaceError}
use Rattle.code_region.specs.declared.refusals.PlaceError.TheVariants.{Empty, TooManyBlocks, Full}
use Rattle.code_region.specs.Gaps.{first_gap, longest}
use Rattle.code_region.specs.State.{LiveBlock, RegionState, int3, len_in_units, gaps_of}

-- the front of the gap; where there is none, the region is full
abbrev pub place_in_gap : Option Span → ℕ → ℕ → Result ℕ PlaceError
place_in_gap (Some gap) len largest = Ok gap.start
place_in_gap None len largest = Err (Full len largest)

-- the front of the first gap that has the rounded length, or the first cause of refusal
unfoldable pub place_answer : RegionState → ℕ → Result ℕ PlaceError
place_answer state len =
    if len == 0 then Err Empty
    else (if length state.live == state.max_blocks then Err (TooManyBlocks state.max_blocks)
    else place_in_gap (first_gap (len_in_units len) (gaps_of state)) (len_in_units len) (longest (gaps_of state)))

-- the blocks with one more, by address
abbrev pub with_block : LiveBlock → List LiveBlock → List LiveBlock
with_block block [] = block ∷ []
with_block block (other ∷ others) =
    if nat_lt block.place other.place then block ∷ other ∷ others else other ∷ with_block block others

-- a block that was not filled
abbrev pub unfilled_block : ℕ → ℕ → LiveBlock
unfilled_block place len = record { place = place; len = len; content = replicate len int3 }

-- the region after that answer: a block is live there, or nothing changed
abbrev pub placed_as : Result ℕ PlaceError → RegionState → ℕ → RegionState
placed_as (Ok place) state len = record state { live = with_block (unfilled_block place (len_in_units len)) state.live }
placed_as (Err refusal) state len = state

-- the region after a request for a place
unfoldable pub after_place : RegionState → ℕ → RegionState
after_place state len = placed_as (place_answer state len) state len
