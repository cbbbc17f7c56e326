-- Where the moved instructions begin, in the function and in the trampoline.
use Rattle.std.specs.Prelude.{ℕ, ◌-◌, ◌==◌, nat_lt, if◌then◌else◌, Bool, List, length, map, slice_index_or, Option, Some, None}
use Rattle.std.specs.List.{range_with_len}
use Rattle.move_goals.specs.declared.items.Placed.{Placed}
use Rattle.move_goals.specs.Items.{first_below}
use Rattle.block_encoder.specs.Moved.{MovedLists}
use Rattle.detour.specs.Taken.{offset_at, moved_count}

-- where the first `count` instructions begin, as offsets from the first byte
unfoldable pub starts_to : List Placed → ℕ → List ℕ
starts_to items count = map (offset_at items) (range_with_len 0 count)

-- how far address k stands behind a place
abbrev pub place_at : List ℕ → ℕ → ℕ → ℕ
place_at addresses place k = slice_index_or addresses k 0 - place

-- how far the first `count` addresses stand behind a place
unfoldable pub places_to : List ℕ → ℕ → ℕ → List ℕ
places_to addresses place count = map (place_at addresses place) (range_with_len 0 count)

-- the offset in the function of each moved instruction
abbrev pub starts_of : List Placed → List ℕ
starts_of items = starts_to items (moved_count items)

-- the offset of its image in the trampoline at a place
abbrev pub places_of : List Placed → ℕ → MovedLists → List ℕ
places_of items place m = places_to m.starts place (moved_count items)

-- ---- from one to the other

-- number k of a list is this one
abbrev pub stands_at : List ℕ → ℕ → ℕ → Bool
stands_at numbers n k = slice_index_or numbers k 0 == n

-- the place in a list where a number first stands
abbrev pub first_at : List ℕ → ℕ → Option ℕ
first_at numbers n = first_below (stands_at numbers n) (length numbers)

-- what stands at a place in a list, if the list is so long
abbrev pub number_at : List ℕ → Option ℕ → Option ℕ
number_at numbers None = None
number_at numbers (Some k) = if nat_lt k (length numbers) then Some (slice_index_or numbers k 0) else None

-- what stands in the other list where a number first stands in the one
abbrev pub counterpart : List ℕ → List ℕ → ℕ → Option ℕ
counterpart one other n = number_at other (first_at one n)
