-- Regions in memory of the caller's: which numbers are one, and what the calls over one answer and leave.
use Rattle.std.specs.Prelude.{◌≡◌, ℕ, ◌+◌, ◌-◌, ◌%◌, ◌==◌, nat_lt, nat_le, Bool, true, ◌&&◌, ℤ, pos, List, [], ◌∷◌, length, take, drop, map, is_none, Option, Some, None, Result, Ok, Err, if◌then◌else◌, MatchBool}
use Rattle.code_region.specs.declared.refusals.PlaceError.{PlaceError}
use Rattle.code_region.specs.declared.refusals.PlaceError.TheVariants as place
use Rattle.code_region.specs.declared.refusals.NotTaken.{NotTaken}
use Rattle.code_region.specs.declared.refusals.FillError.{FillError}
use Rattle.code_region.specs.declared.refusals.FillError.TheVariants as fill
use Rattle.code_region.specs.State.{LiveBlock, RegionState, live_block}
use Rattle.code_region.specs.Opening.{open_refusal}
use Rattle.code_region.specs.Placing.{unfilled_block, place_answer, after_place}
use Rattle.code_region.specs.Releasing.{release_answer, after_release}
use Rattle.code_region.specs.Filling.{with_content, fill_answer}
use Rattle.code_region.specs.Keeping.{with_bytes_at}
use Rattle.c_calls.specs.declared.refusal.Refusal.TheVariants as why
use Rattle.c_calls.specs.declared.flat.FlatRegion.{FlatRegion}
use Rattle.c_calls.specs.declared.flat.FlatLive.{FlatLive}
use Rattle.c_calls.specs.Refusals.{refusal_status}

-- ---- which numbers are a region

-- the blocks stand by address from one on, none over another, and end at another or before
abbrev pub are_laid : ℕ → ℕ → List FlatLive → Bool
are_laid from limit [] = nat_le from limit
are_laid from limit (b ∷ bs) = nat_le from b.place && (nat_lt 0 b.len && are_laid (b.place + b.len) limit bs)

-- each block stands a multiple of 16 bytes behind an address, and takes a multiple of 16 bytes
abbrev pub are_in_units : ℕ → List FlatLive → Bool
are_in_units base [] = true
are_in_units base (b ∷ bs) = (b.place - base) % 16 == 0 && (b.len % 16 == 0 && are_in_units base bs)

-- the live blocks: the first ones of the array
abbrev pub live_of : FlatRegion → List FlatLive → List FlatLive
live_of region blocks = take region.count blocks

-- size, room and end are those of a region, the room holds the live blocks, and these are laid inside it in units of 16 bytes
unfoldable pub is_region : FlatRegion → List FlatLive → Bool
is_region region blocks =
    is_none (open_refusal region.base region.size (length blocks))
    && (nat_le region.count (length blocks)
    && (are_laid region.base (region.base + region.size) (live_of region blocks) && are_in_units region.base (live_of region blocks)))

-- a live block, whose bytes play no part where a place is handed out or released
abbrev pub live_block_of : FlatLive → LiveBlock
live_block_of b = unfilled_block b.place b.len

-- the region that the numbers and the array stand for
abbrev pub region_of : FlatRegion → List FlatLive → RegionState
region_of region blocks = record {
  base = region.base;
  size = region.size;
  max_blocks = length blocks;
  live = map live_block_of (live_of region blocks);
}

-- the numbers and the array after a call stand for a region; behind its live blocks the array is as it was
pub record IsLeft (region region' : FlatRegion) (blocks blocks' : List FlatLive) (state : RegionState) : Type 0 where
  pub base : region'.base ≡ region.base
  pub size : region'.size ≡ region.size
  pub count : region'.count ≡ length state.live
  pub state_is : region_of region' blocks' ≡ state
  pub behind : drop region'.count blocks' ≡ drop region'.count blocks

-- nothing changed
pub record IsUnchanged (region region' : FlatRegion) (blocks blocks' : List FlatLive) : Type 0 where
  pub region_is : region' ≡ region
  pub blocks_are : blocks' ≡ blocks

-- ---- handing out a place

-- what the call says: no place for no bytes, where all blocks of the room are live, or where no gap is long enough
abbrev pub place_said : Result ℕ PlaceError → ℤ
place_said (Ok p) = pos 0
place_said (Err place.Empty) = refusal_status why.Empty
place_said (Err (place.TooManyBlocks max)) = refusal_status why.Room
place_said (Err (place.Full len largest)) = refusal_status why.Full

-- the place, unchanged after a refusal
abbrev pub place_left : ℕ → Result ℕ PlaceError → ℕ
place_left old (Ok p) = p
place_left old (Err e) = old

-- the numbers and the array with one more live block, or as they were
abbrev pub IsPlacedIn : Result ℕ PlaceError → FlatRegion → FlatRegion → List FlatLive → List FlatLive → ℕ → Type 0
IsPlacedIn (Ok p) region region' blocks blocks' len = IsLeft region region' blocks blocks' (after_place (region_of region blocks) len)
IsPlacedIn (Err e) region region' blocks blocks' len = IsUnchanged region region' blocks blocks'

-- a request for a place in what is a region: the front of the first gap, by address, that has the rounded length
pub record IsReservedIn (region region' : FlatRegion) (blocks blocks' : List FlatLive) (len old new : ℕ) (said : ℤ) : Type 0 where
  pub said_is : said ≡ place_said (place_answer (region_of region blocks) len)
  pub place_is : new ≡ place_left old (place_answer (region_of region blocks) len)
  pub left : IsPlacedIn (place_answer (region_of region blocks) len) region region' blocks blocks' len

-- the numbers and the array are no region, and nothing changed
pub record IsNoRegion (region region' : FlatRegion) (blocks blocks' : List FlatLive) (said : ℤ) : Type 0 where
  pub said_is : said ≡ refusal_status why.Region
  pub same : IsUnchanged region region' blocks blocks'

-- what a request for a place says and leaves
abbrev pub IsReserve : FlatRegion → FlatRegion → List FlatLive → List FlatLive → ℕ → ℕ → ℕ → ℤ → Type 0
IsReserve region region' blocks blocks' len old new said =
    MatchBool (is_region region blocks)
    (IsReservedIn region region' blocks blocks' len old new said)
    (IsNoRegion region region' blocks blocks' said × (new ≡ old))

-- ---- releasing

-- what the call says
abbrev pub release_said : Result (Unit {0}) NotTaken → ℤ
release_said (Ok done) = pos 0
release_said (Err e) = refusal_status why.NotLive

-- a release in what is a region; where no live block starts there nothing changes
pub record IsReleasedIn (region region' : FlatRegion) (blocks blocks' : List FlatLive) (place : ℕ) (said : ℤ) : Type 0 where
  pub said_is : said ≡ release_said (release_answer (region_of region blocks) place)
  pub left : IsLeft region region' blocks blocks' (after_release (region_of region blocks) place)

-- what a release says and leaves
abbrev pub IsRelease : FlatRegion → FlatRegion → List FlatLive → List FlatLive → ℕ → ℤ → Type 0
IsRelease region region' blocks blocks' place said =
    MatchBool (is_region region blocks)
    (IsReleasedIn region region' blocks blocks' place said)
    (IsNoRegion region region' blocks blocks' said)

-- ---- writing the bytes of a block

-- what the call says
abbrev pub fill_said : Result (Unit {0}) FillError → ℤ
fill_said (Ok done) = pos 0
fill_said (Err (fill.NotLive p)) = refusal_status why.NotLive
fill_said (Err (fill.TooLong limit)) = refusal_status why.Room

-- the bytes of the region from its base on, with some at the front of a live block and INT3 over its rest, where both are so
abbrev pub image_left : ℕ → List ℕ → Option LiveBlock → List ℕ → List ℕ
image_left base image None bytes = image
image_left base image (Some block) bytes =
    if nat_le (length bytes) block.len then with_bytes_at image (block.place - base) (with_content bytes block).content else image

-- a fill in what is a region, where the image has its bytes
pub record IsFilledIn (region : FlatRegion) (blocks : List FlatLive) (place : ℕ) (bytes image image' : List ℕ) (said : ℤ) : Type 0 where
  pub said_is : said ≡ fill_said (fill_answer (live_block (region_of region blocks) place) place (length bytes))
  pub image_is : image' ≡ image_left region.base image (live_block (region_of region blocks) place) bytes

-- what a fill says and leaves
abbrev pub IsFill : FlatRegion → List FlatLive → ℕ → List ℕ → List ℕ → List ℕ → ℤ → Type 0
IsFill region blocks place bytes image image' said =
    MatchBool (is_region region blocks)
    (MatchBool (nat_le region.size (length image))
    (IsFilledIn region blocks place bytes image image' said)
    ((said ≡ refusal_status why.Room) × (image' ≡ image)))
    ((said ≡ refusal_status why.Region) × (image' ≡ image))
