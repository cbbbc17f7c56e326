-- What holds of a region at any time, of its user's view and of the way it is stored.
use Rattle.std.specs.Prelude.{◌≡◌, ℕ, ◌+◌, ◌^◌, ◌<◌, ◌≤◌, List, [], ◌∷◌, ◌++◌, length, take, drop, get_or, map}
use Rattle.code_region.specs.declared.gaps.Span.{Span}
use Rattle.code_region.specs.State.{LiveBlock, RegionState, int3}

-- the blocks stand by address between from and limit, none over another, each with as many bytes as it takes
abbrev pub AreLaid : ℕ → ℕ → List LiveBlock → Type 0
AreLaid from limit [] = from ≤ limit
AreLaid from limit (block ∷ blocks) =
    (from ≤ block.place) × (0 < block.len) × (length block.content ≡ block.len) × AreLaid (block.place + block.len) limit blocks

-- the live blocks of a region stand so inside it
abbrev pub IsSound : RegionState → Type 0
IsSound state = AreLaid state.base (state.base + state.size) state.live

-- the stretches stand by address between from and limit, none over another
abbrev pub AreApart : ℕ → ℕ → List Span → Type 0
AreApart from limit [] = from ≤ limit
AreApart from limit (span ∷ spans) = (from ≤ span.start) × (0 < span.len) × AreApart (span.start + span.len) limit spans

-- the stretches stand one right behind the other
abbrev pub AreJoined : ℕ → List Span → Type 0
AreJoined from [] = Unit {0}
AreJoined from (span ∷ spans) = (span.start ≡ from) × AreJoined (span.start + span.len) spans

-- so many of the first stretches have no gap before them
pub record IsTight (packed : ℕ) (spans : List Span) : Type 0 where
  pub within : packed ≤ length spans
  pub joined : AreJoined 0 (take packed spans)

-- each byte from one offset up to another is INT3
abbrev pub IsQuiet : List ℕ → ℕ → ℕ → Type 0
IsQuiet bytes from limit = (k : ℕ) → from ≤ k → k < limit → get_or bytes k 0 ≡ int3

-- each byte between from and limit that is in none of the stretches is INT3
abbrev pub IsQuietAround : List ℕ → ℕ → ℕ → List Span → Type 0
IsQuietAround bytes from limit [] = IsQuiet bytes from limit
IsQuietAround bytes from limit (span ∷ spans) =
    IsQuiet bytes from span.start × IsQuietAround bytes (span.start + span.len) limit spans

-- the block that a stretch of the bytes stands for
abbrev pub block_of : ℕ → List ℕ → Span → LiveBlock
block_of base bytes span = record {
  place = base + span.start;
  len = span.len;
  content = take span.len (drop span.start bytes);
}

-- the region that bytes at an address and stretches of them stand for
abbrev pub region_state_of : ℕ → ℕ → List ℕ → List Span → RegionState
region_state_of base max_blocks bytes spans = record {
  base = base;
  size = length bytes;
  max_blocks = max_blocks;
  live = map (block_of base bytes) spans;
}

-- bytes at an address and stretches of them, in room for so many, are a region
pub record IsKept (base max_blocks : ℕ) (bytes : List ℕ) (spans : List Span) (room : ℕ) : Type 0 where
  pub small : length bytes ≤ 2 ^ 20
  pub inside : base + length bytes ≤ 2 ^ 64
  pub apart : AreApart 0 (length bytes) spans
  pub quiet : IsQuietAround bytes 0 (length bytes) spans
  pub few : length spans ≤ max_blocks
  pub roomy : max_blocks ≤ room

-- the bytes with others written over them from an offset on
abbrev pub with_bytes_at : List ℕ → ℕ → List ℕ → List ℕ
with_bytes_at bytes start others = take start bytes ++ (others ++ drop (start + length others) bytes)
