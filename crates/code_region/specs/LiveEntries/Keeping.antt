-- What holds of live entries at any time.
use Rattle.std.specs.Prelude.{◌≡◌, ◌⊎◌, ℕ, ◌+◌, ◌-◌, ◌<◌, ◌≤◌, List, [], ◌∷◌, length, All, AllPairs, slice_index_or, take, drop}
use Rattle.code_region.specs.State.{LiveBlock, RegionState, int3}
use Rattle.code_region.specs.Keeping.{IsSound}

-- the live blocks are those of the entries, one by one
abbrev pub AreBlocksOf : {A : Type 0} → (A → LiveBlock → Type 0) → List A → List LiveBlock → Type 0
AreBlocksOf IsBlock [] [] = Unit {0}
AreBlocksOf IsBlock (entry ∷ entries) (block ∷ blocks) = IsBlock entry block × AreBlocksOf IsBlock entries blocks
AreBlocksOf IsBlock entries blocks = ⊥

-- the entries of a region, with room for so many
pub record AreLive {A : Type 0} (IsBlock : A → LiveBlock → Type 0) (region : RegionState) (entries : List A)
    (room : ℕ) : Type 0 where
  pub sound : IsSound region
  pub blocks : AreBlocksOf IsBlock entries region.live
  pub few : length region.live ≤ region.max_blocks
  pub roomy : region.max_blocks ≤ room

-- the entries stand inside the region by address, and none stands over another
pub record EntriesAreApart {A : Type 0} (place_of : A → ℕ) (len_of : A → ℕ) (region : RegionState)
    (entries : List A) : Type 0 where
  pub inside : All (λ entry. (region.base ≤ place_of entry)
      × (place_of entry + len_of entry ≤ region.base + region.size)) entries
  pub apart : AllPairs (λ entry later. place_of entry + len_of entry ≤ place_of later) entries

-- the bytes of the image where the block of an entry stands are the content of such a block
abbrev pub HasContent : {A : Type 0} → (A → ℕ) → (A → ℕ) → (A → LiveBlock → Type 0) → ℕ → List ℕ → A → Type 0
HasContent place_of len_of IsBlock base image entry = (block : LiveBlock)
    × (IsBlock entry block × (take (len_of entry) (drop (place_of entry - base) image) ≡ block.content))

-- each byte that stands in no block of an entry is INT3
abbrev pub IsQuietElsewhere : {A : Type 0} → (A → ℕ) → (A → ℕ) → RegionState → List A → List ℕ → Type 0
IsQuietElsewhere place_of len_of region entries image = (k : ℕ) → k < region.size
    → All (λ entry. (region.base + k < place_of entry) ⊎ (place_of entry + len_of entry ≤ region.base + k)) entries
    → slice_index_or image k 0 ≡ int3
