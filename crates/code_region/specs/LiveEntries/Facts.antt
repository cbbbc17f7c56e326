-- What holds of the live entries of a region, and of one block more or less in it.
use Rattle.std.specs.Prelude.{◌≡◌, ℕ, ◌≤◌, ◌<◌, List, [], All, length, None, Ok, Err, IsTrue}
use Rattle.code_region.specs.declared.refusals.NotTaken.{NotTaken}
use Rattle.code_region.specs.State.{LiveBlock, RegionState, len_in_units, region_image}
use Rattle.code_region.specs.Opening.{empty_region}
use Rattle.code_region.specs.Placing.{place_answer, with_block, unfilled_block, after_place}
use Rattle.code_region.specs.Releasing.{release_answer, after_release}
use Rattle.code_region.specs.Filling.{with_content, can_fill, after_fill}
use Rattle.code_region.specs.Keeping.{IsSound}
use Rattle.code_region.specs.LiveEntries.Order.{AreAscending, StandsAt, with_entry, without_entry, live_entry}
use Rattle.code_region.specs.LiveEntries.Keeping.{AreLive, EntriesAreApart, HasContent, IsQuietElsewhere}

-- a block that is placed and filled, and one that is released
pub record FillFacts : Type 0 where
  -- the block of a place that is handed out holds its rounded length
  pub placed-can_fill : (region : RegionState) (len place : ℕ) → IsSound region → place_answer region len ≡ Ok place
      → (n : ℕ) → n ≤ len_in_units len → IsTrue (can_fill (after_place region len) place n)
  -- filled, it is one block more
  pub filled-is : (region : RegionState) (len place : ℕ) → IsSound region → place_answer region len ≡ Ok place
      → (bytes : List ℕ) → after_fill (after_place region len) place bytes
      ≡ record region { live = with_block (with_content bytes (unfilled_block place (len_in_units len))) region.live }
  -- a release is refused for no other address
  pub release-why : (region : RegionState) (place : ℕ) (why : NotTaken) → release_answer region place ≡ Err why
      → why ≡ record { place = place }

-- entries in a region, with room for so many: what may become of them, and what is seen of them
pub record LiveFacts {A : Type 0} (place_of : A → ℕ) (len_of : A → ℕ) (IsBlock : A → LiveBlock → Type 0)
    (region : RegionState) (entries : List A) (room : ℕ) : Type 0 where
  -- where a place is handed out, there is room for one more
  pub has-room : (len place : ℕ) → place_answer region len ≡ Ok place → length entries < room
  pub one-more : (len place : ℕ) → place_answer region len ≡ Ok place → (bytes : List ℕ) → length bytes ≤ len_in_units len
      → (entry : A) → place_of entry ≡ place → IsBlock entry (with_content bytes (unfilled_block place (len_in_units len)))
      → (limit : ℕ) → room ≤ limit
      → AreLive IsBlock (after_fill (after_place region len) place bytes) (with_entry place_of entry entries) limit
  -- a release leaves one less: where it finds a block, an entry stands there, and where it finds none, none does
  pub one-less : (place : ℕ) → AreLive IsBlock (after_release region place) (without_entry place_of place entries) room
  pub stands : (place : ℕ) → release_answer region place ≡ Ok tt → StandsAt place_of place entries
  pub unchanged : (place : ℕ) (why : NotTaken) → release_answer region place ≡ Err why
      → without_entry place_of place entries ≡ entries
  pub absent : (place : ℕ) (why : NotTaken) → release_answer region place ≡ Err why
      → live_entry place_of place entries ≡ None
  -- they stand by address and apart, each has its block and each block its entry, and the image has their contents
  pub ascend : AreAscending place_of 0 entries
  pub apart : EntriesAreApart place_of len_of region entries
  pub blocks : All (λ entry. (block : LiveBlock) × IsBlock entry block) entries
  pub owners : All (λ block. (entry : A) × IsBlock entry block) region.live
  pub contents : All (HasContent place_of len_of IsBlock region.base (region_image region)) entries
  pub quiet : IsQuietElsewhere place_of len_of region entries (region_image region)

-- entries whose places and lengths are those of their blocks, from none on
pub record EntryFacts {A S : Type 0} (place_of : A → ℕ) (len_in : S → A → ℕ)
    (IsBlockIn : S → A → LiveBlock → Type 0) : Type 0 where
  pub none : (setting : S) (base size max room : ℕ) → max ≤ room
      → AreLive (IsBlockIn setting) (empty_region base size max) [] room
  pub live : (setting : S) (region : RegionState) (entries : List A) (room : ℕ)
      → AreLive (IsBlockIn setting) region entries room
      → LiveFacts place_of (len_in setting) (IsBlockIn setting) region entries room
