-- One block more in a region: where it stands, and what it holds once it is filled.
use Rattle.std.proofs.Common.{◌≡◌, ℕ, ◌≤◌, inl, inr, List, [], ◌∷◌, length, map, find, ap, refl, subst, sym, ◌∙◌, nat_lt, nat_eq, Option, Some, None, Result, Ok, Err}
use Rattle.std.specs.Prelude.{IsTrue, if◌then◌else◌}
use Rattle.std.proofs.lemmas.Bool.{cases_Bool, eqb-false, eq-eqb, ne_eqb, le-leb}
use Rattle.code_region.specs.declared.refusals.NotTaken.{NotTaken}
use Rattle.code_region.specs.declared.refusals.PlaceError.{PlaceError}
use Rattle.code_region.specs.State.{LiveBlock, RegionState, len_in_units, live_block}
use Rattle.code_region.specs.Placing.{place_answer, with_block, unfilled_block, placed_as, after_place}
use Rattle.code_region.specs.Releasing.{release_of, release_answer}
use Rattle.code_region.specs.Filling.{with_content, block_holds, can_fill, after_fill}
use Rattle.code_region.specs.Keeping.{IsSound}
use Rattle.code_region.specs.LiveEntries.LawsBelow.{RegionLaws}

-- no live block starts at an address
abbrev pub NoneAt : ℕ → List LiveBlock → Type 0
NoneAt place [] = Unit {0}
NoneAt place (block ∷ live) = (block.place ≡ place → ⊥) × NoneAt place live

none-at : (place : ℕ) (live : List LiveBlock) → find (λ b. nat_eq b.place place) live ≡ None → NoneAt place live
none-at place [] e = tt
none-at place (block ∷ live) e =
    elim (cases_Bool (nat_eq block.place place)) [
      | inl same ↦ (let f = rw same at e in absurd cc)
      | inr differs ↦ (eqb-false block.place place differs, none-at place live (rw differs at e))
    ]

-- the block that was put in
find-put : (block : LiveBlock) (place : ℕ) (live : List LiveBlock) → block.place ≡ place → NoneAt place live
    → find (λ b. nat_eq b.place place) (with_block block live) ≡ Some block
find-put block place [] e none = rw (eq-eqb block.place place e) refl
find-put block place (other ∷ live) e none =
    elim (cases_Bool (nat_lt block.place other.place)) [
      | inl before ↦ rw (before, eq-eqb block.place place e) refl
      | inr behind ↦ rw (behind, ne_eqb other.place place none.0) (find-put block place live e none.1)
    ]

fill_none : (place : ℕ) (bytes : List ℕ) (live : List LiveBlock) → NoneAt place live
    → map (λ block. if nat_eq block.place place then with_content bytes block else block) live ≡ live
fill_none place bytes [] none = refl
fill_none place bytes (block ∷ live) none =
    rw (ne_eqb block.place place none.0) (ap (λ bs. block ∷ bs) (fill_none place bytes live none.1))

fill-put : (block : LiveBlock) (place : ℕ) (bytes : List ℕ) (live : List LiveBlock) → block.place ≡ place
    → NoneAt place live → map (λ b. if nat_eq b.place place then with_content bytes b else b) (with_block block live)
    ≡ with_block (with_content bytes block) live
fill-put block place bytes [] e none = rw (eq-eqb block.place place e) refl
fill-put block place bytes (other ∷ live) e none =
    elim (cases_Bool (nat_lt block.place other.place)) [
      | inl before ↦ rw (before, eq-eqb block.place place e, ne_eqb other.place place none.0)
          (ap (λ bs. with_content bytes block ∷ other ∷ bs) (fill_none place bytes live none.1))
      | inr behind ↦ rw (behind, ne_eqb other.place place none.0)
          (ap (λ bs. other ∷ bs) (fill-put block place bytes live e none.1))
    ]

-- ---- a place that is handed out

module _ (laws : RegionLaws) (state : RegionState) (len place : ℕ) (sound : IsSound state)
    (e : place_answer state len ≡ Ok place) where
  -- no block starts there
  pub placed-none : NoneAt place state.live
  unfolding live_block
  placed-none = none-at place state.live (laws.places.place-free state len place sound e)

  placed-is : after_place state len
      ≡ record state { live = with_block (unfilled_block place (len_in_units len)) state.live }
  unfolding after_place
  placed-is = ap (λ (a : Result ℕ PlaceError). placed_as a state len) e

  -- its block holds the rounded length
  pub placed-can_fill : (n : ℕ) → n ≤ len_in_units len → IsTrue (can_fill (after_place state len) place n)
  unfolding can_fill live_block
  placed-can_fill n le =
      let P : RegionState → Type 0 = λ s. IsTrue (block_holds (find (λ b. nat_eq b.place place) s.live) n) in
      let Q : Option LiveBlock → Type 0 = λ o. IsTrue (block_holds o n) in
      let found = find-put (unfilled_block place (len_in_units len)) place state.live refl placed-none in
      subst P (sym placed-is) (subst Q (sym found) (le-leb n (len_in_units len) le))

  module _ (bytes : List ℕ) where
    -- the region with the block filled
    pub filled-is : after_fill (after_place state len) place bytes
        ≡ record state { live = with_block (with_content bytes (unfilled_block place (len_in_units len))) state.live }
    unfolding after_fill
    filled-is =
        let with_live : List LiveBlock → RegionState = λ live. record state { live = live } in
        ap (λ (s : RegionState). after_fill s place bytes) placed-is
        ∙ ap with_live (fill-put (unfilled_block place (len_in_units len)) place bytes state.live refl placed-none)

    -- it is sound
    pub filled-sound : length bytes ≤ len_in_units len → IsSound (after_fill (after_place state len) place bytes)
    filled-sound fits =
        laws.regions.filled-sound (after_place state len) place bytes (laws.regions.placed-sound state len sound)
        (placed-can_fill (length bytes) fits)

-- it is handed out where there is room
pub placed-room : (state : RegionState) (len place : ℕ) → place_answer state len ≡ Ok place
    → length state.live ≡ state.max_blocks → ⊥
unfolding place_answer
placed-room state len place e same =
    elim (cases_Bool (nat_eq len 0)) [
      | inl zero_len ↦ (let f = rw zero_len at e in absurd cc)
      | inr some_len ↦ (
          let f = rw (some_len, eq-eqb (length state.live) state.max_blocks same) at e in
          absurd cc)
    ]

-- ---- a block that is released

-- one that succeeds finds its block
pub release-found : (state : RegionState) (place : ℕ) → release_answer state place ≡ Ok tt
    → (block : LiveBlock) × (find (λ b. nat_eq b.place place) state.live ≡ Some block)
unfolding release_answer live_block
release-found state place e = by_found (find (λ b. nat_eq b.place place) state.live) refl e
  where
    by_found : (o : Option LiveBlock) → find (λ b. nat_eq b.place place) state.live ≡ o → release_of o place ≡ Ok tt
        → (block : LiveBlock) × (find (λ b. nat_eq b.place place) state.live ≡ Some block)
    by_found None is h = cc
    by_found (Some block) is h = (block, is)

-- one that is refused finds none
pub release-none : (state : RegionState) (place : ℕ) (why : NotTaken) → release_answer state place ≡ Err why
    → find (λ b. nat_eq b.place place) state.live ≡ None
unfolding release_answer live_block
release-none state place why e = by_found (find (λ b. nat_eq b.place place) state.live) refl e
  where
    by_found : (o : Option LiveBlock) → find (λ b. nat_eq b.place place) state.live ≡ o → release_of o place ≡ Err why
        → find (λ b. nat_eq b.place place) state.live ≡ None
    by_found None is h = is
    by_found (Some block) is h = cc

abbrev told : Result (Unit {0}) NotTaken → NotTaken
told (Err why) = why
told (Ok done) = record { place = 0 }

-- it is refused for its own address
pub release-why : (state : RegionState) (place : ℕ) (why : NotTaken) → release_answer state place ≡ Err why
    → why ≡ record { place = place }
unfolding release_answer
release-why state place why e = by_found (live_block state place) e
  where
    by_found : (o : Option LiveBlock) → release_of o place ≡ Err why → why ≡ record { place = place }
    by_found None h = sym (ap told h)
    by_found (Some block) h = cc
