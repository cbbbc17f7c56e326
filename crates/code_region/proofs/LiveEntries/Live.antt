-- What is kept of live entries, and what is seen of them.
use Rattle.std.proofs.Common.{◌≡◌, ℕ, ◌+◌, ◌-◌, ◌≤◌, ◌<◌, inl, inr, true, false, List, [], ◌∷◌, length, get_or, filter, not, take, drop, arith, ap, refl, subst, sym, ◌∙◌, nat_lt, nat_eq, cond, None, Ok, Err}
use Rattle.std.specs.Prelude.{if◌then◌else◌, All}
use Rattle.std.proofs.lemmas.Bool.{cases_Bool, ltb-true, ltb-false}
use Rattle.code_region.specs.State.{LiveBlock, RegionState, len_in_units, region_image}
use Rattle.code_region.specs.declared.refusals.NotTaken.{NotTaken}
use Rattle.code_region.specs.Opening.{empty_region}
use Rattle.code_region.specs.Placing.{place_answer, with_block, unfilled_block, after_place}
use Rattle.code_region.specs.Releasing.{release_answer, after_release}
use Rattle.code_region.specs.Filling.{with_content, after_fill}
use Rattle.code_region.specs.Keeping.{IsSound}
use Rattle.code_region.specs.Laws.{HoldsContents}
use Rattle.code_region.specs.LiveEntries.Order.{AreAscending, StandsAt, with_entry, without_entry, live_entry}
use Rattle.code_region.specs.LiveEntries.Keeping.{AreLive, EntriesAreApart, HasContent, IsQuietElsewhere}
use Rattle.code_region.specs.LiveEntries.LawsBelow.{RegionLaws}
use Rattle.code_region.specs.LiveEntries.Facts.{FillFacts, LiveFacts, EntryFacts}
use Rattle.code_region.proofs.LiveEntries.Region.{NoneAt, placed-none, placed-room, placed-can_fill, filled-is, filled-sound, release-found, release-none, release-why}
use Rattle.code_region.proofs.LiveEntries.Blocks.{blocks-count, blocks-at, blocks-ascend, blocks-with, blocks-without, blocks-stand, blocks-none, blocks-found}

no_block : LiveBlock
no_block = record { place = 0; len = 0; content = [] }

-- a number that is not another, and not above it
below : (n m : ℕ) → (n ≡ m → ⊥) → n ≤ m → n < m
below n m ne le = elim (cases_Bool (nat_lt n m)) [
  | inl lt ↦ ltb-true n m lt
  | inr ge ↦ absurd (ne (omega (arith, le, ltb-false n m ge)))
]

with-longer : (block : LiveBlock) (live : List LiveBlock) → length (with_block block live) ≡ length live + 1
with-longer block [] = refl
with-longer block (other ∷ live) =
    let more = with-longer block live in
    let both : List LiveBlock = block ∷ other ∷ live in
    let later : List LiveBlock = other ∷ with_block block live in
    elim (nat_lt block.place other.place) as (λ t. length (if t then both else later) ≡ length (other ∷ live) + 1) [
      | true ↦ omega arith
      | false ↦ omega (arith, more)
    ]

without-shorter : (place : ℕ) (live : List LiveBlock)
    → length (filter (λ b. not (nat_eq b.place place)) live) ≤ length live
without-shorter place [] = omega arith
without-shorter place (block ∷ live) =
    let fewer = without-shorter place live in
    let rest : List LiveBlock = filter (λ b. not (nat_eq b.place place)) live in
    elim (nat_eq block.place place) as (λ t. length (cond (not t) (block ∷ rest) rest) ≤ length (block ∷ live)) [
      | true ↦ omega (arith, fewer)
      | false ↦ omega (arith, fewer)
    ]

-- **a block that is placed and filled, and one that is released**
pub fill-facts : RegionLaws → FillFacts
fill-facts laws = record {
  placed-can_fill = λ region len place sound e n le. placed-can_fill laws region len place sound e n le;
  filled-is = λ region len place sound e bytes. filled-is laws region len place sound e bytes;
  release-why = release-why;
}

module _ (laws : RegionLaws) {A : Type 0} (at : A → ℕ) (len_of : A → ℕ) (IsBlock : A → LiveBlock → Type 0)
    (there : (x : A) (b : LiveBlock) → IsBlock x b → b.place ≡ at x)
    (long : (x : A) (b : LiveBlock) → IsBlock x b → b.len ≡ len_of x) where
  no-entry : (base size max room : ℕ) → max ≤ room → AreLive IsBlock (empty_region base size max) [] room
  no-entry base size max room le = record {
    sound = laws.regions.opened-sound base size max;
    blocks = tt;
    few = omega arith;
    roomy = le;
  }

  module _ (region : RegionState) (entries : List A) (room : ℕ) (live : AreLive IsBlock region entries room) where
    count : length entries ≡ length region.live
    count = blocks-count IsBlock entries region.live live.blocks

    ascend : AreAscending at 0 entries
    ascend =
        let end = region.base + region.size in
        lower region.base entries
        (blocks-ascend IsBlock at there region.base end entries region.live live.blocks live.sound)
      where
        lower : (high : ℕ) (xs : List A) → AreAscending at high xs → AreAscending at 0 xs
        lower high [] h = tt
        lower high (x ∷ xs) h = (omega arith, h.1)

    module _ (len place : ℕ) (e : place_answer region len ≡ Ok place) where
      fewer : length region.live < region.max_blocks
      fewer = below (length region.live) region.max_blocks (placed-room region len place e) live.few

      has-room : length entries < room
      has-room = let same = count in let fit = live.roomy in let lt = fewer in omega (arith, lt, same, fit)

      -- **one more**
      one-more : (bytes : List ℕ) → length bytes ≤ len_in_units len → (x : A) → at x ≡ place
          → IsBlock x (with_content bytes (unfilled_block place (len_in_units len))) → (limit : ℕ) → room ≤ limit
          → AreLive IsBlock (after_fill (after_place region len) place bytes) (with_entry at x entries) limit
      one-more bytes fits x here is limit roomy =
          let block = with_content bytes (unfilled_block place (len_in_units len)) in
          let now : RegionState = record region { live = with_block block region.live } in
          let same : after_fill (after_place region len) place bytes ≡ now =
          filled-is laws region len place live.sound e bytes in
          let sound : IsSound now = subst IsSound same (filled-sound laws region len place live.sound e bytes fits) in
          let longer = with-longer block region.live in
          let lt = fewer in
          let fit = live.roomy in
          let free = placed-none laws region len place live.sound e in
          let none = subst (λ (n : ℕ). NoneAt n region.live) (sym here) free in
          subst (λ (r : RegionState). AreLive IsBlock r (with_entry at x entries) limit) (sym same)
          (record {
            sound = sound;
            blocks = blocks-with IsBlock at there x block entries region.live is none live.blocks;
            few = omega (arith, lt, longer);
            roomy = omega (arith, fit, roomy);
          })

    -- **one less**
    one-less : (place : ℕ) → AreLive IsBlock (after_release region place) (without_entry at place entries) room
    unfolding after_release
    one-less place =
        let shorter = without-shorter place region.live in
        let few = live.few in
        record {
          sound = laws.regions.released-sound region place live.sound;
          blocks = blocks-without IsBlock at there place entries region.live live.blocks;
          few = omega (arith, shorter, few);
          roomy = live.roomy;
        }

    stands : (place : ℕ) → release_answer region place ≡ Ok tt → StandsAt at place entries
    stands place e =
        let found = release-found region place e in
        blocks-stand IsBlock at there place found.0 entries region.live live.blocks found.1

    unchanged : (place : ℕ) (why : NotTaken) → release_answer region place ≡ Err why
        → without_entry at place entries ≡ entries
    unchanged place why e =
        blocks-none IsBlock at there place entries region.live live.blocks (release-none region place why e)

    absent : (place : ℕ) (why : NotTaken) → release_answer region place ≡ Err why → live_entry at place entries ≡ None
    absent place why e =
        blocks-found IsBlock at there place entries region.live live.blocks (release-none region place why e)

    -- ---- what is seen

    module _ (k : ℕ) (d : A) (lt : k < length entries) where
      block-at : IsBlock (get_or entries k d) (get_or region.live k no_block)
      block-at = blocks-at IsBlock entries region.live k d no_block live.blocks lt

      place-at : (get_or region.live k no_block).place ≡ at (get_or entries k d)
      place-at = there (get_or entries k d) (get_or region.live k no_block) block-at

      len-at : (get_or region.live k no_block).len ≡ len_of (get_or entries k d)
      len-at = long (get_or entries k d) (get_or region.live k no_block) block-at

    blocks : All (λ x. (block : LiveBlock) × IsBlock x block) entries
    blocks = λ k d lt. (get_or region.live k no_block, block-at k d lt)

    one_of : (xs : List A) (k : ℕ) → k < length xs → A
    one_of [] k lt = absurd (omega arith)
    one_of (x ∷ xs) k lt = x

    owners : All (λ block. (x : A) × IsBlock x block) region.live
    owners = λ k no lt.
        let same = count in
        let here : k < length entries = omega (arith, same, lt) in
        let one = one_of entries k here in
        (get_or entries k one, blocks-at IsBlock entries region.live k one no live.blocks here)

    apart : EntriesAreApart at len_of region entries
    apart = record {
      inside = λ k d lt.
          let same = count in
          let within = laws.regions.inside region live.sound k no_block (omega (arith, same, lt)) in
          let here = place-at k d lt in
          let size = len-at k d lt in
          (omega (arith, within.0, here), omega (arith, within.1, here, size));
      apart = λ i j d less lt.
          let same = count in
          let first : i < length entries = omega (arith, less, lt) in
          let order = laws.regions.disjoint region live.sound i j no_block less (omega (arith, same, lt)) in
          let here = place-at i d first in
          let size = len-at i d first in
          let next = place-at j d lt in
          omega (arith, order, here, size, next);
    }

    holds : HoldsContents region (region_image region)
    holds = laws.regions.contents region live.sound

    contents : All (HasContent at len_of IsBlock region.base (region_image region)) entries
    contents = λ k d lt.
        let image = region_image region in
        let same = count in
        let held = holds.contents k no_block (omega (arith, same, lt)) in
        let size = (get_or region.live k no_block).len in
        let by_len = ap (λ (n : ℕ). take n (drop (at (get_or entries k d) - region.base) image)) (sym (len-at k d lt)) in
        let by_place = ap (λ (n : ℕ). take size (drop (n - region.base) image)) (sym (place-at k d lt)) in
        (get_or region.live k no_block, (block-at k d lt, by_len ∙ (by_place ∙ held)))

    quiet : IsQuietElsewhere at len_of region entries (region_image region)
    quiet = λ k lt free.
        holds.elsewhere k lt (λ j no less.
        let same = count in
        let here : j < length entries = omega (arith, same, less) in
        let one = one_of entries j here in
        let is = blocks-at IsBlock entries region.live j one no live.blocks here in
        let place = there (get_or entries j one) (get_or region.live j no) is in
        let size = long (get_or entries j one) (get_or region.live j no) is in
        elim (free j one here) [
          | inl before ↦ inl (omega (arith, before, place))
          | inr behind ↦ inr (omega (arith, behind, place, size))
        ])

    live-facts : LiveFacts at len_of IsBlock region entries room
    live-facts = record {
      has-room = has-room;
      one-more = one-more;
      one-less = one-less;
      stands = stands;
      unchanged = unchanged;
      absent = absent;
      ascend = ascend;
      apart = apart;
      blocks = blocks;
      owners = owners;
      contents = contents;
      quiet = quiet;
    }

-- **entries go with their blocks**
pub entry-facts : RegionLaws → {A S : Type 0} (at : A → ℕ) (len_in : S → A → ℕ) (IsBlockIn : S → A → LiveBlock → Type 0)
    → ((s : S) (x : A) (b : LiveBlock) → IsBlockIn s x b → b.place ≡ at x)
    → ((s : S) (x : A) (b : LiveBlock) → IsBlockIn s x b → b.len ≡ len_in s x) → EntryFacts at len_in IsBlockIn
entry-facts laws at len_in IsBlockIn there long = record {
  none = λ s. no-entry laws at (len_in s) (IsBlockIn s) (there s) (long s);
  live = λ s. live-facts laws at (len_in s) (IsBlockIn s) (there s) (long s);
}
