-- A live block that was found, or was not: what a release and a fill leave, in the user's words.
use Rattle.std.proofs.Common.{◌≡◌, ℕ, suc, ◌+◌, ◌-◌, ◌^◌, ◌≤◌, ◌<◌, List, [], ◌∷◌, ◌++◌, length, get_or, map, replicate, remove, filter, not, arith, sym, ◌∙◌, ap, subst, refl, Option, Some, None, option_map, Ok, Err, nat_eq, IsTrue, false, true, length-append}
use Rattle.std.proofs.lemmas.Bool.{ne_eqb, leb-true}
use Rattle.std.proofs.lemmas.List.{length-replicate, get_or_read}
use Rattle.std.proofs.lemmas.List.Edits.{length-remove}
use Rattle.code_region.specs.declared.gaps.Span.{Span}
use Rattle.code_region.specs.State.{LiveBlock, RegionState, int3, len_of, live_block}
use Rattle.code_region.specs.Releasing.{release_of, release_answer, after_release}
use Rattle.code_region.specs.Filling.{block_holds, can_fill, after_fill}
use Rattle.code_region.specs.Keeping.{AreApart, IsQuietAround, block_of, region_state_of, IsKept, with_bytes_at}
use Rattle.code_region.specs.Searching.{gap_span_at, nowhere, IsAt, IsNowhere}
use Rattle.code_region.proofs.Apart.{AreApart-at, AreApart-raise}
use Rattle.code_region.proofs.Views.{find-view, find-nowhere}
use Rattle.code_region.proofs.Overwrites.{length-overwritten}
use Rattle.code_region.proofs.Rewriting.{Removes, span-remove, Refills, span-refill}

-- the stretches are apart below the end of the address space
pub apart-addresses : (base max_blocks capacity : ℕ) (bytes : List ℕ) (spans spans' : List Span) → spans' ≡ spans → IsKept base max_blocks bytes spans capacity →
    AreApart 0 (2 ^ 64 - base) spans'
apart-addresses base max_blocks capacity bytes spans spans' e kept =
    let i = kept.inside in
    let P : List Span → Type 0 = λ xs. AreApart 0 (2 ^ 64 - base) xs in
    subst P (sym e) (AreApart-raise 0 (length bytes) (2 ^ 64 - base) spans (omega arith) kept.apart)

-- the same find, where the stretches are equal
pub at-same : (base place : ℕ) (spans spans' : List Span) (index : ℕ) → spans ≡ spans' → IsAt base place spans index → IsAt base place spans' index
at-same base place spans spans' index e at = let P : List Span → Type 0 = λ xs. IsAt base place xs index in subst P e at

-- equal lists of spans start nowhere alike
pub nowhere-same : (base place : ℕ) (spans spans' : List Span) → spans ≡ spans' → IsNowhere base place spans → IsNowhere base place spans'
nowhere-same base place spans spans' e none = let P : List Span → Type 0 = λ xs. IsNowhere base place xs in subst P e none

-- the live block at an address
pub live_block-at : (base max_blocks capacity : ℕ) (bytes : List ℕ) (spans : List Span) (state : RegionState) (place index : ℕ) →
    region_state_of base max_blocks bytes spans ≡ state → IsKept base max_blocks bytes spans capacity → IsAt base place spans index →
    live_block state place ≡ Some (block_of base bytes (gap_span_at spans index))
unfolding live_block
live_block-at base max_blocks capacity bytes spans state place index e kept at =
    let P : RegionState → Type 0 = λ s. live_block s place ≡ Some (block_of base bytes (gap_span_at spans index)) in
    subst P e (find-view base place 0 (length bytes) bytes spans index kept.apart at.inside at.starts)

-- a place at which no span starts has no live block
pub live_block-nowhere : (base max_blocks : ℕ) (bytes : List ℕ) (spans : List Span) (state : RegionState) (place : ℕ) →
    region_state_of base max_blocks bytes spans ≡ state → IsNowhere base place spans → live_block state place ≡ None
unfolding live_block
live_block-nowhere base max_blocks bytes spans state place e none =
    let P : RegionState → Type 0 = λ s. live_block s place ≡ None in
    subst P e (find-nowhere base place bytes spans none)

-- a release of what is not live changes nothing
filter-nowhere : (base place : ℕ) (bytes : List ℕ) (spans : List Span) → IsNowhere base place spans →
    filter (λ block. not (nat_eq block.place place)) (map (block_of base bytes) spans) ≡ map (block_of base bytes) spans
filter-nowhere base place bytes [] none = refl
filter-nowhere base place bytes (span ∷ spans) none =
    rw (ne_eqb (base + span.start) place (none 0 (omega arith)))
    (ap (λ bs. block_of base bytes span ∷ bs) (filter-nowhere base place bytes spans (λ i h. none (suc i) (omega arith))))

-- the region of these bytes, size and live blocks
abbrev with_live : ℕ → ℕ → ℕ → List LiveBlock → RegionState
with_live base max_blocks size live = record { base = base; size = size; max_blocks = max_blocks; live = live }

-- its release changes nothing
pub released-nowhere : (base max_blocks : ℕ) (bytes : List ℕ) (spans : List Span) (state : RegionState) (place : ℕ) →
    region_state_of base max_blocks bytes spans ≡ state → IsNowhere base place spans → state ≡ after_release state place
unfolding after_release
released-nowhere base max_blocks bytes spans state place e none =
    let P : RegionState → Type 0 = λ s. s ≡ after_release s place in
    subst P e (ap (with_live base max_blocks (length bytes)) (sym (filter-nowhere base place bytes spans none)))

-- and is refused with that place
pub answer-nowhere : (state : RegionState) (place : ℕ) → live_block state place ≡ None → Err (record { place = place }) ≡ release_answer state place
unfolding release_answer
answer-nowhere state place e = sym (ap (λ found. release_of found place) e)

-- the release of a live block succeeds
pub answer-at : (state : RegionState) (place : ℕ) (block : LiveBlock) → live_block state place ≡ Some block → Ok tt ≡ release_answer state place
unfolding release_answer
answer-at state place block e = sym (ap (λ found. release_of found place) e)

-- a stretch that was found ends inside the bytes
pub found-inside : (base max_blocks capacity place index : ℕ) (bytes : List ℕ) (spans : List Span) (span : Span) → IsKept base max_blocks bytes spans capacity →
    IsAt base place spans index → span ≡ get_or spans index span → span.start + span.len ≤ length bytes
found-inside base max_blocks capacity place index bytes spans span kept at read =
    let here = AreApart-at 0 (length bytes) spans index kept.apart at.inside in
    let P : Span → Type 0 = λ x. x.start + x.len ≤ length bytes in
    subst P (sym (get_or_read spans index span at.inside read nowhere)) here.2

-- what a release leaves
removes : (base max_blocks capacity place index : ℕ) (bytes : List ℕ) (spans : List Span) → IsKept base max_blocks bytes spans capacity →
    IsAt base place spans index →
    Removes base place (gap_span_at spans index).start bytes (replicate (gap_span_at spans index).len int3) 0 (length bytes) spans index
removes base max_blocks capacity place index bytes spans kept at =
    span-remove base place (gap_span_at spans index).start bytes (replicate (gap_span_at spans index).len int3) 0 (length bytes) spans index (omega arith)
    kept.apart kept.quiet at.inside at.starts refl refl

-- a region without one of its stretches, whose bytes are INT3
pub record IsWithout (base max_blocks capacity place : ℕ) (bytes : List ℕ) (spans : List Span) (index : ℕ) (state : RegionState) : Type 0 where
  pub kept : IsKept base max_blocks (with_bytes_at bytes (gap_span_at spans index).start (replicate (gap_span_at spans index).len int3)) (remove spans index) capacity
  pub view : region_state_of base max_blocks (with_bytes_at bytes (gap_span_at spans index).start (replicate (gap_span_at spans index).len int3)) (remove spans index) ≡ after_release state place

-- the release of the span at an index takes that span away
pub without-found : (base max_blocks capacity place index : ℕ) (bytes : List ℕ) (spans : List Span) (state : RegionState) →
    region_state_of base max_blocks bytes spans ≡ state → IsKept base max_blocks bytes spans capacity → IsAt base place spans index →
    IsWithout base max_blocks capacity place bytes spans index state
unfolding after_release
without-found base max_blocks capacity place index bytes spans state e kept at =
    let start = (gap_span_at spans index).start in
    let xs = replicate (gap_span_at spans index).len int3 in
    let here = AreApart-at 0 (length bytes) spans index kept.apart at.inside in
    let n : length xs ≡ (gap_span_at spans index).len = length-replicate (gap_span_at spans index).len int3 in
    let l = length-overwritten bytes start xs (omega arith) in
    let left = removes base max_blocks capacity place index bytes spans kept at in
    let m = length-remove spans index at.inside in
    let A : ℕ → Type 0 = λ limit. AreApart 0 limit (remove spans index) in
    let Q : ℕ → Type 0 = λ limit. IsQuietAround (with_bytes_at bytes start xs) 0 limit (remove spans index) in
    let P : RegionState → Type 0 = λ s. region_state_of base max_blocks (with_bytes_at bytes start xs) (remove spans index) ≡ after_release s place in
    record {
      kept = record {
        small = rw l kept.small;
        inside = rw l kept.inside;
        apart = subst A (sym l) left.apart;
        quiet = subst Q (sym l) left.quiet;
        few = (let f = kept.few in omega arith);
        roomy = kept.roomy;
      };
      view = subst P e (ap (λ n. with_live base max_blocks n (map (block_of base (with_bytes_at bytes start xs)) (remove spans index))) l ∙ ap (with_live base max_blocks (length bytes)) left.blocks);
    }

-- the same, where bytes, stretches and room are equal
pub without-same : (base max_blocks capacity more place index : ℕ) (bytes bytes' : List ℕ) (spans spans' : List Span) (state : RegionState) (span : Span) →
    IsWithout base max_blocks capacity place bytes spans index state → index < length spans → span ≡ get_or spans index span →
    bytes' ≡ with_bytes_at bytes span.start (replicate span.len int3) → spans' ≡ remove spans index → capacity ≤ more →
    IsKept base max_blocks bytes' spans' more × (region_state_of base max_blocks bytes' spans' ≡ after_release state place)
without-same base max_blocks capacity more place index bytes bytes' spans spans' state span without h read b s grows =
    let at = get_or_read spans index span h read nowhere in
    let here : bytes' ≡ with_bytes_at bytes (gap_span_at spans index).start (replicate (gap_span_at spans index).len int3) =
    b ∙ ap (λ (x : Span). with_bytes_at bytes x.start (replicate x.len int3)) at in
    let K : List ℕ → Type 0 = λ xs. IsKept base max_blocks xs spans' more in
    let L : List Span → Type 0 = λ xs. IsKept base max_blocks (with_bytes_at bytes (gap_span_at spans index).start (replicate (gap_span_at spans index).len int3)) xs more in
    let k = without.kept in (
      subst K (sym here) (subst L (sym s) (record {
        small = k.small;
        inside = k.inside;
        apart = k.apart;
        quiet = k.quiet;
        few = k.few;
        roomy = (let r = k.roomy in omega arith);
      })),
      ap (λ xs. region_state_of base max_blocks xs spans') here ∙
          ap (λ xs. region_state_of base max_blocks (with_bytes_at bytes (gap_span_at spans index).start (replicate (gap_span_at spans index).len int3)) xs) s ∙ without.view,
    )

-- what a fill needs
pub can_fill-some : (state : RegionState) (place count : ℕ) (block : LiveBlock) → live_block state place ≡ Some block →
    IsTrue (can_fill state place count) → count ≤ block.len
unfolding can_fill
can_fill-some state place count block e h =
    let P : Option LiveBlock → Type 0 = λ found. IsTrue (block_holds found count) in
    leb-true count block.len (subst P e h)

-- without a live block at the place nothing can be filled
pub can_fill-none : (state : RegionState) (place count : ℕ) → live_block state place ≡ None → IsTrue (can_fill state place count) → ⊥
unfolding can_fill
can_fill-none state place count e h =
    let P : Option LiveBlock → Type 0 = λ found. IsTrue (block_holds found count) in
    let no : false ≡ true = subst P e h in cc

-- what fits the live block fits the stretch that was found
pub fits-found : (base max_blocks capacity place index count : ℕ) (bytes : List ℕ) (spans : List Span) (state : RegionState) (span : Span) →
    region_state_of base max_blocks bytes spans ≡ state → IsKept base max_blocks bytes spans capacity → IsAt base place spans index →
    span ≡ get_or spans index span → IsTrue (can_fill state place count) → count ≤ span.len
fits-found base max_blocks capacity place index count bytes spans state span e kept at read h =
    let P : Span → Type 0 = λ x. count ≤ x.len in
    subst P (sym (get_or_read spans index span at.inside read nowhere))
    (can_fill-some state place count _ (live_block-at base max_blocks capacity bytes spans state place index e kept at) h)

-- what a fill leaves
refilled-found : (base max_blocks capacity place index : ℕ) (bytes bytes' content : List ℕ) (spans : List Span) (state : RegionState) (span : Span) →
    region_state_of base max_blocks bytes spans ≡ state → IsKept base max_blocks bytes spans capacity → IsAt base place spans index →
    span ≡ get_or spans index span → IsTrue (can_fill state place (length content)) →
    bytes' ≡ with_bytes_at bytes span.start (content ++ replicate (span.len - length content) int3) →
    IsKept base max_blocks bytes' spans capacity × (region_state_of base max_blocks bytes' spans ≡ after_fill state place content)
unfolding after_fill
refilled-found base max_blocks capacity place index bytes bytes' content spans state span e kept at read can b =
    let fits = fits-found base max_blocks capacity place index (length content) bytes spans state span e kept at read can in
    let same = get_or_read spans index span at.inside read nowhere in
    let inside = found-inside base max_blocks capacity place index bytes spans span kept at read in
    let rest = replicate (span.len - length content) int3 in
    let xs = content ++ rest in
    let r = length-replicate (span.len - length content) int3 in
    let n : length xs ≡ span.len = omega (arith, length-append content rest) in
    let l = ap length b ∙ length-overwritten bytes span.start xs (omega arith) in
    let S : Span → Type 0 = λ x. Refills base place x.start bytes content (content ++ replicate (x.len - length content) int3) 0 (length bytes) spans in
    let there : length (content ++ replicate ((gap_span_at spans index).len - length content) int3) ≡ (gap_span_at spans index).len =
    (let T : Span → Type 0 = λ x. length (content ++ replicate (x.len - length content) int3) ≡ x.len in subst T same n) in
    let left = subst S (sym same) (span-refill base place (gap_span_at spans index).start bytes content
    (content ++ replicate ((gap_span_at spans index).len - length content) int3) 0 (length bytes) spans index (omega arith)
    kept.apart kept.quiet at.inside at.starts refl there refl) in
    let A : ℕ → Type 0 = λ limit. AreApart 0 limit spans in
    let Q : ℕ → Type 0 = λ limit. IsQuietAround bytes' 0 limit spans in
    let B : List ℕ → Type 0 = λ ys. IsQuietAround ys 0 (length bytes) spans in
    let P : RegionState → Type 0 = λ s. region_state_of base max_blocks bytes' spans ≡ after_fill s place content in (
      record {
        small = rw l kept.small;
        inside = rw l kept.inside;
        apart = subst A (sym l) kept.apart;
        quiet = subst Q (sym l) (subst B (sym b) left.quiet);
        few = kept.few;
        roomy = kept.roomy;
      },
      subst P e (ap (λ m. with_live base max_blocks m (map (block_of base bytes') spans)) l ∙
          ap (λ ys. with_live base max_blocks (length bytes) (map (block_of base ys) spans)) b ∙
          ap (with_live base max_blocks (length bytes)) left.blocks),
    )

-- the same, where bytes and stretches are equal
pub refilled-same : (base max_blocks capacity place index : ℕ) (bytes old new bytes' content : List ℕ) (spans spans' : List Span) (state : RegionState) (span : Span) →
    region_state_of base max_blocks bytes spans ≡ state → IsKept base max_blocks bytes spans capacity → spans' ≡ spans → IsAt base place spans' index →
    span ≡ get_or spans index span → IsTrue (can_fill state place (length content)) → old ≡ bytes →
    new ≡ with_bytes_at old span.start (content ++ replicate (span.len - length content) int3) → bytes' ≡ new →
    IsKept base max_blocks bytes' spans capacity × (region_state_of base max_blocks bytes' spans ≡ after_fill state place content)
refilled-same base max_blocks capacity place index bytes old new bytes' content spans spans' state span e kept s at read can o n b =
    refilled-found base max_blocks capacity place index bytes bytes' content spans state span e kept (at-same base place spans' spans index s at) read can
    (b ∙ n ∙ ap (λ xs. with_bytes_at xs span.start (content ++ replicate (span.len - length content) int3)) o)

-- the length of the stretch that was found
pub len-found : (base max_blocks capacity place index : ℕ) (bytes : List ℕ) (spans : List Span) (state : RegionState) (span : Span) →
    region_state_of base max_blocks bytes spans ≡ state → IsKept base max_blocks bytes spans capacity → IsAt base place spans index →
    span ≡ get_or spans index span → Some span.len ≡ option_map len_of (live_block state place)
len-found base max_blocks capacity place index bytes spans state span e kept at read =
    ap (λ (x : Span). Some x.len) (get_or_read spans index span at.inside read nowhere) ∙
    sym (ap (λ found. option_map len_of found) (live_block-at base max_blocks capacity bytes spans state place index e kept at))
