-- What a request for a place finds, in the user's words.
use Rattle.std.proofs.Common.{◌≡◌, ℕ, ◌+◌, ◌≤◌, ◌<◌, List, length, map, insert, arith, sym, ◌∙◌, ap, subst, refl, Option, None, option_map, Ok, Err}
use Rattle.std.proofs.lemmas.Bool.{ne_eqb, eq-eqb}
use Rattle.std.proofs.lemmas.Bool.Decides.{nat_tests}
use Rattle.std.proofs.lemmas.List.{length-map}
use Rattle.std.proofs.lemmas.List.Edits.{length-insert}
use Rattle.code_region.specs.declared.gaps.Span.{Span}
use Rattle.code_region.specs.declared.refusals.PlaceError.{PlaceError}
use Rattle.code_region.specs.declared.refusals.PlaceError.TheVariants.{Empty, TooManyBlocks, Full}
use Rattle.code_region.specs.Gaps.{gaps_between, first_gap, longest}
use Rattle.code_region.specs.State.{LiveBlock, RegionState, len_in_units}
use Rattle.code_region.specs.Placing.{place_in_gap, place_answer, placed_as, after_place, unfilled_block, with_block}
use Rattle.code_region.specs.Keeping.{block_of, region_state_of, IsKept}
use Rattle.code_region.specs.Searching.{IsGapFit, IsFull}
use Rattle.code_region.proofs.Views.{moved, gaps_of-view, first_gap-moved, longest-moved, quiet-replicate}
use Rattle.code_region.proofs.Inserting.{Inserts, gap-insert}

-- a refusal changes nothing
pub placed-refused : (state : RegionState) (len : ℕ) (refusal : PlaceError) → Err refusal ≡ place_answer state len → state ≡ after_place state len
unfolding after_place
placed-refused state len refusal e = ap (λ answer. placed_as answer state len) e

-- a length of 0 is refused as empty
pub answer-empty : (state : RegionState) (len : ℕ) → len ≡ 0 → Err Empty ≡ place_answer state len
unfolding place_answer
answer-empty state len e = rw (eq-eqb len 0 e) refl

-- no length but 0 rounds to 0
pub rounded-some : (len needed : ℕ) → needed ≡ len_in_units len → (len ≡ 0 → ⊥) → 0 < needed
unfolding len_in_units
rounded-some len needed e some = grind (arith, nat_tests)

-- the answer where a block has room, by the gap that was found
answer-open : (base max_blocks : ℕ) (bytes : List ℕ) (spans : List Span) (len needed : ℕ) (found : Option Span) (largest : ℕ) →
    (len ≡ 0 → ⊥) → (length spans ≡ max_blocks → ⊥) → needed ≡ len_in_units len →
    first_gap needed (gaps_between 0 (length bytes) spans) ≡ found → longest (gaps_between 0 (length bytes) spans) ≡ largest →
    place_answer (region_state_of base max_blocks bytes spans) len ≡ place_in_gap (option_map (moved base) found) needed largest
unfolding place_answer
answer-open base max_blocks bytes spans len needed found largest some room e first long =
    let gaps = gaps_of-view base max_blocks bytes spans in
    let f = ap (λ g. first_gap (len_in_units len) g) gaps ∙ first_gap-moved base (len_in_units len) (gaps_between 0 (length bytes) spans) in
    let l = ap longest gaps ∙ longest-moved base (gaps_between 0 (length bytes) spans) ∙ long in
    rw (ne_eqb len 0 some, length-map spans (block_of base bytes), ne_eqb (length spans) max_blocks room, f, l, ← e, first) refl

-- at the most blocks a further one is refused
pub answer-many : (base max_blocks : ℕ) (bytes : List ℕ) (spans : List Span) (state : RegionState) (len : ℕ) → region_state_of base max_blocks bytes spans ≡ state →
    (len ≡ 0 → ⊥) → length spans ≡ max_blocks → Err (TooManyBlocks max_blocks) ≡ place_answer state len
unfolding place_answer
answer-many base max_blocks bytes spans state len e some full =
    let P : RegionState → Type 0 = λ s. Err (TooManyBlocks max_blocks) ≡ place_answer s len in
    subst P e (rw (ne_eqb len 0 some, length-map spans (block_of base bytes), eq-eqb (length spans) max_blocks full) refl)

-- a length for which a gap was found gets the start of that gap
pub answer-found : (base max_blocks : ℕ) (bytes : List ℕ) (spans : List Span) (state : RegionState) (len needed index start packed : ℕ) →
    region_state_of base max_blocks bytes spans ≡ state → (len ≡ 0 → ⊥) → (length spans ≡ max_blocks → ⊥) → needed ≡ len_in_units len →
    IsGapFit (length bytes) spans needed index start packed → Ok (base + start) ≡ place_answer state len
answer-found base max_blocks bytes spans state len needed index start packed e some room r fit =
    let P : RegionState → Type 0 = λ s. Ok (base + start) ≡ place_answer s len in
    subst P e (sym (answer-open base max_blocks bytes spans len needed _ _ some room r fit.first refl))

-- without such a gap the region is full, with the length of its largest gap
pub answer-full : (base max_blocks : ℕ) (bytes : List ℕ) (spans : List Span) (state : RegionState) (len needed largest : ℕ) →
    region_state_of base max_blocks bytes spans ≡ state → (len ≡ 0 → ⊥) → (length spans ≡ max_blocks → ⊥) → needed ≡ len_in_units len →
    IsFull (length bytes) spans needed largest → Err (Full needed largest) ≡ place_answer state len
answer-full base max_blocks bytes spans state len needed largest e some room r full =
    let P : RegionState → Type 0 = λ s. Err (Full needed largest) ≡ place_answer s len in
    subst P e (sym (answer-open base max_blocks bytes spans len needed None largest some room r full.missing full.longest_gap))

-- the same search, where bounds and stretches are equal
pub fit-same : (limit limit' : ℕ) (spans spans' : List Span) (needed index start packed : ℕ) → limit ≡ limit' → spans ≡ spans' →
    IsGapFit limit spans needed index start packed → IsGapFit limit' spans' needed index start packed
fit-same limit limit' spans spans' needed index start packed e f fit =
    let P : ℕ → Type 0 = λ n. IsGapFit n spans' needed index start packed in
    let Q : List Span → Type 0 = λ xs. IsGapFit limit xs needed index start packed in
    subst P e (subst Q f fit)

-- the search that finds nothing depends on the limit and the spans alone
pub full-same : (limit limit' : ℕ) (spans spans' : List Span) (needed largest : ℕ) → limit ≡ limit' → spans ≡ spans' →
    IsFull limit spans needed largest → IsFull limit' spans' needed largest
full-same limit limit' spans spans' needed largest e f full =
    let P : ℕ → Type 0 = λ n. IsFull n spans' needed largest in
    let Q : List Span → Type 0 = λ xs. IsFull limit xs needed largest in
    subst P e (subst Q f full)

-- what the stretch of that gap leaves
pub fit-inserts : (base max_blocks : ℕ) (bytes : List ℕ) (spans : List Span) (capacity needed index start packed : ℕ) → IsKept base max_blocks bytes spans capacity →
    0 < needed → IsGapFit (length bytes) spans needed index start packed → Inserts base bytes 0 (length bytes) spans index (record { start = start; len = needed })
fit-inserts base max_blocks bytes spans capacity needed index start packed kept some fit =
    gap-insert base bytes 0 (length bytes) spans index (record { start = start; len = needed }) kept.apart kept.quiet
    (record { inside = fit.inside; front = fit.front; some = some; fits = fit.fits })

-- the invariant holds after the insertion of a span into its gap
pub kept-insert : (base max_blocks : ℕ) (bytes : List ℕ) (spans : List Span) (capacity more needed index start packed : ℕ) → IsKept base max_blocks bytes spans capacity →
    0 < needed → (length spans ≡ max_blocks → ⊥) → capacity ≤ more → IsGapFit (length bytes) spans needed index start packed →
    IsKept base max_blocks bytes (insert spans index (record { start = start; len = needed })) more
kept-insert base max_blocks bytes spans capacity more needed index start packed kept some room grows fit =
    let inserts = fit-inserts base max_blocks bytes spans capacity needed index start packed kept some fit in
    let one : Span = record { start = start; len = needed } in
    let l = length-insert spans index one fit.inside in
    record {
      small = kept.small;
      inside = kept.inside;
      apart = inserts.apart;
      quiet = inserts.quiet;
      few = omega arith;
      roomy = omega arith;
    }

-- the region after that is the one that placing gives
pub state-insert : (base max_blocks : ℕ) (bytes : List ℕ) (spans : List Span) (state : RegionState) (capacity len needed index start packed : ℕ) →
    region_state_of base max_blocks bytes spans ≡ state → IsKept base max_blocks bytes spans capacity → (len ≡ 0 → ⊥) → (length spans ≡ max_blocks → ⊥) →
    needed ≡ len_in_units len → IsGapFit (length bytes) spans needed index start packed →
    region_state_of base max_blocks bytes (insert spans index (record { start = start; len = needed })) ≡ after_place state len
unfolding after_place
state-insert base max_blocks bytes spans state capacity len needed index start packed e kept some room r fit =
    let one : Span = record { start = start; len = needed } in
    let inserts = fit-inserts base max_blocks bytes spans capacity needed index start packed kept (rounded-some len needed r some) fit in
    let answer = answer-found base max_blocks bytes spans (region_state_of base max_blocks bytes spans) len needed index start packed refl some room r fit in
    let still = quiet-replicate bytes start needed inserts.inside inserts.within in
    let with_content : List ℕ → LiveBlock = λ content. record { place = base + start; len = needed; content = content } in
    let with_live : List LiveBlock → RegionState = λ live. record { base = base; size = length bytes; max_blocks = max_blocks; live = live } in
    let P : RegionState → Type 0 = λ s. region_state_of base max_blocks bytes (insert spans index one) ≡ placed_as (place_answer s len) s len in
    let live = sym inserts.blocks ∙ ap (λ content. with_block (with_content content) (map (block_of base bytes) spans)) still in
    let Q : ℕ → Type 0 = λ n. map (block_of base bytes) (insert spans index one) ≡ with_block (unfilled_block (base + start) n) (map (block_of base bytes) spans) in
    subst P e (ap with_live (subst Q r live) ∙ ap (λ a. placed_as a (region_state_of base max_blocks bytes spans) len) answer)
