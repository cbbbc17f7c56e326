-- The user's view of stretches of bytes: their gaps, the block at an address, the image.
use Rattle.std.proofs.Common.{◌≡◌, ℕ, zero, suc, ◌+◌, ◌-◌, ◌≤◌, ◌<◌, List, [], ◌∷◌, ◌++◌, length, take, drop, get_or, map, replicate, arith, sym, ◌∙◌, ap, subst, refl, max, Some, None, option_map, false, true, cond, nat_le, nat_eq, find, slice_get, drop-drop, length-drop, length-take-le, get_or-take, get_or-drop}
use Rattle.std.proofs.lemmas.Bool.{ne_eqb, eq-eqb}
use Rattle.std.proofs.lemmas.List.{take-append-drop, take_rest, length-replicate, get_or-replicate, get_or_default, get_or_read, length-map, same_lists}
use Rattle.code_region.specs.declared.gaps.Span.{Span}
use Rattle.code_region.specs.Gaps.{gaps_between, first_gap, longest}
use Rattle.code_region.specs.State.{RegionState, int3, span_of, place_and_len, gaps_of, image_between, region_image}
use Rattle.code_region.specs.Keeping.{AreApart, AreLaid, IsSound, IsQuiet, IsQuietAround, block_of, region_state_of}
use Rattle.code_region.specs.Searching.{gap_span_at, nowhere, IsNowhere}
use Rattle.code_region.proofs.Apart.{AreApart-le, AreApart-at}

-- a stretch, in addresses
abbrev pub moved : ℕ → Span → Span
moved base span = record { start = base + span.start; len = span.len }

-- the gaps between spans are those between the blocks that they stand for
pub gaps-view : (base from limit : ℕ) (bytes : List ℕ) (spans : List Span) →
    gaps_between (base + from) (base + limit) (map span_of (map (block_of base bytes) spans)) ≡ map (moved base) (gaps_between from limit spans)
gaps-view base from limit bytes [] =
    let gap : ℕ → List Span = λ n. record { start = base + from; len = n } ∷ [] in
    let e : base + limit - (base + from) ≡ limit - from = omega arith in
    ap gap e
gaps-view base from limit bytes (span ∷ spans) =
    let rest = gaps-view base (span.start + span.len) limit bytes spans in
    let e : base + span.start - (base + from) ≡ span.start - from = omega arith in
    let f : base + span.start + span.len ≡ base + (span.start + span.len) = omega arith in
    rw (e, f, rest) refl

-- the gaps of a region are those between its spans
pub gaps_of-view : (base max_blocks : ℕ) (bytes : List ℕ) (spans : List Span) →
    gaps_of (region_state_of base max_blocks bytes spans) ≡ map (moved base) (gaps_between 0 (length bytes) spans)
unfolding gaps_of
gaps_of-view base max_blocks bytes spans =
    let P : ℕ → Type 0 = λ n. gaps_between n (base + length bytes) (map span_of (map (block_of base bytes) spans)) ≡ map (moved base) (gaps_between 0 (length bytes) spans) in
    let e : base + 0 ≡ base = omega arith in
    subst P e (gaps-view base 0 (length bytes) bytes spans)

-- the first gap with room is found alike at another base
pub first_gap-moved : (base len : ℕ) (gaps : List Span) → first_gap len (map (moved base) gaps) ≡ option_map (moved base) (first_gap len gaps)
first_gap-moved base len [] = refl
first_gap-moved base len (gap ∷ gaps) =
    elim (nat_le len gap.len) as (λ b. cond b (Some (moved base gap)) (first_gap len (map (moved base) gaps)) ≡ option_map (moved base) (cond b (Some gap) (first_gap len gaps)))
    [ true ↦ refl | false ↦ first_gap-moved base len gaps ]

-- and so is the longest gap
pub longest-moved : (base : ℕ) (gaps : List Span) → longest (map (moved base) gaps) ≡ longest gaps
longest-moved base [] = refl
longest-moved base (gap ∷ gaps) = ap (λ n. max gap.len n) (longest-moved base gaps)

-- the block that starts at an address
pub find-view : (base place from limit : ℕ) (bytes : List ℕ) (spans : List Span) (i : ℕ) → AreApart from limit spans → i < length spans →
    base + (gap_span_at spans i).start ≡ place →
    find (λ block. nat_eq block.place place) (map (block_of base bytes) spans) ≡ Some (block_of base bytes (gap_span_at spans i))
find-view base place from limit bytes [] i apart h e = absurd (omega arith)
find-view base place from limit bytes (span ∷ spans) zero apart h e = rw (eq-eqb (base + span.start) place e) refl
find-view base place from limit bytes (span ∷ spans) (suc i) apart h e =
    let at = AreApart-at (span.start + span.len) limit spans i apart.2 (omega arith) in
    let other : base + span.start ≡ place → ⊥ = λ same. absurd (omega arith) in
    rw (ne_eqb (base + span.start) place other) (find-view base place (span.start + span.len) limit bytes spans i apart.2 (omega arith) e)

-- no block is found at a place at which no span starts
pub find-nowhere : (base place : ℕ) (bytes : List ℕ) (spans : List Span) → IsNowhere base place spans →
    find (λ block. nat_eq block.place place) (map (block_of base bytes) spans) ≡ None
find-nowhere base place bytes [] none = refl
find-nowhere base place bytes (span ∷ spans) none =
    rw (ne_eqb (base + span.start) place (none 0 (omega arith))) (find-nowhere base place bytes spans (λ i h. none (suc i) (omega arith)))

-- bytes that are INT3
pub quiet-replicate : (bytes : List ℕ) (from n : ℕ) → from + n ≤ length bytes → IsQuiet bytes from (from + n) → take n (drop from bytes) ≡ replicate n int3
quiet-replicate bytes from n h quiet =
    let l : length (take n (drop from bytes)) ≡ n = length-take-le n (drop from bytes) (omega (arith, length-drop from bytes)) in
    same_lists _ _ (l ∙ sym (length-replicate n int3)) (λ k d below.
    let lt : k < n = omega arith in
    get_or-take n (drop from bytes) k d lt ∙ get_or-drop from bytes k d ∙ get_or_default bytes (from + k) d 0 (omega arith) ∙
    quiet (from + k) (omega arith) (omega arith) ∙ sym (get_or-replicate n k int3 d lt))

-- the image of a region is its bytes if those outside the spans are CC
pub image-view : (base from : ℕ) (bytes : List ℕ) (spans : List Span) → AreApart from (length bytes) spans → IsQuietAround bytes from (length bytes) spans →
    image_between (base + from) (base + length bytes) (map (block_of base bytes) spans) ≡ drop from bytes
image-view base from bytes [] apart quiet =
    let e : base + length bytes - (base + from) ≡ length bytes - from = omega arith in
    let still = quiet-replicate bytes from (length bytes - from) (omega arith) (λ k h l. quiet k h (omega arith)) in
    ap (λ n. replicate n int3) e ∙ sym still ∙ take_rest bytes from
image-view base from bytes (span ∷ spans) apart quiet =
    let below = AreApart-le _ _ _ apart.2 in
    let e : base + span.start - (base + from) ≡ span.start - from = omega arith in
    let still = quiet-replicate bytes from (span.start - from) (omega arith) (λ k h l. quiet.0 k h (omega arith)) in
    let f : base + (span.start + span.len) ≡ base + span.start + span.len = omega arith in
    let P : ℕ → Type 0 = λ n. image_between n (base + length bytes) (map (block_of base bytes) spans) ≡ drop (span.start + span.len) bytes in
    let rest = subst P f (image-view base (span.start + span.len) bytes spans apart.2 quiet.1) in
    let behind = ap (λ xs. take span.len (drop span.start bytes) ++ xs) (rest ∙ sym (drop-drop span.len span.start bytes)) ∙
    take-append-drop span.len (drop span.start bytes) in
    let g : from + (span.start - from) ≡ span.start = omega arith in
    let back = drop-drop (span.start - from) from bytes ∙ ap (λ n. drop n bytes) g in
    ap (λ xs. replicate (base + span.start - (base + from)) int3 ++ xs) (behind ∙ sym back) ∙
    ap (λ xs. xs ++ drop (span.start - from) (drop from bytes)) (ap (λ n. replicate n int3) e ∙ sym still) ∙
    take-append-drop (span.start - from) (drop from bytes)

-- the image of all bytes
pub image_of-view : (base max_blocks : ℕ) (bytes : List ℕ) (spans : List Span) → AreApart 0 (length bytes) spans → IsQuietAround bytes 0 (length bytes) spans →
    region_image (region_state_of base max_blocks bytes spans) ≡ bytes
unfolding region_image
image_of-view base max_blocks bytes spans apart quiet =
    let P : ℕ → Type 0 = λ n. image_between n (base + length bytes) (map (block_of base bytes) spans) ≡ bytes in
    let e : base + 0 ≡ base = omega arith in
    subst P e (image-view base 0 bytes spans apart quiet)

-- the blocks stand by address, none over another
pub laid-view : (base from limit : ℕ) (bytes : List ℕ) (spans : List Span) → limit ≤ length bytes → AreApart from limit spans →
    AreLaid (base + from) (base + limit) (map (block_of base bytes) spans)
laid-view base from limit bytes [] h apart = omega arith
laid-view base from limit bytes (span ∷ spans) h apart =
    let below = AreApart-le _ _ _ apart.2 in
    let rest = laid-view base (span.start + span.len) limit bytes spans h apart.2 in
    let e : base + (span.start + span.len) ≡ base + span.start + span.len = omega arith in
    let l : length (take span.len (drop span.start bytes)) ≡ span.len = length-take-le span.len (drop span.start bytes) (omega (arith, length-drop span.start bytes)) in
    (omega arith, apart.1, l, subst (λ n. AreLaid n (base + limit) (map (block_of base bytes) spans)) e rest)

-- spans that lie apart stand for a sound region
pub sound-view : (base max_blocks : ℕ) (bytes : List ℕ) (spans : List Span) → AreApart 0 (length bytes) spans → IsSound (region_state_of base max_blocks bytes spans)
sound-view base max_blocks bytes spans apart =
    let P : ℕ → Type 0 = λ n. AreLaid n (base + length bytes) (map (block_of base bytes) spans) in
    let e : base + 0 ≡ base = omega arith in
    subst P e (laid-view base 0 (length bytes) bytes spans (omega arith) apart)

-- the address and the length at an index
pub slice_get-view : (base : ℕ) (bytes : List ℕ) (spans : List Span) (i : ℕ) → i < length spans →
    slice_get (map place_and_len (map (block_of base bytes) spans)) i ≡ Some (place_and_len (block_of base bytes (gap_span_at spans i)))
slice_get-view base bytes [] i h = absurd (omega arith)
slice_get-view base bytes (span ∷ spans) zero h = refl
slice_get-view base bytes (span ∷ spans) (suc i) h = slice_get-view base bytes spans i (omega arith)

-- the stretch at an index below the number of live blocks
pub index-view : (base max_blocks : ℕ) (bytes : List ℕ) (spans : List Span) (state : RegionState) (i : ℕ) → region_state_of base max_blocks bytes spans ≡ state →
    i < length state.live → i < length spans
index-view base max_blocks bytes spans state i e h =
    let P : RegionState → Type 0 = λ s. i < length s.live in
    let l = length-map spans (block_of base bytes) in
    let g : i < length (map (block_of base bytes) spans) = subst P (sym e) h in
    omega arith

-- its address and length
pub place_and_len-view : (base max_blocks : ℕ) (bytes : List ℕ) (spans : List Span) (state : RegionState) (i : ℕ) (span : Span) →
    region_state_of base max_blocks bytes spans ≡ state → i < length spans → span ≡ get_or spans i span →
    slice_get (map place_and_len state.live) i ≡ Some (base + span.start, span.len)
place_and_len-view base max_blocks bytes spans state i span e h read =
    let P : RegionState → Type 0 = λ s. slice_get (map place_and_len s.live) i ≡ Some (base + span.start, span.len) in
    let Q : Span → Type 0 = λ x. slice_get (map place_and_len (map (block_of base bytes) spans)) i ≡ Some (base + x.start, x.len) in
    subst P e (subst Q (sym (get_or_read spans i span h read nowhere)) (slice_get-view base bytes spans i h))
