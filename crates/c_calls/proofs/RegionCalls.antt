-- What the calls over a region answer, from what the searches find.
use Rattle.std.proofs.Common.{◌≡◌, ℕ, ◌+◌, ◌-◌, ◌*◌, ◌/◌, ◌^◌, ◌<◌, ◌≤◌, true, false, List, [], ◌∷◌, ◌++◌, length, take, drop, map, get_or, set, Option, Some, None, refl, sym, ap, ◌∙◌, subst, arith, append_assoc, length-append, length-take-le, length-drop, replicate}
use Rattle.std.specs.Prelude.{◌==◌, ◌&&◌, nat_le, ℤ, pos, Result, Ok, Err, is_none}
use Rattle.std.proofs.lemmas.Bool.{and_parts, leb-true, le-leb, lt-leb, eq-eqb, ne_eqb, cond-true, cond-false, cond_both}
use Rattle.std.proofs.lemmas.List.{map-append, take_more, length-map, take-take, drop-take}
use Rattle.std.proofs.Math.Seq.{set-append_seam, take-append_seam, drop-append_seam}
use Rattle.code_region.specs.declared.gaps.Span.{Span}
use Rattle.code_region.specs.declared.refusals.PlaceError.{PlaceError}
use Rattle.code_region.specs.declared.refusals.PlaceError.TheVariants.{Empty, TooManyBlocks, Full}
use Rattle.code_region.specs.Opening.{open_refusal}
use Rattle.code_region.specs.Gaps.{longest}
use Rattle.code_region.specs.State.{LiveBlock, RegionState, int3, len_in_units, gaps_of, live_block}
use Rattle.code_region.specs.Placing.{place_in_gap, with_block, unfilled_block, place_answer, after_place, placed_as}
use Rattle.code_region.specs.Releasing.{release_of, release_answer, after_release}
use Rattle.code_region.specs.declared.refusals.FillError.{FillError}
use Rattle.code_region.specs.declared.refusals.FillError.TheVariants as fill
use Rattle.code_region.specs.Filling.{with_content, fill_answer}
use Rattle.code_region.specs.Keeping.{with_bytes_at}
use Rattle.c_calls.specs.declared.flat.FlatRegion.{FlatRegion}
use Rattle.c_calls.specs.declared.flat.FlatLive.{FlatLive}
use Rattle.c_calls.specs.Regions.{are_laid, are_in_units, live_of, is_region, live_block_of, region_of, IsLeft, place_said, place_left, IsPlacedIn, IsReservedIn, release_said, IsReleasedIn, fill_said, image_left, IsFilledIn}
use Rattle.c_calls.specs.RegionSearch.{gap_of, IsStart, IsNewPlace, IsRegionFull, no_live, IsRegion, StartsAt, StartsNowhere}

-- ---- which numbers are a region

opened_end : (base size room : ℕ) → is_none (open_refusal base size room) ≡ true → base + size ≤ 2 ^ 64
unfolding open_refusal
opened_end base size room h = grind arith

-- a list that passes the test is a region
pub region_is : (region : FlatRegion) (blocks : List FlatLive) → is_region region blocks ≡ true → IsRegion region blocks
unfolding is_region
region_is region blocks h =
    let laid = are_laid region.base (region.base + region.size) (live_of region blocks) in
    let units = are_in_units region.base (live_of region blocks) in
    let p = and_parts (is_none (open_refusal region.base region.size (length blocks))) (nat_le region.count (length blocks) && (laid && units)) h in
    let q = and_parts (nat_le region.count (length blocks)) (laid && units) p.1 in
    let r = and_parts laid units q.1 in
    record {
      few = leb-true region.count (length blocks) q.0;
      laid = r.0;
      units = r.1;
      end = opened_end region.base region.size (length blocks) p.0;
    }

-- a length that is not 0 is rounded to one that is not
pub rounded-some : (len : ℕ) → 0 < len → 0 < len_in_units len
unfolding len_in_units
rounded-some len some = cond_both (nat_le len (2 ^ 64 - 16)) ((len + 15) / 16 * 16) (2 ^ 64 - 16) (λ (n : ℕ). 0 < n) (λ e. omega arith) (λ e. omega arith)

-- how many blocks are live
pub live_count : (region : FlatRegion) (blocks : List FlatLive) → IsRegion region blocks → length (map live_block_of (live_of region blocks)) ≡ region.count
live_count region blocks is = length-map (live_of region blocks) live_block_of ∙ length-take-le region.count blocks is.few

-- ---- a place

-- the front of a gap that starts at an address
front_start : (g : Option Span) (place len largest : ℕ) → IsStart g place → place_in_gap g len largest ≡ Ok place
front_start None place len largest h = absurd h
front_start (Some gap) place len largest h = ap Ok h

module _ (region : FlatRegion) (blocks : List FlatLive) (is : IsRegion region blocks) (len : ℕ) where
  -- a request for 0 bytes is refused as empty
  pub none-answer : len ≡ 0 → place_answer (region_of region blocks) len ≡ Err Empty
  unfolding place_answer
  none-answer e = cond-true (len == 0) _ _ (eq-eqb len 0 e)

  -- a request is refused if each element of the array is a live block
  pub many-answer : (len ≡ 0 → ⊥) → region.count ≡ length blocks → place_answer (region_of region blocks) len ≡ Err (TooManyBlocks (length blocks))
  unfolding place_answer
  many-answer some e =
      cond-false (len == 0) _ _ (ne_eqb len 0 some)
      ∙ cond-true (length (map live_block_of (live_of region blocks)) == length blocks) _ _ (eq-eqb (length (map live_block_of (live_of region blocks))) (length blocks) (live_count region blocks is ∙ e))

  front : (len ≡ 0 → ⊥) → (region.count ≡ length blocks → ⊥) → place_answer (region_of region blocks) len
      ≡ place_in_gap (gap_of region.base (region.base + region.size) (len_in_units len) (live_of region blocks)) (len_in_units len) (longest (gaps_of (region_of region blocks)))
  unfolding place_answer gaps_of
  front some few =
      let more : length (map live_block_of (live_of region blocks)) ≡ length blocks → ⊥ =
      λ (e : length (map live_block_of (live_of region blocks)) ≡ length blocks). few (sym (live_count region blocks is) ∙ e) in
      cond-false (len == 0) _ _ (ne_eqb len 0 some)
      ∙ cond-false (length (map live_block_of (live_of region blocks)) == length blocks) _ _ (ne_eqb (length (map live_block_of (live_of region blocks))) (length blocks) more)

  -- a request is refused if no gap is long enough
  pub full-answer : (len ≡ 0 → ⊥) → (region.count ≡ length blocks → ⊥) → IsRegionFull region.base (region.base + region.size) (len_in_units len) (live_of region blocks) →
      place_answer (region_of region blocks) len ≡ Err (Full (len_in_units len) (longest (gaps_of (region_of region blocks))))
  full-answer some few full =
      front some few ∙ ap (λ (g : Option Span). place_in_gap g (len_in_units len) (longest (gaps_of (region_of region blocks)))) full

  -- otherwise the request is answered with the found place
  pub new-answer : (len ≡ 0 → ⊥) → (region.count ≡ length blocks → ⊥) → (index place : ℕ) →
      IsNewPlace region.base (region.base + region.size) (len_in_units len) (live_of region blocks) index place →
      place_answer (region_of region blocks) len ≡ Ok place
  new-answer some few index place new =
      front some few ∙ front_start (gap_of region.base (region.base + region.size) (len_in_units len) (live_of region blocks)) place (len_in_units len) (longest (gaps_of (region_of region blocks))) new.start

-- a refusal leaves all as it was
pub refused-in : (region : FlatRegion) (blocks : List FlatLive) (len old : ℕ) (e : PlaceError) (said : ℤ) → place_answer (region_of region blocks) len ≡ Err e →
    said ≡ place_said (Err e) → IsReservedIn region region blocks blocks len old old said
refused-in region blocks len old e said is told =
    let L : Result ℕ PlaceError → Type 0 = λ a. IsPlacedIn a region region blocks blocks len in
    record {
      said_is = told ∙ sym (ap place_said is);
      place_is = sym (ap (place_left old) is);
      left = subst L (sym is) (record { region_is = refl; blocks_are = refl });
    }

-- ---- the array

-- one block more among the first ones of the array
pub put-is : (old : List FlatLive) (count index : ℕ) (block : FlatLive) → index ≤ count → count < length old →
    set ((take (index + 1) old ++ take (count - index) (drop index old)) ++ drop (index + 1 + (count - index)) old) index block
    ≡ (take index (take count old) ++ block ∷ drop index (take count old)) ++ drop (count + 1) old
put-is old count index block le lt =
    let xs = take index old in
    let y = get_or old index no_live in
    let u = take (count - index) (drop index old) in
    let w = drop (index + 1 + (count - index)) old in
    let size : index ≡ length xs = sym (length-take-le index old (omega (arith, le, lt))) in
    let first : take (index + 1) old ≡ xs ++ y ∷ [] = take_more old index no_live (omega (arith, le, lt)) in
    let all : (take (index + 1) old ++ u) ++ w ≡ xs ++ y ∷ (u ++ w) =
    ap (λ (zs : List FlatLive). (zs ++ u) ++ w) first ∙ (ap (λ (zs : List FlatLive). zs ++ w) (append_assoc xs (y ∷ []) u) ∙ append_assoc xs (y ∷ u) w) in
    let whole : index + (count - index) ≡ count = omega (arith, le) in
    let behind : index + 1 + (count - index) ≡ count + 1 = omega (arith, le) in
    let rest : u ≡ drop index (take count old) = sym (drop-take index (count - index) old) ∙ ap (λ (n : ℕ). drop index (take n old)) whole in
    let before : xs ≡ take index (take count old) = sym (take-take index count old le) in
    ap (λ (zs : List FlatLive). set zs index block) all
    ∙ (ap (λ (n : ℕ). set (xs ++ y ∷ (u ++ w)) n block) size
    ∙ (set-append_seam xs y (u ++ w) block
    ∙ (sym (append_assoc xs (block ∷ u) w)
    ∙ (ap (λ (zs : List FlatLive). (zs ++ block ∷ u) ++ w) before
    ∙ (ap (λ (zs : List FlatLive). (take index (take count old) ++ block ∷ zs) ++ w) rest
    ∙ ap (λ (n : ℕ). (take index (take count old) ++ block ∷ drop index (take count old)) ++ drop n old) behind)))))

-- one block less
pub taken-is : (old : List FlatLive) (count index : ℕ) → index < count → count ≤ length old →
    (take index old ++ take (count - (index + 1)) (drop (index + 1) old)) ++ drop (index + (count - (index + 1))) old
    ≡ (take index (take count old) ++ drop (index + 1) (take count old)) ++ drop (count - 1) old
taken-is old count index lt le =
    let u = take (count - (index + 1)) (drop (index + 1) old) in
    let w = drop (index + (count - (index + 1))) old in
    let whole : index + 1 + (count - (index + 1)) ≡ count = omega (arith, lt) in
    let behind : index + (count - (index + 1)) ≡ count - 1 = omega (arith, lt) in
    let rest : u ≡ drop (index + 1) (take count old) = sym (drop-take (index + 1) (count - (index + 1)) old) ∙ ap (λ (n : ℕ). drop (index + 1) (take n old)) whole in
    let before : take index old ≡ take index (take count old) = sym (take-take index count old (omega (arith, lt))) in
    ap (λ (zs : List FlatLive). (zs ++ u) ++ w) before
    ∙ (ap (λ (zs : List FlatLive). (take index (take count old) ++ zs) ++ w) rest
    ∙ ap (λ (n : ℕ). (take index (take count old) ++ drop (index + 1) (take count old)) ++ drop n old) behind)

-- other live blocks at the front of an array that is as long, and behind them the same
pub left-by : (region : FlatRegion) (blocks blocks' live : List FlatLive) (n : ℕ) (state : RegionState) → blocks' ≡ live ++ drop n blocks → length live ≡ n →
    length blocks' ≡ length blocks → record { base = region.base; size = region.size; max_blocks = length blocks; live = map live_block_of live } ≡ state →
    IsLeft region (record { base = region.base; size = region.size; count = n }) blocks blocks' state
left-by region blocks blocks' live n state is count same e =
    let front : take n blocks' ≡ live =
    ap (take n) is ∙ (ap (λ (k : ℕ). take k (live ++ drop n blocks)) (sym count) ∙ take-append_seam live (drop n blocks)) in
    let back : drop n blocks' ≡ drop n blocks =
    ap (drop n) is ∙ (ap (λ (k : ℕ). drop k (live ++ drop n blocks)) (sym count) ∙ drop-append_seam live (drop n blocks)) in
    let size : n ≡ length (map live_block_of live) = sym count ∙ sym (length-map live live_block_of) in
    let R : ℕ → List FlatLive → RegionState = λ k bs. record { base = region.base; size = region.size; max_blocks = k; live = map live_block_of bs } in
    record {
      base = refl;
      size = refl;
      count = size ∙ ap (λ (s : RegionState). length s.live) e;
      state_is = ap (λ (k : ℕ). R k (take n blocks')) same ∙ (ap (λ (bs : List FlatLive). R (length blocks) bs) front ∙ e);
      behind = back;
    }

-- ---- one block more

-- the region with it
placed_by : (region : FlatRegion) (blocks : List FlatLive) (len place : ℕ) → place_answer (region_of region blocks) len ≡ Ok place →
    after_place (region_of region blocks) len ≡ record (region_of region blocks) { live = with_block (unfilled_block place (len_in_units len)) (map live_block_of (live_of region blocks)) }
unfolding after_place
placed_by region blocks len place answer = ap (λ (a : Result ℕ PlaceError). placed_as a (region_of region blocks) len) answer

-- a block that is placed is put in at its place
pub placed-in : (region : FlatRegion) (blocks blocks' : List FlatLive) (len index place : ℕ) (said : ℤ) → IsRegion region blocks → (len ≡ 0 → ⊥) → region.count < length blocks →
    IsNewPlace region.base (region.base + region.size) (len_in_units len) (live_of region blocks) index place → said ≡ pos 0 →
    (block : FlatLive) → block ≡ record { place = place; len = len_in_units len } →
    blocks' ≡ (take index (live_of region blocks) ++ block ∷ drop index (live_of region blocks)) ++ drop (region.count + 1) blocks → length blocks' ≡ length blocks → (old : ℕ) →
    IsReservedIn region (record { base = region.base; size = region.size; count = region.count + 1 }) blocks blocks' len old place said
placed-in region blocks blocks' len index place said is some few new told block block_is array same old =
    let live = live_of region blocks in
    let b : FlatLive = record { place = place; len = len_in_units len } in
    let more = take index live ++ b ∷ drop index live in
    let answer : place_answer (region_of region blocks) len ≡ Ok place =
    new-answer region blocks is len some (λ (e : region.count ≡ length blocks). omega (arith, e, few)) index place new in
    let count : length more ≡ region.count + 1 =
    omega (arith, length-append (take index live) (b ∷ drop index live), length-take-le index live new.within, length-drop index live, length-take-le region.count blocks is.few, new.within) in
    let listed : map live_block_of more ≡ with_block (live_block_of b) (map live_block_of live) =
    map-append live_block_of (take index live) (b ∷ drop index live) ∙ sym (new.order (len_in_units len)) in
    let L : Result ℕ PlaceError → Type 0 = λ a. IsPlacedIn a region (record { base = region.base; size = region.size; count = region.count + 1 }) blocks blocks' len in
    let S : List LiveBlock → RegionState = λ xs. record { base = region.base; size = region.size; max_blocks = length blocks; live = xs } in
    record {
      said_is = told ∙ sym (ap place_said answer);
      place_is = sym (ap (place_left old) answer);
      left = subst L (sym answer) (left-by region blocks blocks' more (region.count + 1) (after_place (region_of region blocks) len)
          (array ∙ ap (λ (x : FlatLive). (take index live ++ x ∷ drop index live) ++ drop (region.count + 1) blocks) block_is) count same
          (ap S listed ∙ sym (placed_by region blocks len place answer)));
    }

-- ---- one block less

-- a place where no block starts is not released
pub not-released : (region : FlatRegion) (blocks : List FlatLive) (place : ℕ) (said : ℤ) → IsRegion region blocks → StartsNowhere place (live_of region blocks) →
    said ≡ release_said (Err (record { place = place })) → IsReleasedIn region region blocks blocks place said
unfolding release_answer after_release live_block
not-released region blocks place said is none told =
    let S : List LiveBlock → RegionState = λ xs. record { base = region.base; size = region.size; max_blocks = length blocks; live = xs } in
    record {
      said_is = told ∙ sym (ap (λ (o : Option LiveBlock). release_said (release_of o place)) none.none);
      left = record {
        base = refl;
        size = refl;
        count = sym (live_count region blocks is) ∙ sym (ap (λ (xs : List LiveBlock). length xs) none.all);
        state_is = sym (ap S none.all);
        behind = refl;
      };
    }

-- a block that is released is taken out
pub released-in : (region : FlatRegion) (blocks blocks' : List FlatLive) (place index : ℕ) (said : ℤ) → IsRegion region blocks → StartsAt place (live_of region blocks) index →
    said ≡ pos 0 →
    blocks' ≡ (take index (live_of region blocks) ++ drop (index + 1) (live_of region blocks)) ++ drop (region.count - 1) blocks → length blocks' ≡ length blocks →
    IsReleasedIn region (record { base = region.base; size = region.size; count = region.count - 1 }) blocks blocks' place said
unfolding release_answer after_release live_block
released-in region blocks blocks' place index said is at told array same =
    let live = live_of region blocks in
    let fewer = take index live ++ drop (index + 1) live in
    let inside = at.within in
    let count : length fewer ≡ region.count - 1 =
    omega (arith, length-append (take index live) (drop (index + 1) live), length-take-le index live (omega (arith, inside)), length-drop (index + 1) live, length-take-le region.count blocks is.few, inside) in
    let S : List LiveBlock → RegionState = λ xs. record { base = region.base; size = region.size; max_blocks = length blocks; live = xs } in
    record {
      said_is = told ∙ sym (ap (λ (o : Option LiveBlock). release_said (release_of o place)) at.found);
      left = left-by region blocks blocks' fewer (region.count - 1) (after_release (region_of region blocks) place) array count same (sym (ap S at.others));
    }

-- ---- the bytes of a block

-- a place where no block starts is not filled
pub not-live : (region : FlatRegion) (blocks : List FlatLive) (place : ℕ) (bytes image : List ℕ) (said : ℤ) → StartsNowhere place (live_of region blocks) →
    said ≡ fill_said (Err (fill.NotLive place)) → IsFilledIn region blocks place bytes image image said
unfolding live_block
not-live region blocks place bytes image said none told = record {
  said_is = told ∙ sym (ap (λ (o : Option LiveBlock). fill_said (fill_answer o place (length bytes))) none.none);
  image_is = sym (ap (λ (o : Option LiveBlock). image_left region.base image o bytes) none.none);
}

-- more bytes than a block has are refused
pub too-long : (region : FlatRegion) (blocks : List FlatLive) (place index : ℕ) (bytes image : List ℕ) (said : ℤ) → StartsAt place (live_of region blocks) index →
    (get_or (live_of region blocks) index no_live).len < length bytes → said ≡ fill_said (Err (fill.TooLong 0)) → IsFilledIn region blocks place bytes image image said
unfolding live_block
too-long region blocks place index bytes image said at more told =
    let b = get_or (live_of region blocks) index no_live in
    let no : nat_le (length bytes) b.len ≡ false = lt-leb (length bytes) b.len more in
    record {
      said_is = told ∙ sym (ap (λ (o : Option LiveBlock). fill_said (fill_answer o place (length bytes))) at.found
          ∙ ap (λ (r : Result (Unit {0}) FillError). fill_said r) (cond-false (nat_le (length bytes) b.len) (Ok tt) (Err (fill.TooLong b.len)) no));
      image_is = sym (ap (λ (o : Option LiveBlock). image_left region.base image o bytes) at.found
          ∙ cond-false (nat_le (length bytes) b.len) (with_bytes_at image (b.place - region.base) (with_content bytes (live_block_of b)).content) image no);
    }

-- a block that is filled holds the bytes
pub filled-in : (region : FlatRegion) (blocks : List FlatLive) (place index : ℕ) (bytes image image' : List ℕ) (said : ℤ) → StartsAt place (live_of region blocks) index →
    length bytes ≤ (get_or (live_of region blocks) index no_live).len → said ≡ pos 0 →
    image' ≡ with_bytes_at image ((get_or (live_of region blocks) index no_live).place - region.base) (bytes ++ replicate ((get_or (live_of region blocks) index no_live).len - length bytes) int3) →
    IsFilledIn region blocks place bytes image image' said
unfolding live_block
filled-in region blocks place index bytes image image' said at few told is =
    let b = get_or (live_of region blocks) index no_live in
    let yes : nat_le (length bytes) b.len ≡ true = le-leb (length bytes) b.len few in
    record {
      said_is = told ∙ sym (ap (λ (o : Option LiveBlock). fill_said (fill_answer o place (length bytes))) at.found
          ∙ ap (λ (r : Result (Unit {0}) FillError). fill_said r) (cond-true (nat_le (length bytes) b.len) (Ok tt) (Err (fill.TooLong b.len)) yes));
      image_is = is ∙ sym (ap (λ (o : Option LiveBlock). image_left region.base image o bytes) at.found
          ∙ cond-true (nat_le (length bytes) b.len) (with_bytes_at image (b.place - region.base) (with_content bytes (live_block_of b)).content) image yes);
    }
