-- Live blocks that are laid by address: a search goes through them one by one.
use Rattle.std.proofs.Common.{◌≡◌, ℕ, zero, suc, ◌+◌, ◌-◌, ◌<◌, ◌≤◌, true, not, List, [], ◌∷◌, ◌++◌, length, take, drop, get_or, Option, Some, None, refl, sym, ap, ◌∙◌, subst, arith, add-one, append_assoc}
use Rattle.std.specs.Prelude.{◌==◌, ◌&&◌, nat_lt, nat_le}
use Rattle.std.proofs.lemmas.Bool.{and_parts, leb-true, lt-leb, le-leb, ltb-true, lt-ltb, le-ltb, eq-eqb, ne_eqb, cond-true, cond-false}
use Rattle.std.proofs.lemmas.List.{map-append, take_more, append-nil, take-append-drop}
use Rattle.std.proofs.Math.Seq.{drop-cons}
use Rattle.code_region.specs.declared.gaps.Span.{Span}
use Rattle.code_region.specs.State.{LiveBlock}
use Rattle.code_region.specs.Placing.{with_block}
use Rattle.c_calls.specs.declared.flat.FlatLive.{FlatLive}
use Rattle.c_calls.specs.Regions.{are_laid, live_block_of}
use Rattle.c_calls.specs.RegionSearch.{blocks_of, gap_of, IsStart, IsNewPlace, IsRegionFull, no_live, found_at, without, StartsAt, StartsNowhere}

-- ---- one block

-- the first of laid blocks stands at or behind the start, has some bytes, and the others are laid behind it
pub laid_front : (from limit : ℕ) (b : FlatLive) (bs : List FlatLive) → are_laid from limit (b ∷ bs) ≡ true →
    (from ≤ b.place) × (0 < b.len) × (are_laid (b.place + b.len) limit bs ≡ true)
laid_front from limit b bs h =
    let p = and_parts (nat_le from b.place) (nat_lt 0 b.len && are_laid (b.place + b.len) limit bs) h in
    let q = and_parts (nat_lt 0 b.len) (are_laid (b.place + b.len) limit bs) p.1 in
    (leb-true from b.place p.0, ltb-true 0 b.len q.0, q.1)

-- laid blocks end at the limit or before
pub laid_within : (from limit : ℕ) (bs : List FlatLive) → are_laid from limit bs ≡ true → from ≤ limit
laid_within from limit [] h = leb-true from limit h
laid_within from limit (b ∷ bs) h =
    let f = laid_front from limit b bs h in
    omega (arith, f.0, laid_within (b.place + b.len) limit bs f.2)

-- each stands between the start and the limit
pub laid_at : (from limit : ℕ) (bs : List FlatLive) → are_laid from limit bs ≡ true → (k : ℕ) → k < length bs →
    (from ≤ (get_or bs k no_live).place) × ((get_or bs k no_live).place + (get_or bs k no_live).len ≤ limit)
laid_at from limit [] h k lt = absurd (omega arith)
laid_at from limit (b ∷ bs) h zero lt =
    let f = laid_front from limit b bs h in
    (f.0, laid_within (b.place + b.len) limit bs f.2)
laid_at from limit (b ∷ bs) h (suc k) lt =
    let f = laid_front from limit b bs h in
    let there = laid_at (b.place + b.len) limit bs f.2 k (omega arith) in
    (omega (arith, f.0, there.0), there.1)

-- the blocks from one on are that one and those behind it
from_here : (live : List FlatLive) (k : ℕ) → k < length live → drop k live ≡ get_or live k no_live ∷ drop (k + 1) live
from_here live k lt =
    let here = get_or live k no_live in
    drop-cons live k no_live lt ∙ ap (λ (n : ℕ). here ∷ drop n live) (sym (add-one k))

-- and those before the next are those before it and that one
up_to_here : (live : List FlatLive) (k : ℕ) → k < length live → blocks_of (take (k + 1) live) ≡ blocks_of (take k live) ++ live_block_of (get_or live k no_live) ∷ []
up_to_here live k lt = ap blocks_of (take_more live k no_live lt) ∙ map-append live_block_of (take k live) (get_or live k no_live ∷ [])

-- ---- the search for a gap

-- the search has come to a block: so far there is no gap of so many bytes, and a new block from here on stands behind those before
pub record SearchedTo (base limit needed : ℕ) (live : List FlatLive) (k from : ℕ) : Type 0 where
  pub within : k ≤ length live
  pub laid : are_laid from limit (drop k live) ≡ true
  pub gaps : gap_of base limit needed live ≡ gap_of from limit needed (drop k live)
  pub order : (b : FlatLive) → from ≤ b.place → with_block (live_block_of b) (blocks_of live) ≡ blocks_of (take k live) ++ with_block (live_block_of b) (blocks_of (drop k live))

-- the search for a gap begins at the base
pub searched-start : (base limit needed : ℕ) (live : List FlatLive) → are_laid base limit live ≡ true → SearchedTo base limit needed live 0 base
searched-start base limit needed live h = record {
  within = omega arith;
  laid = h;
  gaps = refl;
  order = λ b le. refl;
}

-- a gap in front of the first block that is too short
short_gap : (from limit needed : ℕ) (b : FlatLive) (bs : List FlatLive) → b.place - from < needed →
    gap_of from limit needed (b ∷ bs) ≡ gap_of (b.place + b.len) limit needed bs
short_gap from limit needed b bs lt =
    let gap : Span = record { start = from; len = b.place - from } in
    cond-false (nat_le needed gap.len) (Some gap) (gap_of (b.place + b.len) limit needed bs) (lt-leb needed (b.place - from) lt)

-- one that is long enough
long_gap : (from limit needed : ℕ) (b : FlatLive) (bs : List FlatLive) → needed ≤ b.place - from →
    gap_of from limit needed (b ∷ bs) ≡ Some (record { start = from; len = b.place - from })
long_gap from limit needed b bs le =
    let gap : Span = record { start = from; len = b.place - from } in
    cond-true (nat_le needed gap.len) (Some gap) (gap_of (b.place + b.len) limit needed bs) (le-leb needed (b.place - from) le)

-- a block behind the first of some
behind_first : (b c : FlatLive) (cs : List FlatLive) → c.place ≤ b.place → with_block (live_block_of b) (blocks_of (c ∷ cs)) ≡ live_block_of c ∷ with_block (live_block_of b) (blocks_of cs)
behind_first b c cs le = cond-false (nat_lt b.place c.place) (live_block_of b ∷ blocks_of (c ∷ cs)) (live_block_of c ∷ with_block (live_block_of b) (blocks_of cs)) (le-ltb b.place c.place le)

-- and one before it
before_first : (b c : FlatLive) (cs : List FlatLive) → b.place < c.place → with_block (live_block_of b) (blocks_of (c ∷ cs)) ≡ live_block_of b ∷ blocks_of (c ∷ cs)
before_first b c cs lt = cond-true (nat_lt b.place c.place) (live_block_of b ∷ blocks_of (c ∷ cs)) (live_block_of c ∷ with_block (live_block_of b) (blocks_of cs)) (lt-ltb b.place c.place lt)

-- the block that is come to
laid_here : (base limit needed : ℕ) (live : List FlatLive) (k from : ℕ) → SearchedTo base limit needed live k from → k < length live →
    (from ≤ (get_or live k no_live).place) × (0 < (get_or live k no_live).len) × (are_laid ((get_or live k no_live).place + (get_or live k no_live).len) limit (drop (k + 1) live) ≡ true)
laid_here base limit needed live k from s lt =
    let L : List FlatLive → Type 0 = λ bs. are_laid from limit bs ≡ true in
    laid_front from limit (get_or live k no_live) (drop (k + 1) live) (subst L (from_here live k lt) s.laid)

-- what it has passed is laid out
pub searched-laid : (base limit needed : ℕ) (live : List FlatLive) (k from : ℕ) → SearchedTo base limit needed live k from → k < length live →
    from ≤ (get_or live k no_live).place
searched-laid base limit needed live k from s lt = (laid_here base limit needed live k from s lt).0

-- it ends at the limit or before
pub searched-end : (base limit needed : ℕ) (live : List FlatLive) (k from : ℕ) → SearchedTo base limit needed live k from → k < length live →
    (get_or live k no_live).place + (get_or live k no_live).len ≤ limit
searched-end base limit needed live k from s lt =
    laid_within ((get_or live k no_live).place + (get_or live k no_live).len) limit (drop (k + 1) live) (laid_here base limit needed live k from s lt).2

-- it passes a block whose gap is too small
pub searched-step : (base limit needed : ℕ) (live : List FlatLive) (k from : ℕ) → SearchedTo base limit needed live k from → k < length live →
    (get_or live k no_live).place < from + needed → SearchedTo base limit needed live (k + 1) ((get_or live k no_live).place + (get_or live k no_live).len)
searched-step base limit needed live k from s lt short =
    let c = get_or live k no_live in
    let cs = drop (k + 1) live in
    let laid = laid_here base limit needed live k from s lt in
    record {
      within = omega arith;
      laid = laid.2;
      gaps = s.gaps ∙ (ap (λ (bs : List FlatLive). gap_of from limit needed bs) (from_here live k lt) ∙ short_gap from limit needed c cs (omega (arith, laid.0)));
      order = λ (b : FlatLive) (le : c.place + c.len ≤ b.place).
          s.order b (omega (arith, laid.0, le))
          ∙ (ap (λ (bs : List FlatLive). blocks_of (take k live) ++ with_block (live_block_of b) (blocks_of bs)) (from_here live k lt)
          ∙ (ap (λ (xs : List LiveBlock). blocks_of (take k live) ++ xs) (behind_first b c cs (omega (arith, le)))
          ∙ (sym (append_assoc (blocks_of (take k live)) (live_block_of c ∷ []) (with_block (live_block_of b) (blocks_of cs)))
          ∙ ap (λ (xs : List LiveBlock). xs ++ with_block (live_block_of b) (blocks_of cs)) (sym (up_to_here live k lt)))));
    }

-- a gap with room is the first one
pub searched-found : (base limit needed : ℕ) (live : List FlatLive) (k from : ℕ) → SearchedTo base limit needed live k from → k < length live → 0 < needed →
    from + needed ≤ (get_or live k no_live).place → IsNewPlace base limit needed live k from
searched-found base limit needed live k from s lt some long =
    let c = get_or live k no_live in
    let cs = drop (k + 1) live in
    let gap : gap_of base limit needed live ≡ Some (record { start = from; len = c.place - from }) =
    s.gaps ∙ (ap (λ (bs : List FlatLive). gap_of from limit needed bs) (from_here live k lt) ∙ long_gap from limit needed c cs (omega (arith, long))) in
    let S : Option Span → Type 0 = λ g. IsStart g from in
    record {
      within = omega arith;
      start = subst S (sym gap) refl;
      order = λ (len : ℕ).
          let b : FlatLive = record { place = from; len = len } in
          s.order b (omega arith)
          ∙ (ap (λ (bs : List FlatLive). blocks_of (take k live) ++ with_block (live_block_of b) (blocks_of bs)) (from_here live k lt)
          ∙ (ap (λ (xs : List LiveBlock). blocks_of (take k live) ++ xs) (before_first b c cs (omega (arith, some, long)))
          ∙ ap (λ (bs : List FlatLive). blocks_of (take k live) ++ live_block_of b ∷ blocks_of bs) (sym (from_here live k lt))));
    }

-- behind the last block
none_left : (live : List FlatLive) (k : ℕ) → length live ≤ k → drop k live ≡ []
none_left [] zero le = refl
none_left [] (suc k) le = refl
none_left (b ∷ bs) zero le = absurd (omega arith)
none_left (b ∷ bs) (suc k) le = none_left bs k (omega arith)

-- behind the last block the gap goes to the limit
pub searched-last : (base limit needed : ℕ) (live : List FlatLive) (k from : ℕ) → SearchedTo base limit needed live k from → length live ≤ k →
    from + needed ≤ limit → IsNewPlace base limit needed live (length live) from
searched-last base limit needed live k from s ge long =
    let gap : Span = record { start = from; len = limit - from } in
    let end = none_left live k ge in
    let is : gap_of base limit needed live ≡ Some gap =
    s.gaps ∙ (ap (λ (bs : List FlatLive). gap_of from limit needed bs) end ∙ cond-true (nat_le needed gap.len) (Some gap) None (le-leb needed (limit - from) (omega (arith, long)))) in
    let S : Option Span → Type 0 = λ g. IsStart g from in
    let at : k ≡ length live = omega (arith, s.within, ge) in
    record {
      within = omega arith;
      start = subst S (sym is) refl;
      order = λ (len : ℕ).
          let b : FlatLive = record { place = from; len = len } in
          let there : with_block (live_block_of b) (blocks_of live) ≡ blocks_of (take k live) ++ live_block_of b ∷ blocks_of (drop k live) =
          s.order b (omega arith)
          ∙ (ap (λ (bs : List FlatLive). blocks_of (take k live) ++ with_block (live_block_of b) (blocks_of bs)) end
          ∙ ap (λ (bs : List FlatLive). blocks_of (take k live) ++ live_block_of b ∷ blocks_of bs) (sym end)) in
          there ∙ ap (λ (n : ℕ). blocks_of (take n live) ++ live_block_of b ∷ blocks_of (drop n live)) at;
    }

-- without a gap with room the region is full
pub searched-full : (base limit needed : ℕ) (live : List FlatLive) (k from : ℕ) → SearchedTo base limit needed live k from → length live ≤ k →
    limit < from + needed → IsRegionFull base limit needed live
searched-full base limit needed live k from s ge short =
    let gap : Span = record { start = from; len = limit - from } in
    let within : from ≤ limit = laid_within from limit (drop k live) s.laid in
    s.gaps ∙ (ap (λ (bs : List FlatLive). gap_of from limit needed bs) (none_left live k ge)
    ∙ cond-false (nat_le needed gap.len) (Some gap) None (lt-leb needed (limit - from) (omega (arith, short, within))))

-- ---- the search for a block

-- the search has come to a block, and none before it starts at the address
pub record PassedTo (limit place : ℕ) (live : List FlatLive) (k : ℕ) : Type 0 where
  pub within : k ≤ length live
  pub from : ℕ
  pub laid : are_laid from limit (drop k live) ≡ true
  pub found : found_at place (blocks_of live) ≡ found_at place (blocks_of (drop k live))
  pub others : without place (blocks_of live) ≡ blocks_of (take k live) ++ without place (blocks_of (drop k live))

-- the search for a place begins with the first block
pub passed-start : (base limit place : ℕ) (live : List FlatLive) → are_laid base limit live ≡ true → PassedTo limit place live 0
passed-start base limit place live h = record {
  within = omega arith;
  from = base;
  laid = h;
  found = refl;
  others = refl;
}

-- a block elsewhere stays
kept : (place : ℕ) (c : FlatLive) (cs : List FlatLive) → (c.place ≡ place → ⊥) → without place (blocks_of (c ∷ cs)) ≡ live_block_of c ∷ without place (blocks_of cs)
kept place c cs ne =
    cond-true (not (c.place == place)) (live_block_of c ∷ without place (blocks_of cs)) (without place (blocks_of cs)) (ap not (ne_eqb c.place place ne))

passed_laid : (limit place : ℕ) (live : List FlatLive) (k : ℕ) → (s : PassedTo limit place live k) → k < length live →
    are_laid ((get_or live k no_live).place + (get_or live k no_live).len) limit (drop (k + 1) live) ≡ true
passed_laid limit place live k s lt =
    let L : List FlatLive → Type 0 = λ bs. are_laid s.from limit bs ≡ true in
    (laid_front s.from limit (get_or live k no_live) (drop (k + 1) live) (subst L (from_here live k lt) s.laid)).2

-- it passes a block at another place
pub passed-step : (limit place : ℕ) (live : List FlatLive) (k : ℕ) → PassedTo limit place live k → k < length live →
    ((get_or live k no_live).place ≡ place → ⊥) → PassedTo limit place live (k + 1)
passed-step limit place live k s lt ne =
    let c = get_or live k no_live in
    let cs = drop (k + 1) live in
    record {
      within = omega arith;
      from = c.place + c.len;
      laid = passed_laid limit place live k s lt;
      found = s.found ∙ (ap (λ (bs : List FlatLive). found_at place (blocks_of bs)) (from_here live k lt)
          ∙ cond-false (c.place == place) (Some (live_block_of c)) (found_at place (blocks_of cs)) (ne_eqb c.place place ne));
      others = s.others
          ∙ (ap (λ (bs : List FlatLive). blocks_of (take k live) ++ without place (blocks_of bs)) (from_here live k lt)
          ∙ (ap (λ (xs : List LiveBlock). blocks_of (take k live) ++ xs) (kept place c cs ne)
          ∙ (sym (append_assoc (blocks_of (take k live)) (live_block_of c ∷ []) (without place (blocks_of cs)))
          ∙ ap (λ (xs : List LiveBlock). xs ++ without place (blocks_of cs)) (sym (up_to_here live k lt)))));
    }

-- none of the blocks that are laid behind an address starts there
all_kept : (from limit place : ℕ) (bs : List FlatLive) → are_laid from limit bs ≡ true → place < from → without place (blocks_of bs) ≡ blocks_of bs
all_kept from limit place [] h lt = refl
all_kept from limit place (b ∷ bs) h lt =
    let f = laid_front from limit b bs h in
    let ne : b.place ≡ place → ⊥ = λ (e : b.place ≡ place). omega (arith, e, f.0, lt) in
    kept place b bs ne ∙ ap (λ (xs : List LiveBlock). live_block_of b ∷ xs) (all_kept (b.place + b.len) limit place bs f.2 (omega (arith, f.0, f.1, lt)))

-- a block at the place is found
pub passed-found : (limit place : ℕ) (live : List FlatLive) (k : ℕ) → PassedTo limit place live k → k < length live →
    (get_or live k no_live).place ≡ place → StartsAt place live k
passed-found limit place live k s lt e =
    let c = get_or live k no_live in
    let cs = drop (k + 1) live in
    let L : List FlatLive → Type 0 = λ bs. are_laid s.from limit bs ≡ true in
    let laid = laid_front s.from limit c cs (subst L (from_here live k lt) s.laid) in
    let here = eq-eqb c.place place e in
    record {
      within = lt;
      found = s.found ∙ (ap (λ (bs : List FlatLive). found_at place (blocks_of bs)) (from_here live k lt)
          ∙ cond-true (c.place == place) (Some (live_block_of c)) (found_at place (blocks_of cs)) here);
      others = s.others
          ∙ (ap (λ (bs : List FlatLive). blocks_of (take k live) ++ without place (blocks_of bs)) (from_here live k lt)
          ∙ (ap (λ (xs : List LiveBlock). blocks_of (take k live) ++ xs)
          (cond-false (not (c.place == place)) (live_block_of c ∷ without place (blocks_of cs)) (without place (blocks_of cs)) (ap not here)
          ∙ all_kept (c.place + c.len) limit place cs laid.2 (omega (arith, e, laid.1)))
          ∙ sym (map-append live_block_of (take k live) cs)));
    }

-- behind the last block no block starts at the place
pub passed-all : (limit place : ℕ) (live : List FlatLive) (k : ℕ) → PassedTo limit place live k → length live ≤ k → StartsNowhere place live
passed-all limit place live k s ge =
    let end = none_left live k ge in
    let at : take k live ++ drop k live ≡ take k live = ap (λ (bs : List FlatLive). take k live ++ bs) end ∙ append-nil (take k live) in
    record {
      none = s.found ∙ ap (λ (bs : List FlatLive). found_at place (blocks_of bs)) end;
      all = s.others ∙ (ap (λ (bs : List FlatLive). blocks_of (take k live) ++ without place (blocks_of bs)) end
          ∙ (append-nil (blocks_of (take k live)) ∙ ap blocks_of (sym at ∙ take-append-drop k live)));
    }
