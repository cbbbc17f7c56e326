-- A stretch put into a gap.
use Rattle.std.proofs.Common.{◌≡◌, ℕ, zero, suc, ◌+◌, ◌≤◌, ◌<◌, List, [], ◌∷◌, length, take, drop, map, arith, ap, refl, insert}
use Rattle.std.proofs.lemmas.Bool.{lt-ltb, le-ltb}
use Rattle.code_region.specs.declared.gaps.Span.{Span}
use Rattle.code_region.specs.Keeping.{AreApart, IsQuiet, IsQuietAround, block_of}
use Rattle.code_region.specs.Placing.{with_block}
use Rattle.code_region.specs.Searching.{end_from, next_start}
use Rattle.code_region.proofs.Apart.{AreApart-le}

-- the stretches up to an index end behind the first bound
pub end_from-ge : (from limit : ℕ) (spans : List Span) (i : ℕ) → AreApart from limit spans → i ≤ length spans → from ≤ end_from from (take i spans)
end_from-ge from limit spans zero apart h = omega arith
end_from-ge from limit [] (suc i) apart h = absurd (omega arith)
end_from-ge from limit (span ∷ spans) (suc i) apart h =
    let rest = end_from-ge (span.start + span.len) limit spans i apart.2 (omega arith) in omega arith

-- a gap at an index
pub record IsGap (from limit : ℕ) (spans : List Span) (index : ℕ) (span : Span) : Type 0 where
  pub inside : index ≤ length spans
  pub front : end_from from (take index spans) ≡ span.start
  pub some : 0 < span.len
  pub fits : span.start + span.len ≤ next_start limit (drop index spans)

-- what a stretch put into a gap leaves
pub record Inserts (base : ℕ) (bytes : List ℕ) (from limit : ℕ) (spans : List Span) (index : ℕ) (span : Span) : Type 0 where
  pub apart : AreApart from limit (insert spans index span)
  pub quiet : IsQuietAround bytes from limit (insert spans index span)
  pub within : IsQuiet bytes span.start (span.start + span.len)
  pub inside : span.start + span.len ≤ limit
  pub blocks : with_block (block_of base bytes span) (map (block_of base bytes) spans) ≡ map (block_of base bytes) (insert spans index span)

-- a span that is put in at its index lies in the gap that was there
pub gap-insert : (base : ℕ) (bytes : List ℕ) (from limit : ℕ) (spans : List Span) (index : ℕ) (span : Span) →
    AreApart from limit spans → IsQuietAround bytes from limit spans → IsGap from limit spans index span → Inserts base bytes from limit spans index span
gap-insert base bytes from limit [] zero span apart quiet gap = record {
  apart = (omega arith, gap.some, gap.fits);
  quiet = ((λ k h l. absurd (omega arith)), (λ k h l. quiet k (omega arith) l));
  within = λ k h l. quiet k (omega arith) (omega arith);
  inside = gap.fits;
  blocks = refl;
}
gap-insert base bytes from limit (other ∷ spans) zero span apart quiet gap =
    let below = AreApart-le _ _ _ apart.2 in
    let first : base + span.start < base + other.start = omega arith in
    record {
      apart = (omega arith, gap.some, (gap.fits, apart.1, apart.2));
      quiet = ((λ k h l. absurd (omega arith)), ((λ k h l. quiet.0 k (omega arith) l), quiet.1));
      within = λ k h l. quiet.0 k (omega arith) (omega arith);
      inside = omega arith;
      blocks = rw (lt-ltb (base + span.start) (base + other.start) first) refl;
    }
gap-insert base bytes from limit [] (suc index) span apart quiet gap = absurd (omega arith)
gap-insert base bytes from limit (other ∷ spans) (suc index) span apart quiet gap =
    let end : ℕ = other.start + other.len in
    let behind = end_from-ge (other.start + other.len) limit spans index apart.2 (omega arith) in
    let rest = gap-insert base bytes (other.start + other.len) limit spans index span apart.2 quiet.1 (record {
      inside = omega arith;
      front = gap.front;
      some = gap.some;
      fits = gap.fits;
    }) in
    let later : base + other.start ≤ base + span.start = omega arith in
    record {
      apart = (apart.0, apart.1, rest.apart);
      quiet = (quiet.0, rest.quiet);
      within = rest.within;
      inside = rest.inside;
      blocks = rw (le-ltb (base + span.start) (base + other.start) later) (ap (λ xs. block_of base bytes other ∷ xs) rest.blocks);
    }
