-- Bytes written over one of the stretches: the stretch is taken out, or has new content.
use Rattle.std.proofs.Common.{◌≡◌, ℕ, zero, suc, ◌+◌, ◌-◌, ◌≤◌, ◌<◌, List, [], ◌∷◌, ◌++◌, length, take, drop, get_or, map, replicate, remove, filter, not, arith, sym, ◌∙◌, ap, subst, refl, nat_eq, if◌then◌else◌, inl, inr}
use Rattle.std.proofs.lemmas.Bool.{ne_eqb, eq-eqb, cases_lt}
use Rattle.std.proofs.lemmas.List.{length-replicate, get_or-replicate}
use Rattle.code_region.specs.declared.gaps.Span.{Span}
use Rattle.code_region.specs.State.{LiveBlock, int3}
use Rattle.code_region.specs.Filling.{with_content}
use Rattle.code_region.specs.Keeping.{AreApart, IsQuiet, IsQuietAround, block_of, with_bytes_at}
use Rattle.code_region.specs.Searching.{gap_span_at}
use Rattle.code_region.proofs.Apart.{AreApart-le, AreApart-at}
use Rattle.code_region.proofs.Overwrites.{part-below, part-above, part-at, byte-below, byte-above, byte-at}

-- a lower first bound
pub AreApart-lower : (from lower limit : ℕ) (spans : List Span) → lower ≤ from → AreApart from limit spans → AreApart lower limit spans
AreApart-lower from lower limit [] h apart = omega arith
AreApart-lower from lower limit (span ∷ spans) h apart = (omega arith, apart.1, apart.2)

-- a block below, and blocks above, what is written
pub block-below : (base : ℕ) (bytes : List ℕ) (start : ℕ) (xs : List ℕ) (span : Span) → start ≤ length bytes → span.start + span.len ≤ start →
    block_of base (with_bytes_at bytes start xs) span ≡ block_of base bytes span
block-below base bytes start xs span h below =
    let with_bytes : List ℕ → LiveBlock = λ content. record { place = base + span.start; len = span.len; content = content } in
    ap with_bytes (part-below bytes start xs span.start span.len h below)

-- blocks behind overwritten bytes keep their content
pub blocks-above : (base : ℕ) (bytes : List ℕ) (start : ℕ) (xs : List ℕ) (from limit : ℕ) (spans : List Span) → start ≤ length bytes → start + length xs ≤ from →
    AreApart from limit spans → map (block_of base (with_bytes_at bytes start xs)) spans ≡ map (block_of base bytes) spans
blocks-above base bytes start xs from limit [] h above apart = refl
blocks-above base bytes start xs from limit (span ∷ spans) h above apart =
    let with_bytes : List ℕ → LiveBlock = λ content. record { place = base + span.start; len = span.len; content = content } in
    let here = ap with_bytes (part-above bytes start xs span.start span.len h (omega arith)) in
    let rest = blocks-above base bytes start xs (span.start + span.len) limit spans h (omega arith) apart.2 in
    ap (λ b. b ∷ map (block_of base (with_bytes_at bytes start xs)) spans) here ∙ ap (λ bs. block_of base bytes span ∷ bs) rest

-- bytes around the stretches above
pub quiet-above : (bytes : List ℕ) (start : ℕ) (xs : List ℕ) (from limit : ℕ) (spans : List Span) → start ≤ length bytes → start + length xs ≤ from →
    AreApart from limit spans → IsQuietAround bytes from limit spans → IsQuietAround (with_bytes_at bytes start xs) from limit spans
quiet-above bytes start xs from limit [] h above apart quiet = λ k a b. byte-above bytes start xs k h (omega arith) ∙ quiet k a b
quiet-above bytes start xs from limit (span ∷ spans) h above apart quiet = (
  (λ k a b. byte-above bytes start xs k h (omega arith) ∙ quiet.0 k a b),
  quiet-above bytes start xs (span.start + span.len) limit spans h (omega arith) apart.2 quiet.1,
)

-- a quiet part before
pub quiet-join : (bytes : List ℕ) (from middle limit : ℕ) (spans : List Span) → IsQuiet bytes from middle →
    IsQuietAround bytes middle limit spans → IsQuietAround bytes from limit spans
quiet-join bytes from middle limit [] front quiet =
    λ k a b. elim (cases_lt k middle) [ inl below ↦ front k a below | inr above ↦ quiet k above b ]
quiet-join bytes from middle limit (span ∷ spans) front quiet =
    ((λ k a b. elim (cases_lt k middle) [ inl below ↦ front k a below | inr above ↦ quiet.0 k above b ]), quiet.1)

-- no block behind an address starts there
pub filter-above : (base place : ℕ) (bytes : List ℕ) (from limit : ℕ) (spans : List Span) → place < base + from → AreApart from limit spans →
    filter (λ block. not (nat_eq block.place place)) (map (block_of base bytes) spans) ≡ map (block_of base bytes) spans
filter-above base place bytes from limit [] h apart = refl
filter-above base place bytes from limit (span ∷ spans) h apart =
    let other : base + span.start ≡ place → ⊥ = λ same. absurd (omega arith) in
    rw (ne_eqb (base + span.start) place other)
    (ap (λ bs. block_of base bytes span ∷ bs) (filter-above base place bytes (span.start + span.len) limit spans (omega arith) apart.2))

-- a fill before the spans changes none of them
pub fill-above : (base place : ℕ) (bytes content : List ℕ) (from limit : ℕ) (spans : List Span) → place < base + from → AreApart from limit spans →
    map (λ block. if nat_eq block.place place then with_content content block else block) (map (block_of base bytes) spans) ≡ map (block_of base bytes) spans
fill-above base place bytes content from limit [] h apart = refl
fill-above base place bytes content from limit (span ∷ spans) h apart =
    let other : base + span.start ≡ place → ⊥ = λ same. absurd (omega arith) in
    rw (ne_eqb (base + span.start) place other)
    (ap (λ bs. block_of base bytes span ∷ bs) (fill-above base place bytes content (span.start + span.len) limit spans (omega arith) apart.2))

-- what a stretch that is taken out leaves, its bytes set to INT3
pub record Removes (base place start : ℕ) (bytes xs : List ℕ) (from limit : ℕ) (spans : List Span) (index : ℕ) : Type 0 where
  pub apart : AreApart from limit (remove spans index)
  pub quiet : IsQuietAround (with_bytes_at bytes start xs) from limit (remove spans index)
  pub blocks : map (block_of base (with_bytes_at bytes start xs)) (remove spans index) ≡
      filter (λ block. not (nat_eq block.place place)) (map (block_of base bytes) spans)

-- releasing the block of a span is removing the span
pub span-remove : (base place start : ℕ) (bytes xs : List ℕ) (from limit : ℕ) (spans : List Span) (index : ℕ) → limit ≤ length bytes →
    AreApart from limit spans → IsQuietAround bytes from limit spans → index < length spans →
    base + start ≡ place → (gap_span_at spans index).start ≡ start → xs ≡ replicate (gap_span_at spans index).len int3 →
    Removes base place start bytes xs from limit spans index
span-remove base place start bytes xs from limit [] index h apart quiet below p s x = absurd (omega arith)
span-remove base place start bytes xs from limit (span ∷ spans) zero h apart quiet below p s x =
    let end = AreApart-le _ _ _ apart.2 in
    let l : length xs ≡ span.len = ap length x ∙ length-replicate span.len int3 in
    let within : start ≤ length bytes = omega arith in
    let here : (k : ℕ) → start ≤ k → k < start + length xs → get_or (with_bytes_at bytes start xs) k 0 ≡ int3 =
    λ k a b. byte-at bytes start xs k within a b ∙ ap (λ ys. get_or ys (k - start) 0) x ∙ get_or-replicate span.len (k - start) int3 0 (omega arith) in
    record {
      apart = AreApart-lower (span.start + span.len) from limit spans (omega arith) apart.2;
      quiet = quiet-join (with_bytes_at bytes start xs) from (span.start + span.len) limit spans
          (λ k a b. elim (cases_lt k start) [
            | inl front ↦ byte-below bytes start xs k within front ∙ quiet.0 k a (omega arith)
            | inr at ↦ here k at (omega arith)
          ])
          (quiet-above bytes start xs (span.start + span.len) limit spans within (omega arith) apart.2 quiet.1);
      blocks = rw (eq-eqb (base + span.start) place (omega arith))
          (blocks-above base bytes start xs (span.start + span.len) limit spans within (omega arith) apart.2 ∙
          sym (filter-above base place bytes (span.start + span.len) limit spans (omega arith) apart.2));
    }
span-remove base place start bytes xs from limit (span ∷ spans) (suc index) h apart quiet below p s x =
    let rest = span-remove base place start bytes xs (span.start + span.len) limit spans index h apart.2 quiet.1 (omega arith) p s x in
    let at = AreApart-at (span.start + span.len) limit spans index apart.2 (omega arith) in
    let within : start ≤ length bytes = omega arith in
    let other : base + span.start ≡ place → ⊥ = λ same. absurd (omega arith) in
    record {
      apart = (apart.0, apart.1, rest.apart);
      quiet = ((λ k a b. byte-below bytes start xs k within (omega arith) ∙ quiet.0 k a b), rest.quiet);
      blocks = rw (ne_eqb (base + span.start) place other)
          (ap (λ b. b ∷ map (block_of base (with_bytes_at bytes start xs)) (remove spans index)) (block-below base bytes start xs span within (omega arith)) ∙
          ap (λ bs. block_of base bytes span ∷ bs) rest.blocks);
    }

-- what new content of a stretch leaves
pub record Refills (base place start : ℕ) (bytes content xs : List ℕ) (from limit : ℕ) (spans : List Span) : Type 0 where
  pub quiet : IsQuietAround (with_bytes_at bytes start xs) from limit spans
  pub blocks : map (block_of base (with_bytes_at bytes start xs)) spans ≡
      map (λ block. if nat_eq block.place place then with_content content block else block) (map (block_of base bytes) spans)

-- filling the block of a span is overwriting its bytes
pub span-refill : (base place start : ℕ) (bytes content xs : List ℕ) (from limit : ℕ) (spans : List Span) (index : ℕ) → limit ≤ length bytes →
    AreApart from limit spans → IsQuietAround bytes from limit spans → index < length spans →
    base + start ≡ place → (gap_span_at spans index).start ≡ start → length xs ≡ (gap_span_at spans index).len →
    xs ≡ content ++ replicate ((gap_span_at spans index).len - length content) int3 →
    Refills base place start bytes content xs from limit spans
span-refill base place start bytes content xs from limit [] index h apart quiet below p s l x = absurd (omega arith)
span-refill base place start bytes content xs from limit (span ∷ spans) zero h apart quiet below p s l x =
    let end = AreApart-le _ _ _ apart.2 in
    let within : start ≤ length bytes = omega arith in
    let with_bytes : List ℕ → LiveBlock = λ ys. record { place = base + span.start; len = span.len; content = ys } in
    let Q : ℕ → Type 0 = λ n. take span.len (drop n (with_bytes_at bytes start xs)) ≡ xs in
    let filled = subst Q (sym s) (part-at bytes start xs span.len within l) ∙ x in
    record {
      quiet = (
        (λ k a b. byte-below bytes start xs k within (omega arith) ∙ quiet.0 k a b),
        quiet-above bytes start xs (span.start + span.len) limit spans within (omega arith) apart.2 quiet.1,
      );
      blocks = rw (eq-eqb (base + span.start) place (omega arith))
          (ap (λ b. b ∷ map (block_of base (with_bytes_at bytes start xs)) spans) (ap with_bytes filled) ∙
          ap (λ bs. with_content content (block_of base bytes span) ∷ bs)
          (blocks-above base bytes start xs (span.start + span.len) limit spans within (omega arith) apart.2 ∙
          sym (fill-above base place bytes content (span.start + span.len) limit spans (omega arith) apart.2)));
    }
span-refill base place start bytes content xs from limit (span ∷ spans) (suc index) h apart quiet below p s l x =
    let rest = span-refill base place start bytes content xs (span.start + span.len) limit spans index h apart.2 quiet.1 (omega arith) p s l x in
    let at = AreApart-at (span.start + span.len) limit spans index apart.2 (omega arith) in
    let within : start ≤ length bytes = omega arith in
    let other : base + span.start ≡ place → ⊥ = λ same. absurd (omega arith) in
    record {
      quiet = ((λ k a b. byte-below bytes start xs k within (omega arith) ∙ quiet.0 k a b), rest.quiet);
      blocks = rw (ne_eqb (base + span.start) place other)
          (ap (λ b. b ∷ map (block_of base (with_bytes_at bytes start xs)) spans) (block-below base bytes start xs span within (omega arith)) ∙
          ap (λ bs. block_of base bytes span ∷ bs) rest.blocks);
    }
