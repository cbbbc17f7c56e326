-- Stretches that stand apart, step by step and at an index.
use Rattle.std.proofs.Common.{◌≡◌, ℕ, zero, suc, ◌+◌, ◌-◌, ◌≤◌, ◌<◌, List, [], ◌∷◌, ◌++◌, length, take, drop, insert, arith, ◌∙◌, ap, subst, refl, max, Some, inl, inr}
use Rattle.std.proofs.lemmas.List.{drop_more, take_more, drop_all}
use Rattle.std.proofs.lemmas.Bool.{lt-leb, le-leb, cases_lt}
use Rattle.code_region.specs.declared.gaps.Span.{Span}
use Rattle.code_region.specs.Gaps.{gaps_between, first_gap, longest}
use Rattle.code_region.specs.Keeping.{AreApart, IsTight}
use Rattle.code_region.specs.Searching.{gap_span_at, nowhere, end_from, next_start, IsGapFit}

-- such stretches leave no negative room
pub AreApart-le : (from limit : ℕ) (spans : List Span) → AreApart from limit spans → from ≤ limit
AreApart-le from limit [] h = h
AreApart-le from limit (span ∷ spans) h = let below = AreApart-le (span.start + span.len) limit spans h.2 in omega arith

-- from one index on: the stretch there, and the ones behind it
pub AreApart-drop : (from limit : ℕ) (spans : List Span) (i : ℕ) → i < length spans → AreApart from limit (drop i spans) →
    AreApart from limit (gap_span_at spans i ∷ drop (i + 1) spans)
AreApart-drop from limit spans i h apart = subst (λ xs. AreApart from limit xs) (drop_more spans i nowhere h) apart

-- from an index on, where all are apart
pub AreApart-at : (from limit : ℕ) (spans : List Span) (i : ℕ) → AreApart from limit spans → i < length spans →
    (from ≤ (gap_span_at spans i).start) × (0 < (gap_span_at spans i).len) × ((gap_span_at spans i).start + (gap_span_at spans i).len ≤ limit)
AreApart-at from limit (span ∷ spans) zero apart h = let end = AreApart-le (span.start + span.len) limit spans apart.2 in (apart.0, apart.1, end)
AreApart-at from limit (span ∷ spans) (suc i) apart h =
    let below = AreApart-at (span.start + span.len) limit spans i apart.2 (omega arith) in (omega arith, below.1, below.2)
AreApart-at from limit [] i apart h = absurd (omega arith)

-- an earlier stretch ends where a later one starts, or before
pub AreApart-pair : (from limit : ℕ) (spans : List Span) (i j : ℕ) → AreApart from limit spans → i < j → j < length spans →
    (gap_span_at spans i).start + (gap_span_at spans i).len ≤ (gap_span_at spans j).start
AreApart-pair from limit (span ∷ spans) zero (suc j) apart h l = (AreApart-at (span.start + span.len) limit spans j apart.2 (omega arith)).0
AreApart-pair from limit (span ∷ spans) (suc i) (suc j) apart h l = AreApart-pair (span.start + span.len) limit spans i j apart.2 (omega arith) (omega arith)
AreApart-pair from limit (span ∷ spans) i zero apart h l = absurd (omega arith)
AreApart-pair from limit [] i j apart h l = absurd (omega arith)

-- where the stretches up to one of them end
pub end_from-push : (from : ℕ) (spans : List Span) (span : Span) → end_from from (spans ++ span ∷ []) ≡ span.start + span.len
end_from-push from [] span = refl
end_from-push from (other ∷ spans) span = end_from-push (other.start + other.len) spans span

-- up to a span of the list, spans end where that span does
pub end_from-take : (from : ℕ) (spans : List Span) (i : ℕ) → i < length spans → end_from from (take (i + 1) spans) ≡ (gap_span_at spans i).start + (gap_span_at spans i).len
end_from-take from spans i h = rw (take_more spans i nowhere h) (end_from-push from (take i spans) (gap_span_at spans i))

-- a gap that is too short is not the first that is long enough
pub first_gap-skip : (from limit needed i : ℕ) (spans : List Span) → i < length spans → (gap_span_at spans i).start - from < needed →
    first_gap needed (gaps_between from limit (drop i spans)) ≡
    first_gap needed (gaps_between ((gap_span_at spans i).start + (gap_span_at spans i).len) limit (drop (i + 1) spans))
first_gap-skip from limit needed i spans h short =
    ap (λ xs. first_gap needed (gaps_between from limit xs)) (drop_more spans i nowhere h) ∙
    rw (lt-leb needed ((gap_span_at spans i).start - from) short) refl

-- the longest gap is the longer of the gap before a span and of those after it
pub longest-skip : (from limit i : ℕ) (spans : List Span) → i < length spans →
    longest (gaps_between from limit (drop i spans)) ≡
    max ((gap_span_at spans i).start - from) (longest (gaps_between ((gap_span_at spans i).start + (gap_span_at spans i).len) limit (drop (i + 1) spans)))
longest-skip from limit i spans h = ap (λ xs. longest (gaps_between from limit xs)) (drop_more spans i nowhere h)

-- the longest so far, one gap on
pub max-step : (whole largest x gap rest result : ℕ) → whole ≡ max largest x → x ≡ max gap rest → result ≡ max largest gap → whole ≡ max result rest
max-step whole largest x gap rest result e f g = omega arith

-- later stretches start later
pub AreApart-starts : (limit : ℕ) (spans : List Span) (i j : ℕ) → AreApart 0 limit spans → i ≤ j → j < length spans → (gap_span_at spans i).start ≤ (gap_span_at spans j).start
AreApart-starts limit spans i j apart h l = elim (cases_lt i j) [
  | inl before ↦ (let pair = AreApart-pair 0 limit spans i j apart before l in omega arith)
  | inr behind ↦ (let same : i ≡ j = omega arith in subst (λ k. (gap_span_at spans i).start ≤ (gap_span_at spans k).start) same (omega arith))
]

-- a higher last bound
pub AreApart-raise : (from limit higher : ℕ) (spans : List Span) → limit ≤ higher → AreApart from limit spans → AreApart from higher spans
AreApart-raise from limit higher [] h apart = omega arith
AreApart-raise from limit higher (span ∷ spans) h apart = (apart.0, apart.1, AreApart-raise (span.start + span.len) limit higher spans h apart.2)

-- where a gap is long enough, it is the first behind its start
pub first_gap-here : (limit needed from : ℕ) (rest : List Span) → needed ≤ next_start limit rest - from →
    first_gap needed (gaps_between from limit rest) ≡ Some (record { start = from; len = next_start limit rest - from })
first_gap-here limit needed from [] fits = rw (le-leb needed (limit - from) fits) refl
first_gap-here limit needed from (span ∷ spans) fits = rw (le-leb needed (span.start - from) fits) refl

-- the gap before an index, and the one behind the last
pub fit-here : (limit needed index from packed next : ℕ) (spans : List Span) → index ≤ length spans → next_start limit (drop index spans) ≡ next →
    end_from 0 (take index spans) ≡ from →
    first_gap needed (gaps_between 0 limit spans) ≡ first_gap needed (gaps_between from limit (drop index spans)) →
    0 < needed → needed ≤ next - from → IsTight packed (insert spans index (record { start = from; len = needed })) →
    IsGapFit limit spans needed index from packed
fit-here limit needed index from packed next spans inside n front first some fits tight = record {
  inside = inside;
  front = front;
  fits = omega arith;
  first = first ∙ first_gap-here limit needed from (drop index spans) (omega arith);
  tight = tight;
}

-- the spans from an index on start where the span of that index does
pub next_start-at : (limit index : ℕ) (spans : List Span) → index < length spans → next_start limit (drop index spans) ≡ (gap_span_at spans index).start
next_start-at limit index spans h = ap (next_start limit) (drop_more spans index nowhere h)

-- behind the last span the next start is the limit
pub next_start-end : (limit : ℕ) (spans : List Span) → next_start limit (drop (length spans) spans) ≡ limit
next_start-end limit spans = ap (next_start limit) (drop_all (length spans) spans (omega arith))
