-- What a search among the stretches of a region finds.
use Rattle.std.specs.Prelude.{◌≡◌, ◌≢◌, ℕ, ◌+◌, ◌-◌, ◌<◌, ◌≤◌, List, [], ◌∷◌, length, take, drop, slice_index_or, insert, Some, None}
use Rattle.code_region.specs.declared.gaps.Span.{Span}
use Rattle.code_region.specs.declared.gaps.Search.{Search}
use Rattle.code_region.specs.declared.gaps.Search.TheVariants.{Found, Missing}
use Rattle.code_region.specs.Keeping.{IsTight}
use Rattle.code_region.specs.Gaps.{gaps_between, first_gap, longest}

-- where the last of the stretches ends, or from where there is none
abbrev pub end_from : ℕ → List Span → ℕ
end_from from [] = from
end_from from (span ∷ spans) = end_from (span.start + span.len) spans

-- where the first of the stretches starts, or the limit where there is none
abbrev pub next_start : ℕ → List Span → ℕ
next_start limit [] = limit
next_start limit (span ∷ spans) = span.start

-- the gap before the stretch of this index is the first that has so many bytes, and it starts at this offset;
-- with a stretch there, so many of the first ones have no gap before them
pub record IsGapFit (limit : ℕ) (spans : List Span) (needed index start packed : ℕ) : Type 0 where
  pub inside : index ≤ length spans
  pub front : end_from 0 (take index spans) ≡ start
  pub fits : start + needed ≤ next_start limit (drop index spans)
  pub first : first_gap needed (gaps_between 0 limit spans) ≡ Some (record { start = start; len = next_start limit (drop index spans) - start })
  pub tight : IsTight packed (insert spans index (record { start = start; len = needed }))

-- no gap has so many bytes, and the longest has largest
pub record IsFull (limit : ℕ) (spans : List Span) (needed largest : ℕ) : Type 0 where
  pub missing : first_gap needed (gaps_between 0 limit spans) ≡ None
  pub longest_gap : longest (gaps_between 0 limit spans) ≡ largest

-- what a search answers
abbrev pub IsSearched : ℕ → List Span → ℕ → Search → Type 0
IsSearched limit spans needed (Found index start packed) = IsGapFit limit spans needed index start packed
IsSearched limit spans needed (Missing largest) = IsFull limit spans needed largest

-- a stretch of no bytes at the start, for an index past the end
abbrev pub nowhere : Span
nowhere = record { start = 0; len = 0 }

-- the stretch of an index
abbrev pub gap_span_at : List Span → ℕ → Span
gap_span_at spans index = slice_index_or spans index nowhere

-- the stretch of this index starts at the address
pub record IsAt (base place : ℕ) (spans : List Span) (index : ℕ) : Type 0 where
  pub inside : index < length spans
  pub starts : base + (gap_span_at spans index).start ≡ place

-- no stretch starts at the address
abbrev pub IsNowhere : ℕ → ℕ → List Span → Type 0
IsNowhere base place spans = (index : ℕ) → index < length spans → base + (gap_span_at spans index).start ≢ place
