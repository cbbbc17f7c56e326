-- The gaps that stretches of addresses leave between two bounds.
use Rattle.std.specs.Prelude.{ℕ, ◌+◌, ◌-◌, max, nat_le, List, [], ◌∷◌, Option, find}
use Rattle.code_region.specs.declared.gaps.Span.{Span}

-- the gaps between from and limit, by address; where two stretches touch, the gap has the length 0
abbrev pub gaps_between : ℕ → ℕ → List Span → List Span
gaps_between from limit [] = record { start = from; len = limit - from } ∷ []
gaps_between from limit (span ∷ spans) =
    record { start = from; len = span.start - from } ∷ gaps_between (span.start + span.len) limit spans

-- the first gap that has so many bytes
abbrev pub first_gap : ℕ → List Span → Option Span
first_gap len gaps = find (λ gap. nat_le len gap.len) gaps

-- the length of the longest gap, or 0 where there is none
abbrev pub longest : List Span → ℕ
longest [] = 0
longest (gap ∷ gaps) = max gap.len (longest gaps)
