-- What a call of a source or a sink takes, leaves and counts.
use Rattle.std.specs.Prelude.{◌≡◌, ◌⊎◌, ◌<◌, ◌≤◌, ◌+◌, ◌-◌, ◌^◌, ℕ, List, ◌++◌, Option, Some, None, Result, IsErr, min}

-- the last value of a counter of 64 bits
unfoldable pub last_count : ℕ
last_count = 2 ^ 64 - 1

-- one more, but never past the last value
abbrev pub next_count : ℕ → ℕ
next_count n = min (n + 1) last_count

-- a count of faults rose in a call: it is higher than before, or stands at its last value as the call ends
abbrev pub Rose : ℕ → ℕ → Type 0
Rose before now = (before < now) ⊎ (now ≡ last_count)

-- the count of faults never falls, and a call fails only where it rose
pub record HasCause {T E : Type 0} (before now : ℕ) (result : Result T E) : Type 0 where
  pub later : before ≤ now
  pub failed : IsErr result → Rose before now

-- these bytes and then those that are left, where these are told
abbrev pub with_front : List ℕ → Option (List ℕ) → Option (List ℕ)
with_front taken None = None
with_front taken (Some rest) = Some (taken ++ rest)

-- the bytes that are held, where these are told, and then a piece
abbrev pub with_back : Option (List ℕ) → List ℕ → Option (List ℕ)
with_back None piece = None
with_back (Some bytes) piece = Some (bytes ++ piece)
