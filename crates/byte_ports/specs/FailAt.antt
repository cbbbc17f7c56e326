-- When a port that fails at listed calls fails by itself, and how often it has failed.
use Rattle.std.specs.Prelude.{◌+◌, ℕ, List, [], ◌∷◌, Bool, ◌&&◌, ◌==◌, nat_lt, nat_le, if◌then◌else◌, min}
use Rattle.std.specs.List.{list_any}
use Rattle.byte_ports.specs.Ports.{last_count}

-- the next call is one of the listed, and has a number that a counter of 64 bits has
unfoldable pub fails_next : List ℕ → ℕ → Bool
fails_next calls made = nat_lt made last_count && list_any (λ call. call == made + 1) calls

-- how many of the list are numbers of the calls so far
unfoldable pub listed_so_far : List ℕ → ℕ → ℕ
listed_so_far [] made = 0
listed_so_far (call ∷ calls) made = (if nat_lt 0 call && nat_le call made then 1 else 0) + listed_so_far calls made

-- the faults of the inner port and those at listed calls, as far as a counter goes
unfoldable pub faults_with : ℕ → List ℕ → ℕ → ℕ
faults_with inner calls made = min (inner + listed_so_far calls made) last_count
