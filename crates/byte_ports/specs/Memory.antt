-- What the ports in memory answer to each call, and what they are after it.
use Rattle.std.specs.Prelude.{◌≡◌, ◌<◌, ◌+◌, ◌-◌, ◌%◌, ◌^◌, ℕ, List, ◌++◌, length, take, drop, min, sum, Result, Ok, Err}
use Rattle.byte_ports.specs.declared.failed.Failed.{Failed}
use Rattle.byte_ports.specs.Ports.{next_count}

-- what a sink in memory holds: its bytes, how many more it has room for, and how often it failed
pub record Held : Type 0 where
  pub bytes : List ℕ
  pub free : ℕ
  pub faults : ℕ

-- A source in memory gives as many bytes as fit into the buffer, and never fails.
pub record PullsFront (bytes buffer : List ℕ) (result : Result ℕ Failed) (rest filled : List ℕ) : Type 0 where
  pub count : result ≡ Ok (min (length buffer) (length bytes))
  pub rest_is : rest ≡ drop (min (length buffer) (length bytes)) bytes
  pub filled_is : filled ≡ take (min (length buffer) (length bytes)) bytes ++ drop (min (length buffer) (length bytes)) buffer

-- A sink in memory takes as many bytes of a piece as it has room for, and fails exactly where a piece that is
-- not empty finds no room.
abbrev pub PutsWithinRoom : Held → List ℕ → Result ℕ Failed → Held → Type 0
PutsWithinRoom old piece (Ok n) new =
    (n ≡ min old.free (length piece))
    × (0 < length piece → 0 < old.free)
    × (new ≡ record { bytes = old.bytes ++ take n piece; free = old.free - n; faults = old.faults })
PutsWithinRoom old piece (Err _) new =
    (0 < length piece)
    × (old.free ≡ 0)
    × (new ≡ record { bytes = old.bytes; free = old.free; faults = next_count old.faults })

-- what a sink that only counts knows: the number of the bytes and their sum, each modulo 2^64
pub record Counts : Type 0 where
  pub count : ℕ
  pub total : ℕ

-- A sink that only counts takes every byte, and never fails.
pub record CountsAll (old : Counts) (piece : List ℕ) (result : Result ℕ Failed) (new : Counts) : Type 0 where
  pub all : result ≡ Ok (length piece)
  pub count_is : new.count ≡ (old.count + length piece) % 2 ^ 64
  pub total_is : new.total ≡ (old.total + sum piece) % 2 ^ 64
