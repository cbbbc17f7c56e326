-- The writes of a patch over code that other processors may run: the first byte is INT3 until all the others are there.
use Rattle.std.specs.Prelude.{◌≡◌, ◌⊎◌, ℕ, ◌+◌, ◌<◌, List, [], ◌∷◌, ◌++◌, length, take, drop, slice_index, min}
use Rattle.detour.specs.declared.writes.Write.{Write}

-- a write: bytes over those from an offset on
pub record WriteState : Type 0 where
  pub offset : ℕ
  pub bytes : List ℕ

-- what contracts see of a `Write`
abbrev pub write_state : Write → WriteState
write_state w = record { offset = w.offset; bytes = w.bytes.now }

-- a write of bytes at an offset
abbrev pub write_at : ℕ → List ℕ → WriteState
write_at offset bytes = record { offset = offset; bytes = bytes }

-- one first byte, where there are bytes
abbrev pub first_count : List ℕ → ℕ
first_count bytes = min (length bytes) 1

-- INT3 over the first byte, the other bytes behind it, then the first byte
unfoldable pub writes_of : List ℕ → List WriteState
writes_of bytes =
    write_at 0 (take (first_count bytes) (0xCC ∷ [])) ∷ write_at (first_count bytes) (drop (first_count bytes) bytes)
    ∷ write_at 0 (take (first_count bytes) bytes) ∷ []

-- some code with a write over it
abbrev pub written : List ℕ → WriteState → List ℕ
written code w = take w.offset code ++ (w.bytes ++ drop (w.offset + length w.bytes) code)

-- some code with writes over it, one after another
abbrev pub written_by : List WriteState → List ℕ → List ℕ
written_by [] code = code
written_by (w ∷ ws) code = written_by ws (written code w)

-- the code after the first k writes of a patch
unfoldable pub after_writes : ℕ → List ℕ → List ℕ → List ℕ
after_writes k code patch = written_by (take k (writes_of patch)) code

-- some bytes between two states, as a write is done: each is that of one of them
pub record IsBetween (old new now : List ℕ) : Type 0 where
  pub len : length now ≡ length old
  pub each : (i : ℕ) → i < length old → (slice_index now i ≡ slice_index old i) ⊎ (slice_index now i ≡ slice_index new i)

-- all bytes of the code, INT3 at the front, or all bytes of the patch
abbrev pub IsSafe : List ℕ → List ℕ → List ℕ → Type 0
IsSafe code patch now = (now ≡ code) ⊎ ((take 1 now ≡ 0xCC ∷ []) ⊎ (now ≡ patch ++ drop (length patch) code))

-- What stands there after each number of writes, and in the midst of each. The old first byte stands only before all other old bytes, and the first one of the patch only before all
-- of the patch. The old bytes written in this order remove the patch.
pub record IsSafeOrder (code patch : List ℕ) : Type 0 where
  pub before : after_writes 0 code patch ≡ code
  pub stopped : after_writes 1 code patch ≡ 0xCC ∷ drop 1 code
  pub filled : after_writes 2 code patch ≡ 0xCC ∷ (drop 1 patch ++ drop (length patch) code)
  pub done : after_writes 3 code patch ≡ patch ++ drop (length patch) code
  pub amid : (k : ℕ) → k < 3 → (now : List ℕ) → IsBetween (after_writes k code patch) (after_writes (k + 1) code patch) now → IsSafe code patch now
  pub removed : after_writes 3 (after_writes 3 code patch) (take (length patch) code) ≡ code

-- the patch of a detour of some code: it has a byte, and its writes are in that order
pub record IsPatchSafe (code patch : List ℕ) : Type 0 where
  pub some : 0 < length patch
  pub order : IsSafeOrder code patch
