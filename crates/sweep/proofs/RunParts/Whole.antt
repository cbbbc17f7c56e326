-- The bytes that were read of a source that tells them.
use Rattle.std.proofs.Common.{◌≡◌, ℕ, ◌<◌, List, ◌++◌, length, Option, Some, None, ap, ◌∙◌, arith, append-nil, length-append}
use Rattle.sweep.specs.RunParts.Reads.{ReadsAll, ReadsTooMany}

-- bytes that are told and were read to their end
pub all_bytes : (limit : ℕ) (bytes : List ℕ) (left' : Option (List ℕ)) (read : List ℕ) → ReadsAll limit (Some bytes) left' read → bytes ≡ read
all_bytes limit bytes None read h = let e = h.read in cc
all_bytes limit bytes (Some rest) read h =
    let e : Some bytes ≡ Some (read ++ rest) = h.read in
    let same : bytes ≡ read ++ rest = cc in same ∙ (ap (λ (xs : List ℕ). read ++ xs) h.ended ∙ append-nil read)

-- a source that gives too many bytes has more than the limit
pub too_many : (limit : ℕ) (bytes : List ℕ) (left' : Option (List ℕ)) (read : List ℕ) → ReadsTooMany limit (Some bytes) left' read → limit < length bytes
too_many limit bytes None read h = let e = h.read in cc
too_many limit bytes (Some rest) read h =
    let e : Some bytes ≡ Some (read ++ rest) = h.read in
    let same : bytes ≡ read ++ rest = cc in omega (arith, ap length same, length-append read rest, h.over)
