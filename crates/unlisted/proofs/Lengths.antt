-- Lengths of displacements and of runs of prefixes.
use Rattle.std.proofs.Common.{◌≡◌, ℕ, ◌≤◌, Bool, true, false, List, [], ◌∷◌, length, Option, refl, ◌∙◌, arith, if◌then◌else◌}
use Rattle.std.specs.List.{take_while, prefix_len}
use Rattle.x86_values.specs.declared.Bits.{Bits}
use Rattle.instruction_parts.specs.declared.spelling.ModRm.{ModRm}
use Rattle.instruction_parts.specs.declared.spelling.Sib.{Sib}
use Rattle.instruction_parts.specs.Counting.{is_prefix, is_16}
use Rattle.instruction_parts.specs.Front.{prefix_run}
use Rattle.row_fit.specs.Fits.{displacement_bytes}
use Rattle.prefixes.proofs.Runs.{length-take_while}

if-small : (test : Bool) (a b : ℕ) → a ≤ 8 → b ≤ 8 → (if test then a else b) ≤ 8
if-small true a b ha hb = ha
if-small false a b ha hb = hb

-- a displacement by ModRM has at most 8 bytes
pub displacement-small : (asize : Bits) (m : ModRm) (sib : Option Sib) → displacement_bytes asize m sib ≤ 8
unfolding displacement_bytes
displacement-small asize m sib =
    let full = if-small (is_16 asize) 2 4 (omega arith) (omega arith) in
    if-small _ _ _ full (if-small _ 1 _ (omega arith) (if-small _ _ 0 full (omega arith)))

run-count-step : (bits : Bits) (b : ℕ) (bytes : List ℕ) (test : Bool) → is_prefix bits b ≡ test → prefix_len (is_prefix bits) bytes ≡ length (prefix_run bits bytes) → prefix_len (is_prefix bits) (b ∷ bytes) ≡ length (prefix_run bits (b ∷ bytes))
unfolding prefix_run
run-count-step bits b bytes true h rest = rw h (omega (arith, rest))
run-count-step bits b bytes false h rest = rw h (omega arith)

run-count : (bits : Bits) (bytes : List ℕ) → prefix_len (is_prefix bits) bytes ≡ length (prefix_run bits bytes)
unfolding prefix_run
run-count bits [] = omega arith
run-count bits (b ∷ bytes) = run-count-step bits b bytes (is_prefix bits b) refl (run-count bits bytes)

-- the bytes that are prefixes at the front are as many as those of the run
pub length-run : (bits : Bits) (bytes : List ℕ) → length (take_while (is_prefix bits) bytes) ≡ length (prefix_run bits bytes)
length-run bits bytes = length-take_while (is_prefix bits) bytes ∙ run-count bits bytes
