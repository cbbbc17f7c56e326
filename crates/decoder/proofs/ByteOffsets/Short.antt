-- A displacement has at most eight bytes.
use Rattle.std.proofs.Common.{ℕ, ◌≤◌, Bool, true, false, Option, arith, if◌then◌else◌}
use Rattle.x86_values.specs.declared.Bits.{Bits}
use Rattle.instruction_parts.specs.declared.spelling.ModRm.{ModRm}
use Rattle.instruction_parts.specs.declared.spelling.Sib.{Sib}
use Rattle.instruction_parts.specs.Counting.{is_16}
use Rattle.row_fit.specs.Fits.{is_displacement_alone, full_displacement, displacement_bytes}
use Rattle.std.specs.Prelude.{◌==◌}

either_short : (b : Bool) (x y : ℕ) → x ≤ 8 → y ≤ 8 → (if b then x else y) ≤ 8
either_short true x y h k = h
either_short false x y h k = k

full_short : (size : Bits) → full_displacement size ≤ 8
full_short size = either_short (is_16 size) 2 4 (omega arith) (omega arith)

-- a displacement has at most 8 bytes
pub bytes_short : (size : Bits) (m : ModRm) (sib : Option Sib) → displacement_bytes size m sib ≤ 8
unfolding displacement_bytes
bytes_short size m sib =
    either_short (is_displacement_alone size m sib) (full_displacement size)
    (if m.mode3 == 1 then 1 else (if m.mode3 == 2 then full_displacement size else 0)) (full_short size)
    (either_short (m.mode3 == 1) 1 (if m.mode3 == 2 then full_displacement size else 0) (omega arith)
    (either_short (m.mode3 == 2) (full_displacement size) 0 (full_short size) (omega arith)))
