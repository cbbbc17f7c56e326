-- How many bytes of the immediates belong to each operand.
use Rattle.std.proofs.Common.{◌≡◌, ℕ, zero, suc, ◌+◌, ◌<◌, ◌≤◌, List, length, take, drop, refl, sym, arith}
use Rattle.std.proofs.Math.Seq.{take-length}
use Rattle.x86_values.specs.declared.Bits.{Bits}
use Rattle.x86_values.specs.declared.Bits.TheVariants.{B16, B32, B64}
use Rattle.instruction_parts.specs.declared.row_types.OpKind.{OpKind}
use Rattle.x86_values.specs.declared.Operand.TheVariants.{Absent as AbsentOperand}
use Rattle.instruction_parts.specs.declared.row_types.OpKind.TheVariants.{Ap, Absent as AbsentKind}
use Rattle.instruction_parts.specs.declared.row_types.Row.{Row}
use Rattle.instruction_parts.specs.declared.spelling.PrefixState.{PrefixState}
use Rattle.instruction_parts.specs.declared.kinds.Method.TheVariants.{Pointer}
use Rattle.instruction_parts.specs.Kinds.{method_of, immediate_width}
use Rattle.row_fit.specs.Fits.{immediate_bytes, immediates_bytes, kind_at}
use Rattle.row_meaning.specs.Meaning.{Tail, immediates_before, operand_by, operand_at}

-- a far pointer has at most six bytes
pub pointer_short : (kind : OpKind) (size : Bits) → method_of kind ≡ Pointer → immediate_bytes size kind ≤ 6
unfolding method_of immediate_width immediate_bytes
pointer_short Ap B16 h = omega arith
pointer_short Ap B32 h = omega arith
pointer_short Ap B64 h = omega arith
pointer_short _ size h = cc

-- the bytes of operand n and those before it are within those of all
pub before_within : (size : Bits) (row : Row) (n : ℕ) → n < 4 → immediates_before size row n + immediate_bytes size (kind_at row n) ≤ immediates_bytes size row
unfolding immediates_before immediates_bytes
before_within size row zero h = omega arith
before_within size row (suc zero) h = omega arith
before_within size row (suc (suc zero)) h = omega arith
before_within size row (suc (suc (suc zero))) h = omega arith
before_within size row (suc (suc (suc (suc n)))) h = absurd (omega arith)

-- what is all of the bytes stands behind none
pub whole_list : (xs : List ℕ) (before len : ℕ) → len ≡ length xs → before + len ≤ length xs → xs ≡ take len (drop before xs)
whole_list xs before len e within =
    let none : before ≡ zero = omega arith in
    rw (none, e) (sym (take-length xs))

-- an operand of the kind absent is absent
pub absent_operand : (bits : Bits) (row : Row) (state : PrefixState) (t : Tail) (imm : List ℕ) (n : ℕ) → kind_at row n ≡ AbsentKind → operand_at bits row state t imm n ≡ AbsentOperand
unfolding operand_at operand_by method_of
absent_operand bits row state t imm n h = rw h refl
