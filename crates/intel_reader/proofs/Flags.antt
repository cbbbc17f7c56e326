-- Flags as numbers: the bitwise and of two numbers compares their flags one by one.
use Rattle.std.proofs.Common.{◌≡◌, ℕ, ◌+◌, ◌*◌, ◌==◌, Bool, true, false, ◌&&◌, List, [], ◌∷◌, refl, ap, sym, ◌∙◌, arith, if◌then◌else◌}
use Rattle.std.specs.Prelude.{bit_and}
use Rattle.std.proofs.lemmas.Nat.{and_block, and_comm}
use Rattle.x86_values.specs.declared.Bits.{Bits}
use Rattle.x86_values.specs.declared.Bits.TheVariants.{B16, B32, B64}
use Rattle.instruction_parts.specs.declared.row_types.Row.{Row}
use Rattle.instruction_parts.specs.Sizes.{exists_in}
use Rattle.intel_reader.specs.declared.operands.OperandClass.{OperandClass}
use Rattle.intel_reader.specs.declared.operands.OperandClass.TheVariants as class
use Rattle.intel_reader.specs.Operands.{admits, takes, by_class, row_flags, one_class, one_mode, asked_flags, number_of}

-- each flag that is asked is there
unfoldable pub covers : List Bool → List Bool → Bool
covers flags [] = true
covers [] (true ∷ asked) = false
covers [] (false ∷ asked) = covers [] asked
covers (flag ∷ flags) (true ∷ asked) = flag && covers flags asked
covers (flag ∷ flags) (false ∷ asked) = covers flags asked

and_zero : (n : ℕ) → bit_and 0 n ≡ 0
and_zero n = grind arith

and_none : (n : ℕ) → bit_and n 0 ≡ 0
and_none n = and_comm n 0 ∙ and_zero n

twice_same : (a b r : ℕ) → (a * 2 + r == b * 2 + r) ≡ (a == b)
twice_same a b r = grind arith

never_same : (a b : ℕ) → (a * 2 + 0 == b * 2 + 1) ≡ false
never_same a b = grind arith

zero_never : (b : ℕ) → (0 == b * 2 + 1) ≡ false
zero_never b = grind arith

zero_same : (b : ℕ) → (0 == b * 2 + 0) ≡ (0 == b)
zero_same b = grind arith

-- **a number has all flags of another exactly where each flag is there**
pub compared : (flags asked : List Bool) → (bit_and (number_of flags) (number_of asked) == number_of asked) ≡ covers flags asked
unfolding covers number_of
compared [] [] = refl
compared (flag ∷ flags) [] = rw (and_none (number_of flags * 2 + (if flag then 1 else 0))) refl
compared [] (true ∷ asked) = rw (and_zero (number_of asked * 2 + 1)) (zero_never (number_of asked))
compared [] (false ∷ asked) =
    let rest = compared [] asked in
    rw (and_zero (number_of asked * 2 + 0)) (zero_same (number_of asked) ∙ (ap (λ (n : ℕ). n == number_of asked) (sym (and_zero (number_of asked))) ∙ rest))
compared (true ∷ flags) (true ∷ asked) =
    rw (and_block 1 (number_of flags) (number_of asked) 1 1 (omega arith) (omega arith))
    (twice_same (bit_and (number_of flags) (number_of asked)) (number_of asked) 1 ∙ compared flags asked)
compared (false ∷ flags) (true ∷ asked) =
    rw (and_block 1 (number_of flags) (number_of asked) 0 1 (omega arith) (omega arith))
    (never_same (bit_and (number_of flags) (number_of asked)) (number_of asked))
compared (true ∷ flags) (false ∷ asked) =
    rw (and_block 1 (number_of flags) (number_of asked) 1 0 (omega arith) (omega arith))
    (twice_same (bit_and (number_of flags) (number_of asked)) (number_of asked) 0 ∙ compared flags asked)
compared (false ∷ flags) (false ∷ asked) =
    rw (and_block 1 (number_of flags) (number_of asked) 0 0 (omega arith) (omega arith))
    (twice_same (bit_and (number_of flags) (number_of asked)) (number_of asked) 0 ∙ compared flags asked)

-- ---- the flags of a row

class_covers : (p : OperandClass → Bool) (c : OperandClass) (flags asked : List Bool) → covers (by_class p flags) (one_class c asked) ≡ (p c && covers flags asked)
unfolding covers by_class one_class
class_covers p class.Absent flags asked = refl
class_covers p class.Al flags asked = refl
class_covers p class.Byte flags asked = refl
class_covers p class.Ax flags asked = refl
class_covers p class.Word flags asked = refl
class_covers p class.Eax flags asked = refl
class_covers p class.Dword flags asked = refl
class_covers p class.Rax flags asked = refl
class_covers p class.Qword flags asked = refl
class_covers p class.Xmm flags asked = refl
class_covers p class.Other flags asked = refl
class_covers p class.Number flags asked = refl
class_covers p class.Pointer flags asked = refl
class_covers p class.Address flags asked = refl

mode_covers : (bits : Bits) (row : Row) (flags asked : List Bool)
    → covers (exists_in B16 row ∷ exists_in B32 row ∷ exists_in B64 row ∷ flags) (one_mode bits asked) ≡ (exists_in bits row && covers flags asked)
unfolding covers one_mode
mode_covers B16 row flags asked = refl
mode_covers B32 row flags asked = refl
mode_covers B64 row flags asked = refl

and_true : (x : Bool) → (x && true) ≡ x
and_true true = refl
and_true false = refl

-- **the flags of a row have those of a mode and of four classes exactly where it exists in the mode and takes them**
pub row_covers : (bits : Bits) (row : Row) (a b c d : OperandClass) → covers (row_flags row) (asked_flags bits a b c d) ≡ takes bits row a b c d
unfolding row_flags asked_flags takes covers
row_covers bits row a b c d =
    mode_covers bits row _ _
    ∙ ap (λ (x : Bool). exists_in bits row && x)
    (class_covers (admits row 0) a _ _
    ∙ ap (λ (x : Bool). admits row 0 a && x)
    (class_covers (admits row 1) b _ _
    ∙ ap (λ (x : Bool). admits row 1 b && x)
    (class_covers (admits row 2) c _ _
    ∙ ap (λ (x : Bool). admits row 2 c && x)
    (class_covers (admits row 3) d [] [] ∙ and_true (admits row 3 d)))))

-- the flags of a row take the flags of some operands exactly if the row takes the operands
pub taken : (bits : Bits) (row : Row) (a b c d : OperandClass) → (bit_and (number_of (row_flags row)) (number_of (asked_flags bits a b c d)) == number_of (asked_flags bits a b c d)) ≡ takes bits row a b c d
taken bits row a b c d = compared (row_flags row) (asked_flags bits a b c d) ∙ row_covers bits row a b c d

-- ---- flags behind flags

-- the number of a class with others behind it
pub class_number : (c : OperandClass) (more : List Bool) → number_of (one_class c more) ≡ number_of (one_class c []) + 0x4000 * number_of more
unfolding one_class number_of
class_number class.Absent more = omega arith
class_number class.Al more = omega arith
class_number class.Byte more = omega arith
class_number class.Ax more = omega arith
class_number class.Word more = omega arith
class_number class.Eax more = omega arith
class_number class.Dword more = omega arith
class_number class.Rax more = omega arith
class_number class.Qword more = omega arith
class_number class.Xmm more = omega arith
class_number class.Other more = omega arith
class_number class.Number more = omega arith
class_number class.Pointer more = omega arith
class_number class.Address more = omega arith

-- the flags of a mode come before those that follow
pub mode_number : (bits : Bits) (more : List Bool) → number_of (one_mode bits more) ≡ number_of (one_mode bits []) + 8 * number_of more
unfolding one_mode number_of
mode_number B16 more = omega arith
mode_number B32 more = omega arith
mode_number B64 more = omega arith
