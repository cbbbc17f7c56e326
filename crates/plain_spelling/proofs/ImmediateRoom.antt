-- Where the immediates of a plain spelling have room, and which numbers its registers have.
use Rattle.std.proofs.Common.{◌≡◌, ℕ, suc, ◌*◌, ◌<◌, ◌≤◌, true, List, [], ◌∷◌, length, arith}
use Rattle.std.specs.Prelude.{slice_index_or}
use Rattle.std.proofs.lemmas.Bool.{leb-true, and_parts}
use borrow.Author.Tests.{ltb-true}
use Rattle.x86_values.specs.declared.Bits.{Bits}
use Rattle.x86_values.specs.declared.Bits.TheVariants.{B16, B32, B64}
use Rattle.x86_values.specs.declared.Register.{Register}
use Rattle.x86_values.specs.declared.Operand.{Operand}
use Rattle.x86_values.specs.declared.Operand.TheVariants.{Absent as AbsentOperand, Reg}
use Rattle.x86_values.specs.declared.Instr.{Instr}
use Rattle.instruction_parts.specs.declared.row_types.Row.{Row}
use Rattle.instruction_parts.specs.declared.row_types.OpKind.{OpKind}
use Rattle.instruction_parts.specs.declared.kinds.Method.{Method}
use Rattle.instruction_parts.specs.declared.kinds.Method.TheVariants.{Vvvv}
use Rattle.instruction_parts.specs.Kinds.{method_of}
use Rattle.row_fit.specs.Fits.{immediates_bytes}
use Rattle.row_fit.specs.Sound.{sound, immediates_are_short}
use Rattle.row_fit.proofs.SoundLaws.{sound_conditions}
use Rattle.plain_spelling.specs.PlainFront.{register_number, operand_number, over_operands, number_in_vvvv, number_asked_of}
use Rattle.plain_spelling.specs.Forms.{operand_at}
use Rattle.plain_spelling.specs.Addresses.{register_count}
use Rattle.plain_spelling.specs.Expressible.{exists_in_mode, is_nameable, register_suits, each_operand, gather_suits}
use Rattle.plain_spelling.proofs.Asked.{four_kinds, each-at}

-- the immediates of a sound row have at most eight bytes at every size
pub immediates-short : (size : Bits) (row : Row) → sound row ≡ true → immediates_bytes size row ≤ 8
unfolding immediates_are_short
immediates-short B16 row h = leb-true _ 8 (and_parts _ _ (sound_conditions row h).immediates).0
immediates-short B32 row h = leb-true _ 8 (and_parts _ _ (and_parts _ _ (sound_conditions row h).immediates).1).0
immediates-short B64 row h = leb-true _ 8 (and_parts _ _ (and_parts _ _ (sound_conditions row h).immediates).1).1

-- a mode has at most sixteen numbers
count-le : (bits : Bits) → register_count bits ≤ 16
unfolding register_count
count-le B64 = omega arith
count-le B16 = omega arith
count-le B32 = omega arith

nameable-below : (bits : Bits) (row : Row) (i : Instr) (n : ℕ) (r : Register) → is_nameable bits row i n r ≡ true → register_number r < 16
unfolding is_nameable
nameable-below bits row i n r h =
    let below = ltb-true (register_number r) (register_count bits) (and_parts _ _ (and_parts (exists_in_mode bits r) _ h).1).0 in
    let most = count-le bits in
    omega (arith, below, most)

suited-below : (bits : Bits) (row : Row) (i : Instr) (n : ℕ) (op : Operand) → (elim op [ Reg r ↦ is_nameable bits row i n r | _ ↦ true ]) ≡ true → operand_number op < 16
suited-below bits row i n (Reg r) h = nameable-below bits row i n r h
suited-below bits row i n _ h = omega arith

-- the register operands have numbers below 16
pub number-below : (bits : Bits) (row : Row) (i : Instr) → each_operand (register_suits bits row i) ≡ true → (n : ℕ) → n < 4 → operand_number (operand_at i n) < 16
unfolding register_suits
number-below bits row i h n lt =
    suited-below bits row i n (operand_at i n) (and_parts _ (gather_suits row i n) (each-at (register_suits bits row i) n lt h)).0

-- the number in vvvv adds up over the operands
vvvv-most : (kinds : List OpKind) (ops : List Operand) → ((n : ℕ) → n < length kinds → operand_number (slice_index_or ops n AbsentOperand) < 16)
    → over_operands number_in_vvvv kinds ops ≤ 16 * length kinds
unfolding number_in_vvvv
vvvv-most [] ops h = omega arith
vvvv-most (kind ∷ kinds) [] h = omega arith
vvvv-most (kind ∷ kinds) (op ∷ ops) h =
    let rest = vvvv-most kinds ops (λ n lt. h (suc n) (omega arith)) in
    let one = one-most (method_of kind) op (h 0 (omega arith)) in
    omega (arith, rest, one)
  where
    one-most : (m : Method) (op : Operand) → operand_number op < 16 → number_in_vvvv m op < 16
    one-most Vvvv op h = h
    one-most _ op h = omega arith

-- the number in vvvv is a byte
pub vvvv-byte : (bits : Bits) (row : Row) (i : Instr) → sound row ≡ true → each_operand (register_suits bits row i) ≡ true → number_asked_of number_in_vvvv row i < 256
vvvv-byte bits row i h suits =
    let four = four_kinds row (sound_conditions row h) in
    let most = vvvv-most row.ops i.ops (λ n lt. number-below bits row i suits n (omega (arith, lt, four))) in
    omega (arith, most, four)
