-- What the conditions on an operand come to by its variant.
use Rattle.std.proofs.Common.{◌≡◌, ℕ, Bool, true, false, ◌&&◌, refl, ap, sym, ◌∙◌}
use Rattle.std.proofs.lemmas.Bool.{and_parts}
use Rattle.x86_values.specs.declared.Bits.{Bits}
use Rattle.x86_values.specs.declared.Register.{Register}
use Rattle.x86_values.specs.declared.Mem.{Mem}
use Rattle.x86_values.specs.declared.Operand.{Operand}
use Rattle.x86_values.specs.declared.Operand.TheVariants.{Absent, Reg, Mem as MemOperand, Imm, Near, Far}
use Rattle.x86_values.specs.declared.Instr.{Instr}
use Rattle.instruction_parts.specs.declared.row_types.Row.{Row}
use Rattle.instruction_parts.specs.declared.kinds.Method.{Method}
use Rattle.instruction_parts.specs.declared.kinds.Method.TheVariants as method
use Rattle.instruction_parts.specs.Kinds.{method_of, file_of}
use Rattle.row_fit.specs.Fits.{kind_at, immediate_bytes}
use Rattle.x86_values.specs.Operands.{is_absent}
use Rattle.plain_spelling.specs.Forms.{is_variant_of, is_immediate, is_far, operand_at}
use Rattle.plain_spelling.specs.Addresses.{shape_suits, displacement_suits, written_size}
use Rattle.plain_spelling.specs.PlainTail.{plain_size, plain_next}
use Rattle.plain_spelling.specs.Expressible.{kind_suits, is_operand_nameable, is_nameable, address_suits, displacement_offered, immediate_suits, immediate_suits_how, target_suits, near_reaches, address_reaches, operand_suits, is_pair}

and-true : (b : Bool) → b ≡ (b && true)
and-true true = refl
and-true false = refl

-- only an immediate or a far pointer can have a value that its size does not hold
immediate-none : (size : Bits) (m : Method) (n : ℕ) (op : Operand) → is_immediate op ≡ false → is_far op ≡ false → immediate_suits_how size m n op ≡ true
unfolding immediate_suits_how
immediate-none size method.AsWritten n (Imm x) h g = cc
immediate-none size method.Extended n (Imm x) h g = cc
immediate-none size method.One n (Imm x) h g = cc
immediate-none size method.Pointer n (Far s o) h g = cc
immediate-none size _ n _ h g = refl

abbrev is_variant_at : Row → ℕ → Operand → Bool
is_variant_at row n op = is_variant_of row.place (method_of (kind_at row n)) op

abbrev fits_size : Bits → Row → ℕ → Operand → Bool
fits_size bits row n op = immediate_suits_how (plain_size bits row) (method_of (kind_at row n)) (immediate_bytes (plain_size bits row) (kind_at row n)) op

-- the conditions on an operand by its value
abbrev suits_as : Bits → ℕ → Row → Instr → ℕ → Operand → Bool
suits_as bits ip row i n op =
    is_variant_at row n op
    && ((elim op [ Reg r ↦ is_nameable bits row i n r | _ ↦ true ])
    && ((elim op [ MemOperand m ↦ shape_suits bits row (method_of (kind_at row n)) (file_of (kind_at row n)) m | _ ↦ true ])
    && ((elim op [ MemOperand m ↦ displacement_suits (written_size bits i.asize m) (method_of (kind_at row n)) m | _ ↦ true ])
    && (fits_size bits row n op
    && (elim op [
      | Near target ↦ near_reaches (plain_size bits row) (plain_next bits ip row i) (immediate_bytes (plain_size bits row) (kind_at row n)) target
      | MemOperand m ↦ address_reaches (plain_next bits ip row i) m
      | _ ↦ true
    ])))))

suits-by : (bits : Bits) (ip : ℕ) (row : Row) (i : Instr) (n : ℕ) (op : Operand) → operand_at i n ≡ op → suits_as bits ip row i n op ≡ operand_suits bits ip row i n
unfolding operand_suits kind_suits is_operand_nameable address_suits displacement_offered immediate_suits target_suits
suits-by bits ip row i n op e = ap (suits_as bits ip row i n) (sym e)

-- an absent operand suits if the row has none there
pub absent-suits : (bits : Bits) (ip : ℕ) (row : Row) (i : Instr) (n : ℕ) → operand_at i n ≡ Absent → is_variant_at row n Absent ≡ operand_suits bits ip row i n
absent-suits bits ip row i n e =
    let none : fits_size bits row n Absent ≡ true = immediate-none _ _ _ Absent refl refl in
    let all : is_variant_at row n Absent ≡ suits_as bits ip row i n Absent = rw none (and-true _) in
    all ∙ suits-by bits ip row i n Absent e

-- a register suits as the conditions on registers say
pub register-suits : (bits : Bits) (ip : ℕ) (row : Row) (i : Instr) (n : ℕ) (r : Register) → operand_at i n ≡ Reg r → is_variant_at row n (Reg r) ≡ true
    → is_nameable bits row i n r ≡ operand_suits bits ip row i n
register-suits bits ip row i n r e v =
    let none : fits_size bits row n (Reg r) ≡ true = immediate-none _ _ _ (Reg r) refl refl in
    let all : is_nameable bits row i n r ≡ suits_as bits ip row i n (Reg r) = rw v (rw none (and-true _)) in
    all ∙ suits-by bits ip row i n (Reg r) e

-- a memory operand suits as the conditions on addresses say
pub memory-suits : (bits : Bits) (ip : ℕ) (row : Row) (i : Instr) (n : ℕ) (m : Mem) → operand_at i n ≡ MemOperand m → is_variant_at row n (MemOperand m) ≡ true
    → (shape_suits bits row (method_of (kind_at row n)) (file_of (kind_at row n)) m && (displacement_suits (written_size bits i.asize m) (method_of (kind_at row n)) m
    && address_reaches (plain_next bits ip row i) m)) ≡ operand_suits bits ip row i n
memory-suits bits ip row i n m e v =
    let none : fits_size bits row n (MemOperand m) ≡ true = immediate-none _ _ _ (MemOperand m) refl refl in
    let all : (shape_suits bits row (method_of (kind_at row n)) (file_of (kind_at row n)) m && (displacement_suits (written_size bits i.asize m) (method_of (kind_at row n)) m
    && address_reaches (plain_next bits ip row i) m)) ≡ suits_as bits ip row i n (MemOperand m) = rw v (rw none refl) in
    all ∙ suits-by bits ip row i n (MemOperand m) e

-- a near target suits as the conditions on targets say
pub near-suits : (bits : Bits) (ip : ℕ) (row : Row) (i : Instr) (n target : ℕ) → operand_at i n ≡ Near target → is_variant_at row n (Near target) ≡ true
    → near_reaches (plain_size bits row) (plain_next bits ip row i) (immediate_bytes (plain_size bits row) (kind_at row n)) target ≡ operand_suits bits ip row i n
near-suits bits ip row i n target e v =
    let none : fits_size bits row n (Near target) ≡ true = immediate-none _ _ _ (Near target) refl refl in
    let all : near_reaches (plain_size bits row) (plain_next bits ip row i) (immediate_bytes (plain_size bits row) (kind_at row n)) target ≡ suits_as bits ip row i n (Near target) = rw v (rw none refl) in
    all ∙ suits-by bits ip row i n (Near target) e

absent-is : (op : Operand) → is_absent op ≡ true → op ≡ Absent
absent-is Absent h = refl
absent-is _ h = cc

-- operands that are absent as their kinds ask meet their conditions
pub pair-suits : (bits : Bits) (ip : ℕ) (row : Row) (i : Instr) → is_pair row i ≡ true
    → (operand_suits bits ip row i 2 && operand_suits bits ip row i 3) ≡ true
unfolding is_pair
pair-suits bits ip row i h =
    let kinds = is_variant_at row 3 Absent && (is_absent (operand_at i 2) && is_absent (operand_at i 3)) in
    let third = (and_parts (is_variant_at row 2 Absent) kinds h).0 in
    let rest = (and_parts (is_variant_at row 2 Absent) kinds h).1 in
    let fourth = (and_parts (is_variant_at row 3 Absent) (is_absent (operand_at i 2) && is_absent (operand_at i 3)) rest).0 in
    let absent = (and_parts (is_variant_at row 3 Absent) (is_absent (operand_at i 2) && is_absent (operand_at i 3)) rest).1 in
    let at_two = absent-is (operand_at i 2) (and_parts (is_absent (operand_at i 2)) (is_absent (operand_at i 3)) absent).0 in
    let at_three = absent-is (operand_at i 3) (and_parts (is_absent (operand_at i 2)) (is_absent (operand_at i 3)) absent).1 in
    rw (sym (absent-suits bits ip row i 2 at_two), sym (absent-suits bits ip row i 3 at_three), third, fourth) refl
