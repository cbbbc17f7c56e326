-- A plain spelling whose parts fit, fits; one whose operands are read back, means the instruction.
use Rattle.std.proofs.Common.{◌≡◌, ℕ, ◌<◌, Bool, true, ◌&&◌, List, [], ◌∷◌, ◌++◌, length, Option, refl, sym, ◌∙◌, arith, slice_index_or}
use Rattle.std.proofs.lemmas.Bool.{and_from}
use Rattle.x86_values.specs.declared.Bits.{Bits}
use Rattle.x86_values.specs.declared.Code.{Code}
use Rattle.x86_values.specs.declared.Segment.{Segment}
use Rattle.x86_values.specs.declared.Operand.{Operand}
use Rattle.x86_values.specs.declared.Operand.TheVariants.{Absent as AbsentOperand}
use Rattle.x86_values.specs.declared.Rep.{Rep}
use Rattle.x86_values.specs.declared.Instr.{Instr}
use Rattle.instruction_parts.specs.declared.row_types.Row.{Row}
use Rattle.instruction_parts.specs.Bytes.{bytes_of, front_bytes, lead_bytes, state_of}
use Rattle.row_fit.specs.Fits.{fits, mode_fits, class_fits, sizes_fit, vvvv_fits, prefixes_fit, vex_fits, opcode_and_modrm_fit, lengths_fit, immediates_bytes, lock_fits, registers_fit, state_fits, tail_fits, fields_in_range}
use Rattle.row_meaning.specs.Meaning.{meaning, instr_of, operand_at as operand_read, tail, kept_repeat, kept_address_size}
use Rattle.plain_spelling.specs.Forms.{operand_at}
use Rattle.plain_spelling.specs.PlainFront.{plain_front_of}
use Rattle.plain_spelling.specs.PlainTail.{prefixes_of, plain_modrm, plain_sib_of, displacement_of_operand, operand_displacement, address_operand, plain_immediates, plain_size, plain_len, plain_next, plain_spelling}
use Rattle.row_relation.proofs.PartLengths.{modrm_count, sib_count, parts_length}

-- the bytes of displacement and immediates
abbrev pub plain_disp : Bits → ℕ → Row → Instr → List ℕ
plain_disp bits ip row i = displacement_of_operand (plain_next bits ip row i) (address_operand row i)

-- the immediates of a plain spelling
abbrev pub plain_imm : Bits → ℕ → Row → Instr → List ℕ
plain_imm bits ip row i = plain_immediates (plain_size bits row) row i (plain_next bits ip row i)

-- what each part meets
pub record PartsFit (bits : Bits) (ip : ℕ) (row : Row) (i : Instr) : Type 0 where
  pub state : state_of bits row (plain_spelling bits ip row i) ≡ plain_front_of bits row i
  pub mode : mode_fits bits row ≡ true
  pub class : class_fits row (plain_front_of bits row i) ≡ true
  pub sizes : sizes_fit bits row (plain_front_of bits row i) ≡ true
  pub vvvv : vvvv_fits row (plain_front_of bits row i) ≡ true
  pub prefixes : prefixes_fit bits (prefixes_of (plain_front_of bits row i)) ≡ true
  pub vex : vex_fits bits row (prefixes_of (plain_front_of bits row i)) (plain_front_of bits row i).vex (plain_front_of bits row i).opcode (plain_modrm bits row i) ≡ true
  pub opcode : opcode_and_modrm_fit row (plain_front_of bits row i).opcode (plain_modrm bits row i) ≡ true
  pub lengths : lengths_fit bits row (plain_front_of bits row i) (plain_modrm bits row i) (plain_sib_of bits row i) (length (plain_disp bits ip row i)) (length (plain_imm bits ip row i)) ≡ true
  pub lock : lock_fits row (plain_front_of bits row i) (plain_modrm bits row i) ≡ true
  pub registers : registers_fit bits row (plain_front_of bits row i) (plain_modrm bits row i) (plain_sib_of bits row i) ≡ true
  pub ranges : fields_in_range (plain_spelling bits ip row i) ≡ true

-- **a plain spelling whose parts fit, fits**
pub parts_fit : (bits : Bits) (ip : ℕ) (row : Row) (i : Instr) → PartsFit bits ip row i → fits bits row (plain_spelling bits ip row i) ≡ true
unfolding fits state_fits tail_fits plain_spelling
parts_fit bits ip row i p =
    let f = plain_front_of bits row i in
    let m = plain_modrm bits row i in
    let sib = plain_sib_of bits row i in
    let d = length (plain_disp bits ip row i) in
    let n = length (plain_imm bits ip row i) in
    rw p.state
    (and_from (mode_fits bits row && (class_fits row f && (sizes_fit bits row f && vvvv_fits row f))) _
    (and_from (mode_fits bits row) _ p.mode (and_from (class_fits row f) _ p.class (and_from (sizes_fit bits row f) _ p.sizes p.vvvv)))
    (and_from (prefixes_fit bits (prefixes_of f)) _ p.prefixes
    (and_from (vex_fits bits row (prefixes_of f) f.vex f.opcode m) _ p.vex
    (and_from (opcode_and_modrm_fit row f.opcode m && (lengths_fit bits row f m sib d n && (lock_fits row f m && registers_fit bits row f m sib))) _
    (and_from (opcode_and_modrm_fit row f.opcode m) _ p.opcode (and_from (lengths_fit bits row f m sib d n) _ p.lengths (and_from (lock_fits row f m) _ p.lock p.registers)))
    p.ranges))))

-- ---- lengths

-- how many bytes each part has
pub record PartLengths (bits : Bits) (ip : ℕ) (row : Row) (i : Instr) : Type 0 where
  pub used : (plain_front_of bits row i).used ≡ length (prefixes_of (plain_front_of bits row i) ++ lead_bytes row.map (plain_front_of bits row i).vex)
  pub disp : length (plain_disp bits ip row i) ≡ operand_displacement (address_operand row i)
  pub imm : length (plain_imm bits ip row i) ≡ immediates_bytes (plain_size bits row) row

-- a plain spelling is as long as its parts
pub plain_length : (bits : Bits) (ip : ℕ) (row : Row) (i : Instr) → PartLengths bits ip row i → length (bytes_of row (plain_spelling bits ip row i)) ≡ plain_len bits row i
unfolding plain_len plain_spelling immediates_bytes front_bytes
plain_length bits ip row i p =
    let l = parts_length row (plain_spelling bits ip row i) in
    let a = modrm_count (plain_modrm bits row i) in
    let b = sib_count (plain_sib_of bits row i) in
    omega (arith, l, a, b, p.used, p.disp, p.imm)

-- ---- the instruction

-- an instruction by its parts
abbrev pub instr_with : Code → List Operand → Bool → Rep → Option Segment → Option Bits → Instr
instr_with code ops lock rep seg asize = record { code = code; ops = ops; lock = lock; rep = rep; seg = seg; asize = asize }

instr_is : (i : Instr) (ops : List Operand) (lock : Bool) (rep : Rep) (seg : Option Segment) (asize : Option Bits) → ops ≡ i.ops → lock ≡ i.lock → rep ≡ i.rep → seg ≡ i.seg → asize ≡ i.asize → instr_with i.code ops lock rep seg asize ≡ i
instr_is i ops lock rep seg asize a b c d e = rw (a, b, c, d, e) refl

-- four operands are those at their places
four_operands : (ops : List Operand) → length ops ≡ 4 → ops ≡ slice_index_or ops 0 AbsentOperand ∷ slice_index_or ops 1 AbsentOperand ∷ slice_index_or ops 2 AbsentOperand ∷ slice_index_or ops 3 AbsentOperand ∷ []
four_operands [] h = absurd (omega arith)
four_operands (a ∷ []) h = absurd (omega arith)
four_operands (a ∷ b ∷ []) h = absurd (omega arith)
four_operands (a ∷ b ∷ c ∷ []) h = absurd (omega arith)
four_operands (a ∷ b ∷ c ∷ d ∷ []) h = refl
four_operands (a ∷ b ∷ c ∷ d ∷ e ∷ ops) h = absurd (omega arith)

-- what is read back from the parts
pub record PartsRead (bits : Bits) (ip : ℕ) (row : Row) (i : Instr) : Type 0 where
  pub operands : (n : ℕ) → n < 4 → operand_read bits row (plain_front_of bits row i) (tail (plain_modrm bits row i) (plain_sib_of bits row i) (plain_disp bits ip row i) (plain_next bits ip row i)) (plain_imm bits ip row i) n ≡ operand_at i n
  pub lock : (plain_front_of bits row i).lock ≡ i.lock
  pub rep : kept_repeat row.class (plain_front_of bits row i).rep ≡ i.rep
  pub seg : (plain_front_of bits row i).seg ≡ i.seg
  pub asize : kept_address_size bits row (plain_front_of bits row i) (plain_modrm bits row i) ≡ i.asize

four_read : (a b c d a' b' c' d' : Operand) → a ≡ a' → b ≡ b' → c ≡ c' → d ≡ d' → (a ∷ b ∷ c ∷ d ∷ []) ≡ (a' ∷ b' ∷ c' ∷ d' ∷ [])
four_read a b c d a' b' c' d' h1 h2 h3 h4 = cc

-- **a plain spelling whose operands are read back, means the instruction**
pub parts_mean : (bits : Bits) (ip : ℕ) (row : Row) (i : Instr) → state_of bits row (plain_spelling bits ip row i) ≡ plain_front_of bits row i → length (bytes_of row (plain_spelling bits ip row i)) ≡ plain_len bits row i → length i.ops ≡ 4 → PartsRead bits ip row i → meaning bits ip i.code row (plain_spelling bits ip row i) ≡ i
unfolding meaning instr_of plain_spelling plain_next
parts_mean bits ip row i state len four p =
    rw (state, len)
    (instr_is i _ _ _ _ _
    (four_read _ _ _ _ _ _ _ _ (p.operands 0 (omega arith)) (p.operands 1 (omega arith)) (p.operands 2 (omega arith)) (p.operands 3 (omega arith)) ∙ sym (four_operands i.ops four))
    p.lock p.rep p.seg p.asize)
