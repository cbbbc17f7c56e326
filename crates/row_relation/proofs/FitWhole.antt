-- The plain spelling of an instruction that meets its conditions fits its row and means the instruction.
use Rattle.std.proofs.Common.{◌≡◌, ℕ, ◌<◌, true, false, ◌||◌, length, Option, Some, None, refl, ap, ◌∙◌, nat_lt, eq-eqb, if◌then◌else◌, is_none, inl, inr}
use Rattle.std.proofs.lemmas.Bool.{and_from, lt-ltb, and_parts, cases_Bool}
use Rattle.x86_values.specs.declared.Bits.{Bits}
use Rattle.x86_values.specs.declared.Operand.{Operand}
use Rattle.x86_values.specs.declared.Operand.TheVariants.{Absent as AbsentOperand, Reg, Mem as MemOperand, Imm, Near, Far}
use Rattle.x86_values.specs.declared.Instr.{Instr}
use Rattle.instruction_parts.specs.declared.row_types.Row.{Row}
use Rattle.instruction_parts.specs.Sizes.{state_address_size, has_address_mark}
use Rattle.instruction_parts.specs.Kinds.{method_of}
use Rattle.instruction_parts.specs.Bytes.{state_of}
use Rattle.row_fit.specs.Fits.{fits, opcode_fits, opcode_and_modrm_fit, modrm_rule_fits, lengths_fit, address_fits, immediates_bytes, kind_at, are_bytes, vex_in_range, modrm_in_range, sib_in_range, fields_in_range}
use Rattle.row_meaning.specs.Meaning.{Tail, tail, meaning, operand_by, operand_at as operand_read, kept_address_size}
use Rattle.plain_spelling.specs.Forms.{operand_at}
use Rattle.plain_spelling.specs.PlainFront.{plain_front_of}
use Rattle.plain_spelling.specs.Addresses.{has_address_size}
use Rattle.plain_spelling.specs.PlainTail.{prefixes_of, plain_modrm, plain_sib_of, operand_displacement, address_operand, immediate_at, plain_size, plain_next, plain_spelling}
use Rattle.plain_spelling.specs.Expressible.{address_size_suits, is_size_of, has_memory_operand}
use Rattle.row_relation.specs.Given.{Given}
use Rattle.row_relation.proofs.FitParts.{plain_disp, plain_imm, parts_fit, parts_mean}
use Rattle.row_relation.proofs.FitLengths.{plain_long}
use Rattle.row_relation.proofs.FitNumbers.{numbers_suit}
use Rattle.row_relation.proofs.FitFrontBits.{FrontBits}
use Rattle.row_relation.proofs.FitFront.{PlainFrontFits, plain_front_fits}
use Rattle.row_relation.proofs.FitPlaces.{rule_fits, places_fit, modrm_fits}
use Rattle.row_relation.proofs.FitRegisters.{registers_are_fit}
use Rattle.row_relation.proofs.FitRegistersBack.{has_memory_is, locks_fit, register_back, absent_back}
use Rattle.row_relation.proofs.FitImmediates.{immediates-length, immediates-bytes, own-immediate, value-read_back, is_value}
use Rattle.row_relation.proofs.FitAddressBytes.{displacement_are_bytes, displacement_length}
use Rattle.row_relation.proofs.FitAddressLengths.{tail_fits}
use Rattle.row_relation.proofs.FitAddresses.{memory_back}

-- the front of an instruction that meets its conditions
front : (bits : Bits) (ip : ℕ) (row : Row) (i : Instr) → Given bits ip row i → PlainFrontFits bits row i
front bits ip row i g =
    plain_front_fits bits ip row i g (numbers_suit bits ip row i g) (places_fit bits ip row i g) (rule_fits bits row i g.is_sound)

-- ---- it fits

own_state : (bits : Bits) (ip : ℕ) (row : Row) (i : Instr) → PlainFrontFits bits row i → state_of bits row (plain_spelling bits ip row i) ≡ plain_front_of bits row i
unfolding plain_spelling
own_state bits ip row i f = f.state (plain_spelling bits ip row i) refl refl refl

lengths : (bits : Bits) (ip : ℕ) (row : Row) (i : Instr) → Given bits ip row i → PlainFrontFits bits row i → lengths_fit bits row (plain_front_of bits row i) (plain_modrm bits row i) (plain_sib_of bits row i) (length (plain_disp bits ip row i)) (length (plain_imm bits ip row i)) ≡ true
unfolding lengths_fit
lengths bits ip row i g f =
    let d = displacement_length (plain_next bits ip row i) (address_operand row i) in
    let n = immediates-length bits row i (plain_next bits ip row i) g.suits.kinds in
    rw (d, n, f.says.size)
    (and_from (address_fits (state_address_size bits (plain_front_of bits row i)) row (plain_modrm bits row i) (plain_sib_of bits row i) (operand_displacement (address_operand row i))) _
    (tail_fits bits ip row i g).fits (eq-eqb (immediates_bytes (plain_size bits row) row) (immediates_bytes (plain_size bits row) row) refl))

ranges : (bits : Bits) (ip : ℕ) (row : Row) (i : Instr) → Given bits ip row i → PlainFrontFits bits row i → fields_in_range (plain_spelling bits ip row i) ≡ true
unfolding fields_in_range plain_spelling
ranges bits ip row i g f =
    let v = vex_in_range (plain_front_of bits row i).vex in
    let m = modrm_in_range (plain_modrm bits row i) in
    let s = sib_in_range (plain_sib_of bits row i) in
    let d = are_bytes (plain_disp bits ip row i) in
    let n = are_bytes (plain_imm bits ip row i) in
    and_from (are_bytes (prefixes_of (plain_front_of bits row i))) _ f.bytes
    (and_from v _ f.vex_range
    (and_from (nat_lt (plain_front_of bits row i).opcode 256) _ (lt-ltb (plain_front_of bits row i).opcode 256 f.opcode_byte)
    (and_from m _ (modrm_fits bits row i g.is_sound)
    (and_from s _ (tail_fits bits ip row i g).sib_range
    (and_from d n (displacement_are_bytes (plain_next bits ip row i) (address_operand row i)) (immediates-bytes bits ip row i (plain_next bits ip row i) g))))))

opcode_suits : (bits : Bits) (ip : ℕ) (row : Row) (i : Instr) → Given bits ip row i → PlainFrontFits bits row i → opcode_and_modrm_fit row (plain_front_of bits row i).opcode (plain_modrm bits row i) ≡ true
unfolding opcode_and_modrm_fit
opcode_suits bits ip row i g f =
    and_from (opcode_fits row (plain_front_of bits row i).opcode) _ f.opcode
    (and_from (modrm_rule_fits row.plus row.modrm (plain_modrm bits row i)) _ (rule_fits bits row i g.is_sound) (places_fit bits ip row i g))

-- **the plain spelling fits**
pub plain_fits : (bits : Bits) (ip : ℕ) (row : Row) (i : Instr) → Given bits ip row i → fits bits row (plain_spelling bits ip row i) ≡ true
plain_fits bits ip row i g =
    let f = front bits ip row i g in
    parts_fit bits ip row i (record {
      state = own_state bits ip row i f;
      mode = g.suits.exists;
      class = f.class;
      sizes = f.sizes;
      vvvv = f.vvvv;
      prefixes = f.prefixes;
      vex = f.vex;
      opcode = opcode_suits bits ip row i g f;
      lengths = lengths bits ip row i g f;
      lock = locks_fit bits ip row i g;
      registers = registers_are_fit bits ip row i g;
      ranges = ranges bits ip row i g f;
    })

-- ---- it means the instruction

-- what stands behind the opcode byte
abbrev plain_tail : Bits → ℕ → Row → Instr → Tail
plain_tail bits ip row i = tail (plain_modrm bits row i) (plain_sib_of bits row i) (plain_disp bits ip row i) (plain_next bits ip row i)

read_by : (bits : Bits) (ip : ℕ) (row : Row) (i : Instr) (n : ℕ) (op : Operand) → Given bits ip row i → FrontBits bits row i → n < 4 → operand_at i n ≡ op → operand_by bits row (plain_front_of bits row i) (plain_tail bits ip row i) (kind_at row n) (method_of (kind_at row n)) (immediate_at (plain_size bits row) row i (plain_next bits ip row i) n) ≡ op
read_by bits ip row i n AbsentOperand g b below e = absent_back bits row i n (plain_front_of bits row i) (plain_tail bits ip row i) _ g.suits.kinds below e
read_by bits ip row i n (Reg r) g b below e = register_back bits ip row i n r (plain_tail bits ip row i) (plain_next bits ip row i) _ g below e refl refl
read_by bits ip row i n (MemOperand m) g b below e = memory_back bits ip row i n m (plain_tail bits ip row i) _ g below e refl refl refl refl
read_by bits ip row i n (Imm x) g b below e = value-read_back bits ip row i (plain_front_of bits row i) (plain_tail bits ip row i) n g b.size refl below (ap is_value e) ∙ e
read_by bits ip row i n (Near x) g b below e = value-read_back bits ip row i (plain_front_of bits row i) (plain_tail bits ip row i) n g b.size refl below (ap is_value e) ∙ e
read_by bits ip row i n (Far x y) g b below e = value-read_back bits ip row i (plain_front_of bits row i) (plain_tail bits ip row i) n g b.size refl below (ap is_value e) ∙ e

operands : (bits : Bits) (ip : ℕ) (row : Row) (i : Instr) → Given bits ip row i → FrontBits bits row i → (n : ℕ) → n < 4 → operand_read bits row (plain_front_of bits row i) (plain_tail bits ip row i) (plain_imm bits ip row i) n ≡ operand_at i n
unfolding operand_read
operands bits ip row i g b n below =
    rw (b.size, own-immediate bits ip row i (plain_next bits ip row i) n g below) (read_by bits ip row i n (operand_at i n) g b below refl)

size_there : (bits : Bits) (row : Row) (i : Instr) (a : Bits) → is_size_of bits row i a ≡ true → has_address_size bits a ≡ true
unfolding is_size_of
size_there bits row i a h = (and_parts (has_address_size bits a) _ h).0

-- an address size is kept where the instruction has one
kept_by : (bits : Bits) (row : Row) (i : Instr) (asize : Option Bits) → i.asize ≡ asize → FrontBits bits row i → (elim asize [ None ↦ false | Some a ↦ is_size_of bits row i a ]) ≡ true → Some (state_address_size bits (plain_front_of bits row i)) ≡ asize
kept_by bits row i None e b h = cc
kept_by bits row i (Some a) e b h = ap Some (b.address a e (size_there bits row i a h))

absent_is : (asize : Option Bits) → is_none asize ≡ true → None ≡ asize
absent_is None h = refl
absent_is (Some a) h = cc

address_size_is : (bits : Bits) (row : Row) (i : Instr) → address_size_suits bits row i ≡ true → (if has_memory_operand i || has_address_mark row then (elim i.asize [ None ↦ false | Some a ↦ is_size_of bits row i a ]) else is_none i.asize) ≡ true
unfolding address_size_suits
address_size_is bits row i h = h

kept : (bits : Bits) (ip : ℕ) (row : Row) (i : Instr) → Given bits ip row i → FrontBits bits row i → kept_address_size bits row (plain_front_of bits row i) (plain_modrm bits row i) ≡ i.asize
unfolding kept_address_size
kept bits ip row i g b =
    let asks = has_memory_operand i || has_address_mark row in
    let h = address_size_is bits row i g.suits.address_size in
    rw (has_memory_is bits ip row i g)
    (elim (cases_Bool asks) [
      | inl there ↦ rw there (kept_by bits row i i.asize refl b (rw there at h))
      | inr other ↦ rw other (absent_is i.asize (rw other at h))
    ])

-- **the plain spelling means the instruction**
pub plain_means : (bits : Bits) (ip : ℕ) (row : Row) (i : Instr) → Given bits ip row i → meaning bits ip i.code row (plain_spelling bits ip row i) ≡ i
plain_means bits ip row i g =
    let f = front bits ip row i g in
    parts_mean bits ip row i (own_state bits ip row i f) (plain_long bits ip row i g.suits.kinds) g.four (record {
      operands = operands bits ip row i g f.says;
      lock = f.lock;
      rep = f.repeat;
      seg = f.seg;
      asize = kept bits ip row i g f.says;
    })
