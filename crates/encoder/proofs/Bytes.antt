-- The parts of a plain spelling as they are written, and what they make.
use Rattle.std.proofs.Common.{◌≡◌, ℕ, ◌+◌, ◌<◌, ◌≤◌, true, List, ◌∷◌, ◌++◌, length, refl, sym, ◌∙◌, ap, subst, arith, None}
use Rattle.x86_values.specs.declared.Bits.{Bits}
use Rattle.x86_values.specs.declared.Instr.{Instr}
use Rattle.instruction_parts.specs.declared.row_types.Row.{Row}
use Rattle.instruction_parts.specs.declared.spelling.PrefixState.{PrefixState}
use Rattle.instruction_parts.specs.Sizes.{exists_in}
use Rattle.instruction_parts.specs.Bytes.{front_bytes, tail_bytes, modrm_bytes, sib_bytes, bytes_of}
use Rattle.row_fit.specs.Fits.{vex_in_range, modrm_in_range, sib_in_range, immediates_bytes}
use Rattle.row_fit.specs.Sound.{sound}
use Rattle.row_fit.proofs.SoundLaws.{sound_conditions}
use Rattle.plain_spelling.specs.PlainFront.{operand_number, byte_front, plain_front_of}
use Rattle.plain_spelling.specs.Forms.{operand_at}
use Rattle.plain_spelling.specs.PlainTail.{address_operand, operand_displacement, plain_size, plain_modrm, plain_sib_of, plain_len, plain_next, plain_spelling, plain_tail}
use Rattle.plain_spelling.specs.Expressible.{first_failed_condition}
use Rattle.plain_spelling.specs.declared.parts.PlainParts.{PlainParts}
use Rattle.plain_spelling.specs.Parts.{ArePartsOf}
use Rattle.plain_spelling.specs.Writable.{writable}
use Rattle.plain_spelling.proofs.Failures.{tail-suits}
use Rattle.plain_spelling.proofs.ImmediateRoom.{number-below}
use Rattle.row_relation.proofs.PartLengths.{modrm_count, sib_count}
use Rattle.plain_spelling.proofs.FrontRange.{byte_front-plain, plain_front-range}
use Rattle.row_relation.specs.Given.{Given}
use Rattle.row_relation.proofs.FitPlaces.{modrm_fits}
use Rattle.row_relation.proofs.FitAddressLengths.{tail_fits}
use Rattle.row_relation.proofs.FitLengths.{used_is, plain_long}
use Rattle.row_relation.proofs.PlainLaws.Exact.{writable_row}
use Rattle.row_relation.specs.PlainBytes.{plain_tail_bytes, tail_count}
use Rattle.prefixes.specs.Written.{front_written}

-- a row in a mode, and an instruction of it whose tail is written
pub record Suited (bits : Bits) (ip : ℕ) (row : Row) (i : Instr) : Type 0 where
  pub is_sound : sound row ≡ true
  pub is_writable : writable row ≡ true
  pub exists : exists_in bits row ≡ true
  pub four : length i.ops ≡ 4
  pub suits : first_failed_condition bits ip row i ≡ None

given : (bits : Bits) (ip : ℕ) (row : Row) (i : Instr) → Suited bits ip row i → Given bits ip row i
given bits ip row i s = record {
  is_sound = sound_conditions row s.is_sound;
  is_writable = writable_row bits row s.is_writable s.exists;
  suits = tail-suits bits ip row i s.exists s.suits;
  four = s.four;
}

-- the front whose bytes are written is the plain front
pub front-is : (bits : Bits) (ip : ℕ) (row : Row) (i : Instr) → Suited bits ip row i → byte_front bits row i ≡ plain_front_of bits row i
front-is bits ip row i s =
    let g = given bits ip row i s in byte_front-plain bits row i g.is_sound g.four g.suits.registers

-- its VEX has fields in range
pub vex-range : (bits : Bits) (ip : ℕ) (row : Row) (i : Instr) → Suited bits ip row i → vex_in_range (plain_front_of bits row i).vex ≡ true
vex-range bits ip row i s =
    let g = given bits ip row i s in plain_front-range bits row i g.is_sound g.four g.suits.registers

-- the bytes are as many as the plain length says
pub count : (bits : Bits) (ip : ℕ) (row : Row) (i : Instr) → Suited bits ip row i
    → length (bytes_of row (plain_spelling bits ip row i)) ≡ plain_len bits row i
count bits ip row i s = plain_long bits ip row i (given bits ip row i s).suits.kinds

-- ---- what is written of its parts

-- a row in a mode, and what its parts are at an address, as far as they are written
pub record Written (bits : Bits) (ip : ℕ) (row : Row) (i : Instr) (parts : PlainParts) : Type 0 where
  pub suited : Suited bits ip row i
  pub parts_are : ArePartsOf bits row i parts
  pub at : parts.ip ≡ ip
  pub short : parts.len ≤ 15

-- the state of the written parts is the plain front
pub state-is : (bits : Bits) (ip : ℕ) (row : Row) (i : Instr) (parts : PlainParts) → Written bits ip row i parts → parts.state ≡ plain_front_of bits row i
state-is bits ip row i parts w = w.parts_are.state ∙ front-is bits ip row i w.suited

-- the written VEX has fields in range
pub written-vex : (bits : Bits) (ip : ℕ) (row : Row) (i : Instr) (parts : PlainParts) → Written bits ip row i parts → vex_in_range parts.state.vex ≡ true
written-vex bits ip row i parts w = subst (λ (f : PrefixState). vex_in_range f.vex ≡ true) (sym (state-is bits ip row i parts w)) (vex-range bits ip row i w.suited)

-- so has the written ModRM
pub written-modrm : (bits : Bits) (ip : ℕ) (row : Row) (i : Instr) (parts : PlainParts) → Written bits ip row i parts → modrm_in_range parts.addressing.modrm ≡ true
written-modrm bits ip row i parts w = rw w.parts_are.modrm (modrm_fits bits row i (given bits ip row i w.suited).is_sound)

-- and the written SIB
pub written-sib : (bits : Bits) (ip : ℕ) (row : Row) (i : Instr) (parts : PlainParts) → Written bits ip row i parts → sib_in_range parts.addressing.sib ≡ true
written-sib bits ip row i parts w = rw w.parts_are.sib (tail_fits bits ip row i (given bits ip row i w.suited)).sib_range

-- each operand's number is below 16
pub written-numbers : (bits : Bits) (ip : ℕ) (row : Row) (i : Instr) (parts : PlainParts) → Written bits ip row i parts → (n : ℕ) → n < 4 → operand_number (operand_at i n) < 16
written-numbers bits ip row i parts w = number-below bits row i (given bits ip row i w.suited).suits.registers

-- the front has as many bytes as its state says
front-count : (bits : Bits) (row : Row) (i : Instr) → length (front_written row (plain_front_of bits row i)) ≡ (plain_front_of bits row i).used
unfolding front_written
front-count bits row i = sym (used_is bits row i)

-- the length, with the immediates as a whole
len-is : (bits : Bits) (row : Row) (i : Instr) → plain_len bits row i ≡ (plain_front_of bits row i).used
    + (1 + (length (modrm_bytes (plain_modrm bits row i)) + (length (sib_bytes (plain_sib_of bits row i))
    + (operand_displacement (address_operand row i) + immediates_bytes (plain_size bits row) row))))
unfolding plain_len immediates_bytes
len-is bits row i =
    omega (arith, modrm_count (plain_modrm bits row i), sib_count (plain_sib_of bits row i))

-- the front leaves room for the rest within 15 bytes
pub written-room : (bits : Bits) (ip : ℕ) (row : Row) (i : Instr) (parts : PlainParts) (front : List ℕ) → Written bits ip row i parts → front ≡ front_written row parts.state
    → length front + tail_count row i parts ≤ 15
written-room bits ip row i parts front w e =
    let short : plain_len bits row i ≤ 15 = rw (← w.parts_are.len) w.short in
    let f : length front ≡ (plain_front_of bits row i).used = ap length (e ∙ ap (front_written row) (state-is bits ip row i parts w)) ∙ front-count bits row i in
    let n = len-is bits row i in
    rw (f, w.parts_are.modrm, w.parts_are.sib, w.parts_are.size) (omega (arith, short, n))

tail-is : (bits : Bits) (ip : ℕ) (row : Row) (i : Instr) (parts : PlainParts) → Written bits ip row i parts
    → plain_tail_bytes row i parts ≡ ((plain_tail bits ip row i).opcode ∷ tail_bytes (plain_tail bits ip row i))
unfolding plain_tail plain_spelling tail_bytes
tail-is bits ip row i parts w =
    let next : parts.next ≡ plain_next bits ip row i = w.parts_are.next ∙ ap (λ (x : ℕ). plain_next bits x row i) w.at in
    rw (state-is bits ip row i parts w, w.parts_are.modrm, w.parts_are.sib, w.parts_are.size, next) refl

-- the bytes before the opcode byte and behind it
bytes-parted : (bits : Bits) (ip : ℕ) (row : Row) (i : Instr)
    → bytes_of row (plain_spelling bits ip row i) ≡ front_written row (plain_front_of bits row i) ++ ((plain_tail bits ip row i).opcode ∷ tail_bytes (plain_tail bits ip row i))
unfolding bytes_of front_bytes tail_bytes front_written plain_spelling plain_tail
bytes-parted bits ip row i = refl

-- the front and what follows it are the bytes of the plain spelling
pub written-bytes : (bits : Bits) (ip : ℕ) (row : Row) (i : Instr) (parts : PlainParts) (front : List ℕ) → Written bits ip row i parts → front ≡ front_written row parts.state
    → front ++ plain_tail_bytes row i parts ≡ bytes_of row (plain_spelling bits ip row i)
written-bytes bits ip row i parts front w e =
    ap (λ (xs : List ℕ). front ++ xs) (tail-is bits ip row i parts w)
    ∙ ap (λ (xs : List ℕ). xs ++ ((plain_tail bits ip row i).opcode ∷ tail_bytes (plain_tail bits ip row i))) (e ∙ ap (front_written row) (state-is bits ip row i parts w))
    ∙ sym (bytes-parted bits ip row i)

-- what a call knows that found no failure
pub parts_written : (bits : Bits) (ip : ℕ) (row : Row) (i : Instr) (parts : PlainParts) → sound row ≡ true → writable row ≡ true → exists_in bits row ≡ true → length i.ops ≡ 4 → parts.ip ≡ ip → ArePartsOf bits row i parts → first_failed_condition bits parts.ip row i ≡ None → parts.len ≤ 15 → Written bits ip row i parts
parts_written bits ip row i parts is_sound is_writable exists four same parts_are h short = record {
  suited = record {
    is_sound = is_sound;
    is_writable = is_writable;
    exists = exists;
    four = four;
    suits = subst (λ (x : ℕ). first_failed_condition bits x row i ≡ None) same h;
  };
  parts_are = parts_are;
  at = same;
  short = short;
}
