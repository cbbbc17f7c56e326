-- The plain front in bytes: its opcode byte and its length, where a vvvv of at most 255 makes no difference, and the operand size under it.
use Rattle.std.proofs.Common.{◌≡◌, ℕ, ◌+◌, ◌<◌, ◌*◌, Bool, true, false, ◌&&◌, ◌||◌, not, Option, length, refl, ap, sym, ◌∙◌, inl, inr, arith, min, if◌then◌else◌}
use Rattle.std.proofs.lemmas.Bool.{and_parts, cases_Bool}
use Rattle.std.specs.Prelude.{Some, None, is_some, cond}
use borrow.Author.Tests.{ltb-true}
use Rattle.x86_values.specs.declared.Bits.{Bits}
use Rattle.x86_values.specs.declared.Instr.{Instr}
use Rattle.instruction_parts.specs.declared.row_types.Row.{Row}
use Rattle.instruction_parts.specs.declared.row_types.Map.{Map}
use Rattle.instruction_parts.specs.declared.row_types.Plus.TheVariants.{Register as PlusRegister}
use Rattle.instruction_parts.specs.declared.kinds.File.{File}
use Rattle.instruction_parts.specs.declared.kinds.File.TheVariants.{ByW as ByWFile}
use Rattle.instruction_parts.specs.declared.spelling.Vex.{Vex}
use Rattle.instruction_parts.specs.Bytes.{bit, vex_bytes, lead_bytes}
use Rattle.instruction_parts.specs.Counting.{rex_bit}
use Rattle.instruction_parts.specs.Sizes.{is_vex_row, operand_size, state_size, bit_w}
use Rattle.row_fit.specs.Sound.{sound, opcodes_are_bytes}
use Rattle.row_fit.proofs.SoundLaws.{sound_conditions}
use Rattle.row_meaning.specs.Meaning.{general_register, size_by_w, register_of}
use Rattle.plain_spelling.specs.PlainFront.{number_in_vvvv, number_asked_of, asks_r, asks_x, asks_b, asks_low_byte, asks_rex_w, asks_66, asks_67, asked_repeat, asked_rex, count_repeat, vex_with, asked_vex, asked_used, plain_front_of, byte_front}
use Rattle.plain_spelling.specs.PlainTail.{plain_size}

-- the eight opcode bytes of a row that adds a register are bytes
pub opcode_room : (row : Row) → sound row ≡ true → row.plus ≡ PlusRegister → row.opcode + 7 < 256
unfolding opcodes_are_bytes
opcode_room row h e = ltb-true _ 256 (and_parts _ _ (rw e at (sound_conditions row h).opcodes)).1

-- the length of a VEX
vex_len : (v : Vex) → length (vex_bytes v) ≡ cond v.three 3 2
unfolding vex_bytes
vex_len v = elim (cases_Bool v.three) [ inl e ↦ rw e refl | inr e ↦ rw e refl ]

lead_alike : (map : Map) (vex : Bool) (s t : Vex) → s.three ≡ t.three → length (lead_bytes map (cond vex (Some s) None)) ≡ length (lead_bytes map (cond vex (Some t) None))
unfolding lead_bytes
lead_alike map true s t e = vex_len s ∙ ap (λ b. cond b 3 2) e ∙ sym (vex_len t)
lead_alike map false s t e = refl

-- the length of the lead does not depend on vvvv
pub lead_len-with : (row : Row) (i : Instr) (v w : ℕ) → length (lead_bytes row.map (vex_with row i v)) ≡ length (lead_bytes row.map (vex_with row i w))
lead_len-with row i v w = lead_alike row.map (is_vex_row row) _ _ refl

-- nor does that of the front
pub used-with : (bits : Bits) (row : Row) (i : Instr) (v : ℕ)
    → bit i.lock + (count_repeat (asked_repeat row i) + (bit (is_some i.seg) + (bit (asks_66 bits row) + (bit (asks_67 bits i.asize)
    + (bit (is_some (asked_rex row i)) + length (lead_bytes row.map (vex_with row i v))))))) ≡ asked_used bits row i
unfolding asked_used asked_vex
used-with bits row i v =
    ap (λ n. bit i.lock + (count_repeat (asked_repeat row i) + (bit (is_some i.seg) + (bit (asks_66 bits row) + (bit (asks_67 bits i.asize)
    + (bit (is_some (asked_rex row i)) + n)))))) (lead_len-with row i v (number_asked_of number_in_vvvv row i))

-- where vvvv fits a byte, the front is the plain one
pub byte_front-exact : (bits : Bits) (row : Row) (i : Instr) → number_asked_of number_in_vvvv row i < 256 → byte_front bits row i ≡ plain_front_of bits row i
unfolding byte_front plain_front_of asked_vex
byte_front-exact bits row i h =
    let e : min 255 (number_asked_of number_in_vvvv row i) ≡ number_asked_of number_in_vvvv row i = omega arith in
    ap (λ v. record (plain_front_of bits row i) { vex = vex_with row i v }) e

-- W is read alike from both
w_with : (bits : Bits) (row : Row) (i : Instr) → bit_w bits (byte_front bits row i) ≡ bit_w bits (plain_front_of bits row i)
unfolding byte_front plain_front_of asked_vex bit_w
w_with bits row i = elim (cases_Bool (is_vex_row row)) [ inl e ↦ rw e refl | inr e ↦ rw e refl ]

-- and so are the registers that the kinds name
pub byte_front-names : (bits : Bits) (row : Row) (i : Instr) (file : File) (n : ℕ) → register_of bits row (byte_front bits row i) file n ≡ register_of bits row (plain_front_of bits row i) file n
unfolding byte_front plain_front_of register_of state_size
byte_front-names bits row i ByWFile n = ap (λ w. general_register (size_by_w w) n) (w_with bits row i)
byte_front-names bits row i _ n = refl

-- ---- the operand size under the plain prefixes

-- the REX of a row that is a VEX row or not, by what asks for it
abbrev rex_of : Bool → Bool → Bool → Bool → Bool → Bool → Option ℕ
rex_of v w r x b l =
    if not v && (w || (r || (x || (b || l)))) then Some (0x40 + (bit w * 8 + (bit r * 4 + (bit x * 2 + bit b)))) else None

rex_of_w : (v w r x b l : Bool) → rex_bit 3 (rex_of v w r x b l) ≡ (if v then false else w)
rex_of_w true w r x b l = refl
rex_of_w false true true true true l = refl
rex_of_w false true true true false l = refl
rex_of_w false true true false true l = refl
rex_of_w false true true false false l = refl
rex_of_w false true false true true l = refl
rex_of_w false true false true false l = refl
rex_of_w false true false false true l = refl
rex_of_w false true false false false l = refl
rex_of_w false false true true true l = refl
rex_of_w false false true true false l = refl
rex_of_w false false true false true l = refl
rex_of_w false false true false false l = refl
rex_of_w false false false true true l = refl
rex_of_w false false false true false l = refl
rex_of_w false false false false true l = refl
rex_of_w false false false false false true = refl
rex_of_w false false false false false false = refl

-- W of the plain REX is set if the row asks for it, and never on a VEX row
pub plain_rex_w : (row : Row) (i : Instr) → rex_bit 3 (asked_rex row i) ≡ (if is_vex_row row then false else asks_rex_w row)
unfolding asked_rex
plain_rex_w row i = rex_of_w (is_vex_row row) (asks_rex_w row) (asks_r row i) (asks_x row i) (asks_b row i) (asks_low_byte i.ops)

-- the operand size of the plain front is that of the plain spelling
pub plain_state_size : (bits : Bits) (row : Row) (i : Instr) → state_size bits row (plain_front_of bits row i) ≡ plain_size bits row
unfolding state_size plain_front_of plain_size
plain_state_size bits row i = ap (λ (w : Bool). operand_size bits row w (asks_66 bits row)) (plain_rex_w row i)

-- the front in bytes has the plain size too
pub byte_state_size : (bits : Bits) (row : Row) (i : Instr) → state_size bits row (byte_front bits row i) ≡ plain_size bits row
unfolding byte_front state_size plain_front_of
byte_state_size bits row i = plain_state_size bits row i
