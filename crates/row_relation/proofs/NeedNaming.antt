-- What a register operand of a fitting spelling is: its number is one of the mode, and the plain front names it again.
use Rattle.std.proofs.Common.{◌≡◌, inl, inr, ℕ, ◌-◌, ◌/◌, ◌%◌, ◌<◌, ◌≤◌, Bool, true, false, ◌&&◌, ◌||◌, not, nat_le, nat_lt, List, [], ◌∷◌, length, Option, Some, None, is_some, refl, ap, sym, ◌∙◌, subst, arith, if◌then◌else◌, slice_index}
use Rattle.instruction_parts.proofs.Tests.{or_right}
use Rattle.std.proofs.Math.Bool.{or-true}
use Rattle.std.proofs.lemmas.Bool.{ltb-false, leb-false, and_from, lt-ltb, le-leb, or_parts, and_parts, cases_Bool, not-true}
use borrow.Author.Tests.{ltb-true}
use Rattle.x86_values.specs.declared.Bits.{Bits}
use Rattle.x86_values.specs.declared.Bits.TheVariants.{B16, B32, B64}
use Rattle.x86_values.specs.declared.Instr.{Instr}
use Rattle.x86_values.specs.declared.Register.{Register}
use Rattle.x86_values.specs.declared.Register.TheVariants.{Low8, High8}
use Rattle.x86_values.specs.declared.Operand.{Operand}
use Rattle.x86_values.specs.declared.Operand.TheVariants.{Reg}
use Rattle.instruction_parts.specs.declared.row_types.Row.{Row}
use Rattle.instruction_parts.specs.declared.row_types.LBit.{LBit}
use Rattle.instruction_parts.specs.declared.row_types.LBit.TheVariants.{None as NoL, L128, L256, Lig, Lz}
use Rattle.instruction_parts.specs.declared.row_types.OpKind.{OpKind}
use Rattle.instruction_parts.specs.declared.row_types.OpKind.TheVariants.{Cl, Dx, Cs, Ss, Ds, Fs, Gs}
use Rattle.instruction_parts.specs.declared.kinds.Method.{Method}
use Rattle.instruction_parts.specs.declared.kinds.Method.TheVariants as method
use Rattle.instruction_parts.specs.declared.kinds.File.{File}
use Rattle.instruction_parts.specs.declared.kinds.File.TheVariants as file
use Rattle.instruction_parts.specs.declared.spelling.Vex.{Vex}
use Rattle.instruction_parts.specs.declared.spelling.PrefixState.{PrefixState}
use Rattle.instruction_parts.specs.Kinds.{method_of, file_of, fixed_number}
use Rattle.instruction_parts.specs.Counting.{is_64}
use Rattle.instruction_parts.specs.Sizes.{is_vex_row, state_size, bit_r, bit_b, bit_w}
use Rattle.row_fit.specs.Fits.{with_high_bit, kind_at, vvvv_number, is_vex_of_mode, vex_in_range, are_bytes}
use Rattle.row_meaning.specs.Meaning.{general_register, byte_register, vector, word_or_dword, size_by_w, native_size, register_of, last_byte_number}
use Rattle.plain_spelling.specs.Forms.{operand_at}
use Rattle.x86_values.specs.Comparing.{same_register}
use Rattle.plain_spelling.specs.PlainFront.{register_number, number_in_reg, number_in_rm, number_asked_of, asks_r, asks_x, asks_b, asks_rex_w, asks_low_byte, is_low_byte_of_rex, asked_rex, plain_front_of}
use Rattle.plain_spelling.specs.Addresses.{register_count}
use Rattle.plain_spelling.specs.Expressible.{exists_in_mode, naming_number, is_of_kind, is_not_nop, kind_allows, is_nameable}
use Rattle.plain_spelling.specs.Writable.{Writable}
use Rattle.x86_values.proofs.Compared.{same_register-refl}
use Rattle.row_relation.proofs.WrittenSizes.{file-at-told}
use Rattle.row_relation.proofs.NeedWalking.{asked_part, low_byte_part}
use Rattle.row_relation.proofs.NeedNumbers.{number-le, number-byte}
use Rattle.row_relation.proofs.NeedAsks.{AskedBits, differ}
use Rattle.row_relation.proofs.NeedStates.{StateIs}
use Rattle.row_relation.proofs.NeedFront.{needs_rex}
use Rattle.row_relation.proofs.NeedAgreeing.{same_file, number_back}

-- ---- numbers of the mode

-- a number of three bits with an extending bit is one that the mode has
pub extended_count : (bits : Bits) (b : Bool) (n : ℕ) → n < 8 → (is_64 bits ≡ false → b ≡ false) → with_high_bit b n < register_count bits
unfolding register_count
extended_count B64 true n h k = omega arith
extended_count B64 false n h k = omega arith
extended_count B16 true n h k = absurd (differ true refl (k refl))
extended_count B16 false n h k = omega arith
extended_count B32 true n h k = absurd (differ true refl (k refl))
extended_count B32 false n h k = omega arith

bit_r_vex : (st : PrefixState) (v : Vex) → st.vex ≡ Some v → bit_r st ≡ v.r
unfolding bit_r
bit_r_vex st v e = rw e

bit_r_none : (st : PrefixState) → st.vex ≡ None → st.rex ≡ None → bit_r st ≡ false
unfolding bit_r
bit_r_none st e k = rw (e, k)

vex_mode_r : (bits : Bits) (v : Vex) → is_vex_of_mode bits v ≡ true → is_64 bits ≡ false → v.r ≡ false
unfolding is_vex_of_mode
vex_mode_r bits v h e = not-true v.r (and_parts (not v.r) _ (or_right (is_64 bits) _ e h)).0

-- outside 64-bit mode R is not set
pub bit_r_mode : (bits : Bits) (row : Row) (st : PrefixState) → StateIs bits row st → is_64 bits ≡ false → bit_r st ≡ false
bit_r_mode bits row st f m = elim (cases_Bool (is_vex_row row)) [
  | inl e ↦ (let x = f.vex e in bit_r_vex st x.v x.stands ∙ vex_mode_r bits x.v x.mode m)
  | inr e ↦ bit_r_none st (f.legacy e) (f.rex_mode m)
]

-- nor is B
pub bit_b_mode : (bits : Bits) (st : PrefixState) → is_64 bits ≡ false → bit_b bits st ≡ false
unfolding bit_b
bit_b_mode bits st m = rw m

vvvv_small : (v : Vex) → vex_in_range (Some v) ≡ true → v.vvvv < 16
unfolding vex_in_range
vvvv_small v h = ltb-true v.vvvv 16 (and_parts (nat_lt v.vvvv 16) _ h).0

vvvv_by : (bits : Bits) (n : ℕ) → n < 16 → (if is_64 bits then n else n % 8) < register_count bits
unfolding register_count
vvvv_by B64 n h = h
vvvv_by B16 n h = omega arith
vvvv_by B32 n h = omega arith

vvvv_vex : (bits : Bits) (st : PrefixState) (v : Vex) → st.vex ≡ Some v → vvvv_number bits st ≡ (if is_64 bits then v.vvvv else v.vvvv % 8)
unfolding vvvv_number
vvvv_vex bits st v e = rw e

vvvv_none : (bits : Bits) (st : PrefixState) → st.vex ≡ None → vvvv_number bits st ≡ 0
unfolding vvvv_number
vvvv_none bits st e = rw e

small_count : (bits : Bits) (n : ℕ) → n < 8 → n < register_count bits
unfolding register_count
small_count B64 n h = omega arith
small_count B32 n h = h
small_count B16 n h = h

-- the number in vvvv is one that the mode has
pub vvvv_count : (bits : Bits) (row : Row) (st : PrefixState) → StateIs bits row st → vvvv_number bits st < register_count bits
vvvv_count bits row st f = elim (cases_Bool (is_vex_row row)) [
  | inl e ↦ (let x = f.vex e in subst (λ (n : ℕ). n < register_count bits) (sym (vvvv_vex bits st x.v x.stands)) (vvvv_by bits x.v.vvvv (vvvv_small x.v x.range)))
  | inr e ↦ subst (λ (n : ℕ). n < register_count bits) (sym (vvvv_none bits st (f.legacy e))) (small_count bits 0 (omega arith))
]

first_small : (bytes : List ℕ) → are_bytes bytes ≡ true → slice_index bytes 0 < 256
first_small [] h = omega arith
first_small (b ∷ bytes) h = ltb-true b 256 (and_parts (nat_lt b 256) _ h).0

-- so is the number in the last byte
pub last_count : (bits : Bits) (bytes : List ℕ) → are_bytes bytes ≡ true → last_byte_number bits bytes < register_count bits
unfolding last_byte_number
last_count bits bytes h = let k = first_small bytes h in vvvv_by bits (slice_index bytes 0 / 16) (omega arith)

-- a fixed register has a number of at most 5
pub fixed_at_most : (kind : OpKind) → fixed_number kind ≤ 5
unfolding fixed_number
fixed_at_most Cl = omega arith
fixed_at_most Dx = omega arith
fixed_at_most Cs = omega arith
fixed_at_most Ss = omega arith
fixed_at_most Ds = omega arith
fixed_at_most Fs = omega arith
fixed_at_most Gs = omega arith
fixed_at_most _ = omega arith

-- which every mode has
pub fixed_count : (bits : Bits) (kind : OpKind) → fixed_number kind < register_count bits
fixed_count bits kind = small_count bits (fixed_number kind) (let h = fixed_at_most kind in omega arith)

-- ---- registers of the mode

byte_in_mode : (bits : Bits) (n : ℕ) (test : Bool) → nat_lt n 4 ≡ test → exists_in_mode bits (if test then Low8 n else High8 (n - 4)) ≡ true
unfolding exists_in_mode
byte_in_mode bits n true e = rw e
byte_in_mode bits n false e = refl

exists_byte : (bits : Bits) (rex : Option ℕ) (n : ℕ) → (is_64 bits ≡ false → rex ≡ None) → exists_in_mode bits (byte_register rex n) ≡ true
unfolding exists_in_mode byte_register
exists_byte B64 (Some rex) n h = or-true (nat_lt n 4)
exists_byte B16 (Some rex) n h = let e = h refl in cc
exists_byte B32 (Some rex) n h = let e = h refl in cc
exists_byte bits None n h = byte_in_mode bits n (nat_lt n 4) refl

exists_general : (bits size : Bits) (n : ℕ) → exists_in_mode bits (general_register size n) ≡ true
unfolding exists_in_mode general_register
exists_general bits B16 n = refl
exists_general bits B32 n = refl
exists_general bits B64 n = refl

exists_vector : (bits : Bits) (l : LBit) (n : ℕ) → exists_in_mode bits (vector l n) ≡ true
unfolding exists_in_mode vector
exists_vector bits NoL n = refl
exists_vector bits L128 n = refl
exists_vector bits L256 n = refl
exists_vector bits Lig n = refl
exists_vector bits Lz n = refl

register_exists : (bits : Bits) (row : Row) (st : PrefixState) (f : File) (n : ℕ) → (is_64 bits ≡ false → st.rex ≡ None) → exists_in_mode bits (register_of bits row st f n) ≡ true
unfolding exists_in_mode register_of
register_exists bits row st file.Byte n h = exists_byte bits st.rex n h
register_exists bits row st file.OperandSize n h = exists_general bits (state_size bits row st) n
register_exists bits row st file.WordOrDword n h = exists_general bits (word_or_dword (state_size bits row st)) n
register_exists bits row st file.ByW n h = exists_general bits (size_by_w (bit_w bits st)) n
register_exists bits row st file.Native n h = exists_general bits (native_size bits) n
register_exists bits row st file.Vector n h = exists_vector bits row.l n
register_exists bits row st _ n h = refl

-- ---- byte registers

byte_by : (a b : Option ℕ) (n : ℕ) → (is_some a ≡ true → is_some b ≡ true) → (a ≡ None → is_some b ≡ true → n < 4) → byte_register a n ≡ byte_register b n
unfolding byte_register
byte_by (Some a) (Some b) n h k = refl
byte_by (Some a) None n h k = let e = h refl in cc
byte_by None None n h k = refl
byte_by None (Some b) n h k = let e = lt-ltb n 4 (k refl refl) in rw e

if_none : {T : Type 0} → (test : Bool) (x : T) → (if test then Some x else None) ≡ None → test ≡ false
if_none true x h = cc
if_none false x h = refl

-- what asks for no REX
record NoRexAsked (row : Row) (i : Instr) : Type 0 where
  r : asks_r row i ≡ false
  b : asks_b row i ≡ false
  low : asks_low_byte i.ops ≡ false

no_rex_asked : (row : Row) (i : Instr) → is_vex_row row ≡ false → asked_rex row i ≡ None → NoRexAsked row i
unfolding asked_rex
no_rex_asked row i l h =
    let test = if_none _ _ h in
    let any : (asks_rex_w row || (asks_r row i || (asks_x row i || (asks_b row i || asks_low_byte i.ops)))) ≡ false = rw l at test in
    let h1 = or_parts (asks_rex_w row) _ any in
    let h2 = or_parts (asks_r row i) _ h1.1 in
    let h3 = or_parts (asks_x row i) _ h2.1 in
    let h4 = or_parts (asks_b row i) _ h3.1 in
    record { r = h2.0; b = h4.0; low = h4.1 }

asked_reg_small : (row : Row) (i : Instr) → asks_r row i ≡ false → number_asked_of number_in_reg row i < 8
unfolding asks_r
asked_reg_small row i h = leb-false 8 _ h

asked_rm_small : (row : Row) (i : Instr) → asks_b row i ≡ false → number_asked_of number_in_rm row i < 8
unfolding asks_b
asked_rm_small row i h = leb-false 8 _ h

low_in_range : (n : ℕ) → 4 ≤ n → n < 8 → is_low_byte_of_rex (Reg (Low8 n)) ≡ true
unfolding is_low_byte_of_rex
low_in_range n h k = rw (le-leb 4 n h) (lt-ltb n 8 k)

-- a low byte register below 8 that is not SPL to DIL is below 4
not_low : (n : ℕ) → is_low_byte_of_rex (Reg (Low8 n)) ≡ false → n < 8 → n < 4
not_low n h k = elim (cases_Bool (nat_lt n 4)) [
  | inl e ↦ ltb-true n 4 e
  | inr e ↦ (let low : 4 ≤ n = ltb-false n 4 e in absurd (differ _ (low_in_range n low k) h))
]

-- ---- an operand

-- operand n of an instruction that was read
pub record Context (bits : Bits) (row : Row) (st : PrefixState) (i : Instr) (n : ℕ) : Type 0 where
  pub state : StateIs bits row st
  pub asked_of : AskedBits bits row st i
  pub is_writable : Writable bits row
  pub kinds : length row.ops ≡ 4
  pub operands : length i.ops ≡ 4
  pub within : n < 4

-- the register that operand n is, by the number that the fields give it
pub record Register_is (bits : Bits) (row : Row) (st : PrefixState) (i : Instr) (n number : ℕ) : Type 0 where
  pub operand : operand_at i n ≡ Reg (register_of bits row st (file_of (kind_at row n)) number)
  pub counted : number < register_count bits
  pub byte : file_of (kind_at row n) ≡ file.Byte → is_vex_row row ≡ false → asked_rex row i ≡ None → number < 8
  pub fixed : method_of (kind_at row n) ≡ method.Fixed → fixed_number (kind_at row n) ≡ number

part_of : (f : Method → Operand → ℕ) (how how1 : Method) (op op1 : Operand) (n : ℕ) → how ≡ how1 → op ≡ op1 → f how op ≤ n → f how1 op1 ≤ n
part_of f how how1 op op1 n e k h = rw (← e, ← k) h

-- what an operand read from ModRM.reg asks of it
pub reg_part : (bits : Bits) (row : Row) (st : PrefixState) (i : Instr) (n : ℕ) (how : Method) (r : Register) → Context bits row st i n → method_of (kind_at row n) ≡ how → operand_at i n ≡ Reg r → number_in_reg how (Reg r) ≤ number_asked_of number_in_reg row i
reg_part bits row st i n how r c e k =
    part_of number_in_reg _ how _ (Reg r) _ e k (asked_part number_in_reg row.ops i.ops n (let a = c.kinds in let b = c.within in omega arith) (let a = c.operands in let b = c.within in omega arith))

-- and one in r/m or the opcode byte
pub rm_part : (bits : Bits) (row : Row) (st : PrefixState) (i : Instr) (n : ℕ) (how : Method) (r : Register) → Context bits row st i n → method_of (kind_at row n) ≡ how → operand_at i n ≡ Reg r → number_in_rm how (Reg r) ≤ number_asked_of number_in_rm row i
rm_part bits row st i n how r c e k =
    part_of number_in_rm _ how _ (Reg r) _ e k (asked_part number_in_rm row.ops i.ops n (let a = c.kinds in let b = c.within in omega arith) (let a = c.operands in let b = c.within in omega arith))

byte_number : (bits : Bits) (row : Row) (st : PrefixState) (f : File) (n : ℕ) → f ≡ file.Byte → register_number (register_of bits row st f n) ≡ n
unfolding register_of
byte_number bits row st file.Byte n e = number-byte st.rex n
byte_number bits row st _ n e = cc

-- where nothing asks for a REX, a byte register from ModRM.reg has a number below 8
pub reg_byte : (bits : Bits) (row : Row) (st : PrefixState) (i : Instr) (n number : ℕ) → Context bits row st i n → method_of (kind_at row n) ≡ method.ModRmReg → operand_at i n ≡ Reg (register_of bits row st (file_of (kind_at row n)) number) → file_of (kind_at row n) ≡ file.Byte → is_vex_row row ≡ false → asked_rex row i ≡ None → number < 8
unfolding number_in_reg
reg_byte bits row st i n number c how k f l none =
    let part : register_number (register_of bits row st (file_of (kind_at row n)) number) ≤ number_asked_of number_in_reg row i = reg_part bits row st i n method.ModRmReg _ c how k in
    let same = byte_number bits row st (file_of (kind_at row n)) number f in
    let small = asked_reg_small row i (no_rex_asked row i l none).r in
    omega arith

-- the methods that ask B of a register
abbrev pub asks_b_of_register : Method → Bool
asks_b_of_register method.RegisterOrMemory = true
asks_b_of_register method.RegisterOnly = true
asks_b_of_register method.AnyMode = true
asks_b_of_register method.OpcodeLow = true
asks_b_of_register _ = false

number_of_rm : (how : Method) (r : Register) → asks_b_of_register how ≡ true → number_in_rm how (Reg r) ≡ register_number r
unfolding number_in_rm
number_of_rm method.RegisterOrMemory r h = refl
number_of_rm method.RegisterOnly r h = refl
number_of_rm method.AnyMode r h = refl
number_of_rm method.OpcodeLow r h = refl
number_of_rm _ r h = cc

-- a byte register in r/m has the number of r/m and B
pub rm_byte : (bits : Bits) (row : Row) (st : PrefixState) (i : Instr) (n number : ℕ) (how : Method) → Context bits row st i n → asks_b_of_register how ≡ true → method_of (kind_at row n) ≡ how → operand_at i n ≡ Reg (register_of bits row st (file_of (kind_at row n)) number) → file_of (kind_at row n) ≡ file.Byte → is_vex_row row ≡ false → asked_rex row i ≡ None → number < 8
rm_byte bits row st i n number how c b e k f l none =
    let part = rm_part bits row st i n how _ c e k in
    let shown = number_of_rm how (register_of bits row st (file_of (kind_at row n)) number) b in
    let same = byte_number bits row st (file_of (kind_at row n)) number f in
    let small = asked_rm_small row i (no_rex_asked row i l none).b in
    omega arith

byte_with_rex : (rex : Option ℕ) (n : ℕ) → is_some rex ≡ true → byte_register rex n ≡ Low8 n
unfolding byte_register
byte_with_rex (Some b) n h = refl
byte_with_rex None n h = cc

low_byte_is : (bits : Bits) (row : Row) (st : PrefixState) (f : File) (n : ℕ) → f ≡ file.Byte → is_some st.rex ≡ true → register_of bits row st f n ≡ Low8 n
unfolding register_of
low_byte_is bits row st file.Byte n e h = byte_with_rex st.rex n h
low_byte_is bits row st _ n e h = cc

-- a front with a REX is that of a legacy row
pub legacy_of : (bits : Bits) (row : Row) (st : PrefixState) → StateIs bits row st → is_some st.rex ≡ true → is_vex_row row ≡ false
legacy_of bits row st f h = elim (cases_Bool (is_vex_row row)) [
  | inr e ↦ e
  | inl e ↦ absurd (differ (is_some st.rex) h (ap (λ (x : Option ℕ). is_some x) (f.vex_rex e)))
]

low_of : (i : Instr) (n number : ℕ) → length i.ops ≡ 4 → n < 4 → operand_at i n ≡ Reg (Low8 number) → asks_low_byte i.ops ≡ false → is_low_byte_of_rex (Reg (Low8 number)) ≡ false
low_of i n number four h e none = elim (cases_Bool (is_low_byte_of_rex (Reg (Low8 number)))) [
  | inr k ↦ k
  | inl k ↦ absurd (differ (asks_low_byte i.ops) (low_byte_part i.ops n (omega arith) (ap is_low_byte_of_rex e ∙ k)) none)
]

-- a byte register is the same under the plain front
byte_agrees : (bits : Bits) (row : Row) (st : PrefixState) (i : Instr) (n number : ℕ) → Context bits row st i n → Register_is bits row st i n number → file_of (kind_at row n) ≡ file.Byte → byte_register (asked_rex row i) number ≡ byte_register st.rex number
byte_agrees bits row st i n number c r f =
    byte_by (asked_rex row i) st.rex number (needs_rex bits row st i c.state c.asked_of) (λ none some.
    (let l = legacy_of bits row st c.state some in
    let shown = r.operand ∙ ap Reg (low_byte_is bits row st (file_of (kind_at row n)) number f some) in
    let low = low_of i n number c.operands c.within shown (no_rex_asked row i l none).low in
    not_low number low (r.byte f l none)))

naming_by : (bits : Bits) (row : Row) (st p : PrefixState) (kind : OpKind) (how : Method) (n : ℕ) → (how ≡ method.Fixed → fixed_number kind ≡ n) → register_of bits row p (file_of kind) (naming_number how kind (register_of bits row st (file_of kind) n)) ≡ register_of bits row p (file_of kind) n
naming_by bits row st p kind method.Fixed n h = ap (register_of bits row p (file_of kind)) (h refl)
naming_by bits row st p kind _ n h = number_back bits row st p (file_of kind) n

-- the plain front names the register again
pub names_again : (bits : Bits) (row : Row) (st : PrefixState) (i : Instr) (n number : ℕ) → Context bits row st i n → Register_is bits row st i n number → is_of_kind bits row i (kind_at row n) (register_of bits row st (file_of (kind_at row n)) number) ≡ true
unfolding is_of_kind
names_again bits row st i n number c r =
    let kind = kind_at row n in
    let named = register_of bits row st (file_of kind) number in
    let again = naming_by bits row st (plain_front_of bits row i) kind (method_of kind) number r.fixed
    ∙ same_file bits row st i (file_of kind) number c.state c.is_writable (file-at-told row c.is_writable.told n) (byte_agrees bits row st i n number c r) in
    subst (λ (x : Register). same_register named x ≡ true) (sym again) (same_register-refl named)

-- **the register is nameable, as far as its place and its kind allow it**
pub nameable : (bits : Bits) (row : Row) (st : PrefixState) (i : Instr) (n number : ℕ) → Context bits row st i n → Register_is bits row st i n number → (let r = register_of bits row st (file_of (kind_at row n)) number in is_not_nop row (method_of (kind_at row n)) r ≡ true → kind_allows bits n (kind_at row n) r ≡ true → is_nameable bits row i n r ≡ true)
unfolding is_nameable
nameable bits row st i n number c r nop allows =
    let named = register_of bits row st (file_of (kind_at row n)) number in
    let le = number-le bits row st (file_of (kind_at row n)) number in
    let count = r.counted in
    and_from (exists_in_mode bits named) _ (register_exists bits row st (file_of (kind_at row n)) number c.state.rex_mode)
    (and_from (nat_lt (register_number named) (register_count bits)) _ (lt-ltb _ _ (omega arith))
    (and_from (is_of_kind bits row i (kind_at row n) named) _ (names_again bits row st i n number c r)
    (and_from (is_not_nop row (method_of (kind_at row n)) named) _ nop allows)))
