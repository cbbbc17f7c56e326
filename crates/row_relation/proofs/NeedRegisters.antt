-- Each register operand that a fitting spelling means is one that its kind can name in the mode.
use Rattle.std.proofs.Common.{◌≡◌, inl, inr, ℕ, zero, suc, ◌+◌, ◌%◌, ◌<◌, ◌≤◌, Bool, true, false, ◌&&◌, not, ◌==◌, nat_le, nat_lt, List, Option, Some, None, refl, ap, sym, ◌∙◌, subst, arith}
use Rattle.std.proofs.lemmas.Bool.{leb-true, lt-ltb, and_parts, cases_Bool, eqb-true, not-true}
use borrow.Author.Tests.{ltb-true}
use Rattle.x86_values.specs.declared.Bits.{Bits}
use Rattle.x86_values.specs.declared.Instr.{Instr}
use Rattle.x86_values.specs.declared.Register.{Register}
use Rattle.x86_values.specs.declared.Operand.{Operand}
use Rattle.x86_values.specs.declared.Operand.TheVariants.{Reg}
use Rattle.x86_values.specs.Registers.{segment_number}
use Rattle.instruction_parts.specs.declared.row_types.Row.{Row}
use Rattle.instruction_parts.specs.declared.row_types.Plus.TheVariants.{Register as PlusRegister}
use Rattle.instruction_parts.specs.declared.row_types.OpKind.{OpKind}
use Rattle.instruction_parts.specs.declared.row_types.OpKind.TheVariants.{By, Lx, Zb, Zv, Sw, Cn, Dn}
use Rattle.instruction_parts.specs.declared.kinds.Method.{Method}
use Rattle.instruction_parts.specs.declared.kinds.Method.TheVariants as method
use Rattle.instruction_parts.specs.declared.kinds.File.{File}
use Rattle.instruction_parts.specs.declared.kinds.File.TheVariants as file
use Rattle.instruction_parts.specs.declared.spelling.ModRm.{ModRm}
use Rattle.instruction_parts.specs.declared.spelling.Sib.{Sib}
use Rattle.instruction_parts.specs.declared.spelling.PrefixState.{PrefixState}
use Rattle.instruction_parts.specs.Kinds.{method_of, file_of, fixed_number}
use Rattle.instruction_parts.specs.Sizes.{is_vex_row, state_size, bit_r, bit_b}
use Rattle.row_fit.specs.Fits.{kind_at, has_modrm, with_high_bit, reg_field, rm_field, reg_number, rm_number, vvvv_number, register_fits, destination_fits, is_control_number, is_nop_byte, nop_fits, opcode_fits, are_bytes, is_repeat_f3}
use Rattle.row_fit.specs.Sound.{has_four_operands, reads_opcode}
use Rattle.row_meaning.specs.Meaning.{register_of, segment_numbered, last_byte_number, with_modrm, memory_operand, gather_memory, near_target, far_pointer, Tail, operand_by}
use Rattle.plain_spelling.specs.Forms.{operand_at}
use Rattle.plain_spelling.specs.PlainFront.{register_number, asked_rex}
use Rattle.plain_spelling.specs.Addresses.{register_count}
use Rattle.plain_spelling.specs.Expressible.{is_not_nop, kind_allows, is_nameable}
use Rattle.row_relation.proofs.NeedWalking.{all_kinds}
use Rattle.row_relation.proofs.NeedNumbers.{InRange, reg_small, rm_small, number-general_register, number-byte}
use Rattle.row_relation.proofs.NeedAsks.{differ, Placed}
use Rattle.row_relation.proofs.NeedVariants.{TailIs, reads_at}
use Rattle.row_relation.proofs.NeedNaming.{Context, Register_is, nameable, extended_count, bit_r_mode, bit_b_mode, vvvv_count, last_count, fixed_count, fixed_at_most, asks_b_of_register, reg_byte, rm_byte}

-- ---- what a kind asks besides

segment_same : (n : ℕ) → n < 6 → segment_number (segment_numbered n) ≡ n
unfolding segment_numbered
segment_same zero h = refl
segment_same (suc zero) h = refl
segment_same (suc (suc zero)) h = refl
segment_same (suc (suc (suc zero))) h = refl
segment_same (suc (suc (suc (suc zero)))) h = refl
segment_same (suc (suc (suc (suc (suc zero))))) h = refl
segment_same (suc (suc (suc (suc (suc (suc n)))))) h = absurd (omega arith)

extended_low : (b : Bool) (n : ℕ) → n < 8 → with_high_bit b n % 8 ≡ n
extended_low true n h = omega arith
extended_low false n h = omega arith

reg_low : (st : PrefixState) (m : Option ModRm) → reg_field m < 8 → reg_number st m % 8 ≡ reg_field m
unfolding reg_number
reg_low st m h = extended_low (bit_r st) (reg_field m) h

reg_without : (st : PrefixState) (m : Option ModRm) → reg_field m < 8 → bit_r st ≡ false → reg_number st m < 8
unfolding reg_number
reg_without st m h e = rw e (omega arith)

-- a segment register that is written is not CS
abbrev WrittenIs : Option ModRm → OpKind → Type 0
WrittenIs m kind = (elim kind [ Sw ↦ not (reg_field m == 1) | _ ↦ true ]) ≡ true

written_at : (row : Row) (m : Option ModRm) (n : ℕ) → destination_fits row m ≡ true → n ≡ 0 → WrittenIs m (kind_at row n)
unfolding destination_fits
written_at row m n h e = subst (λ (k : ℕ). WrittenIs m (kind_at row k)) (sym e) h

and_not : (n : ℕ) (b : Bool) → (n ≡ 0 → not b ≡ true) → not (n == 0 && b) ≡ true
and_not n b h = elim (cases_Bool (n == 0)) [
  | inr e ↦ rw e
  | inl e ↦ rw e (h (eqb-true n 0 e))
]

allowed : (bits : Bits) (row : Row) (st : PrefixState) (m : Option ModRm) (n : ℕ) (kind : OpKind) (number : ℕ) → reg_field m < 8 → register_fits bits st m kind ≡ true → (n ≡ 0 → WrittenIs m kind) → (method_of kind ≡ method.ModRmReg → number ≡ reg_number st m) → kind_allows bits n kind (register_of bits row st (file_of kind) number) ≡ true
unfolding kind_allows register_fits register_of register_number file_of method_of
allowed bits row st m n Sw number small h w e =
    let below : reg_field m < 6 = ltb-true (reg_field m) 6 h in
    let low : number % 8 ≡ reg_field m = ap (λ (x : ℕ). x % 8) (e refl) ∙ reg_low st m small in
    let same : segment_number (segment_numbered (number % 8)) ≡ reg_field m = ap (λ (x : ℕ). segment_number (segment_numbered x)) low ∙ segment_same (reg_field m) below in
    and_not n (segment_number (segment_numbered (number % 8)) == 1) (λ z. ap (λ (x : ℕ). not (x == 1)) same ∙ w z)
allowed bits row st m n Cn number small h w e = ap (is_control_number bits) (e refl) ∙ h
allowed bits row st m n Dn number small h w e =
    let k = reg_without st m small (not-true (bit_r st) h) in let f = e refl in lt-ltb number 8 (omega arith)
allowed bits row st m n _ number small h w e = refl

-- ---- the opcode byte 90

-- a register in the opcode byte has its low three bits and B as its number
pub opcode_number : (bits : Bits) (row : Row) (st : PrefixState) (kind : OpKind) (n : ℕ) → method_of kind ≡ method.OpcodeLow → register_number (register_of bits row st (file_of kind) n) ≡ n
unfolding method_of file_of register_of
opcode_number bits row st Zb n e = number-byte st.rex n
opcode_number bits row st Zv n e = number-general_register (state_size bits row st) n
opcode_number bits row st _ n e = cc

-- the opcode byte is one of the row's eight
pub opcode_range : (row : Row) (o : ℕ) → row.plus ≡ PlusRegister → opcode_fits row o ≡ true → (row.opcode ≤ o) × (o < row.opcode + 8)
unfolding opcode_fits
opcode_range row o e h =
    let k : (nat_le row.opcode o && nat_lt o (row.opcode + 8)) ≡ true = rw e at h in
    (leb-true row.opcode o (and_parts (nat_le row.opcode o) _ k).0, ltb-true o (row.opcode + 8) (and_parts (nat_le row.opcode o) _ k).1)

-- XCHG of EAX with itself is spelled with B alone: 90 is NOP, and F3 90 is PAUSE
pub nop_b : (bits : Bits) (row : Row) (st : PrefixState) → row.plus ≡ PlusRegister → nop_fits bits row st ≡ true → (bit_b bits st ≡ true) × (is_repeat_f3 st.rep ≡ false)
unfolding nop_fits
nop_b bits row st e h =
    let k : (bit_b bits st && not (is_repeat_f3 st.rep)) ≡ true = rw e at h in
    ((and_parts (bit_b bits st) _ k).0, not-true (is_repeat_f3 st.rep) (and_parts (bit_b bits st) _ k).1)

extended_none : (b : Bool) (n : ℕ) → with_high_bit b n ≡ 0 → (b ≡ false) × (n ≡ 0)
extended_none true n h = absurd (omega arith)
extended_none false n h = (refl, omega arith)

-- an opcode byte whose low bits are none is the row's
same_opcode : (r o : ℕ) → r ≤ o → o < r + 8 → r % 8 ≡ 0 → o % 8 ≡ 0 → o ≡ r
same_opcode r o h k a b = omega arith

-- a register in the opcode byte is not number 0 of the byte 90
not_nop : (bits : Bits) (row : Row) (st : PrefixState) (t : Tail) (kind : OpKind) → TailIs bits row st t → Placed row → method_of kind ≡ method.OpcodeLow → row.plus ≡ PlusRegister → is_not_nop row method.OpcodeLow (register_of bits row st (file_of kind) (with_high_bit (bit_b bits st) (st.opcode % 8))) ≡ true
unfolding is_not_nop
not_nop bits row st t kind tail p e plus =
    let number = with_high_bit (bit_b bits st) (st.opcode % 8) in
    let r = register_of bits row st (file_of kind) number in
    elim (cases_Bool (is_nop_byte row row.opcode && register_number r == 0)) [
      | inr k ↦ rw k
      | inl k ↦ (
          let none : number ≡ 0 = sym (opcode_number bits row st kind number e) ∙ eqb-true (register_number r) 0 (and_parts (is_nop_byte row row.opcode) _ k).1 in
          let parts = extended_none (bit_b bits st) (st.opcode % 8) none in
          let range = opcode_range row st.opcode plus tail.opcode in
          let same = same_opcode row.opcode st.opcode range.0 range.1 (p.aligned plus) parts.1 in
          let nop = ap (is_nop_byte row) same ∙ (and_parts (is_nop_byte row row.opcode) _ k).0 in
          absurd (differ (bit_b bits st) (nop_b bits row st plus (tail.nop nop)).0 parts.0))
    ]

-- ---- each operand

-- an operand that is a register is nameable
abbrev pub NameableIf : Bits → Row → Instr → ℕ → Operand → Type 0
NameableIf bits row i n op = (elim op [ Reg r ↦ is_nameable bits row i n r | _ ↦ true ]) ≡ true

-- what an operand of a fitting spelling rests on
pub record Reading (bits : Bits) (row : Row) (st : PrefixState) (t : Tail) (i : Instr) (n : ℕ) (own : List ℕ) : Type 0 where
  pub context : Context bits row st i n
  pub tail : TailIs bits row st t
  pub range : InRange t
  pub places : Placed row
  pub four : has_four_operands row ≡ true
  pub bytes : are_bytes own ≡ true
  pub operand : operand_at i n ≡ operand_by bits row st t (kind_at row n) (method_of (kind_at row n)) own

kind_fits : (bits : Bits) (row : Row) (st : PrefixState) (t : Tail) (i : Instr) (n : ℕ) (own : List ℕ) → Reading bits row st t i n own → register_fits bits st t.modrm (kind_at row n) ≡ true
kind_fits bits row st t i n own r =
    let four = r.context.kinds in let h = r.context.within in
    all_kinds (register_fits bits st t.modrm) row.ops n (omega arith) r.tail.registers

-- a register with a number, where no more is asked of it than of its kind
named_by : (bits : Bits) (row : Row) (st : PrefixState) (t : Tail) (i : Instr) (n : ℕ) (own : List ℕ) (how : Method) (number : ℕ) → Reading bits row st t i n own → method_of (kind_at row n) ≡ how → operand_at i n ≡ Reg (register_of bits row st (file_of (kind_at row n)) number) → number < register_count bits → (file_of (kind_at row n) ≡ file.Byte → is_vex_row row ≡ false → method_of (kind_at row n) ≡ how → asked_rex row i ≡ None → number < 8) → (how ≡ method.Fixed → fixed_number (kind_at row n) ≡ number) → (how ≡ method.ModRmReg → number ≡ reg_number st t.modrm) → is_not_nop row how (register_of bits row st (file_of (kind_at row n)) number) ≡ true → NameableIf bits row i n (operand_at i n)
named_by bits row st t i n own how number r e op count byte fixed reg nop =
    let kind = kind_at row n in
    let named = register_of bits row st (file_of kind) number in
    let is : Register_is bits row st i n number = record {
      operand = op;
      counted = count;
      byte = λ f l none. byte f l e none;
      fixed = λ k. fixed (sym e ∙ k);
    } in
    let all = nameable bits row st i n number r.context is
    (subst (λ (x : Method). is_not_nop row x named ≡ true) (sym e) nop)
    (allowed bits row st t.modrm n kind number (reg_small t.modrm r.range.modrm) (kind_fits bits row st t i n own r)
    (λ z. written_at row t.modrm n r.tail.destination z) (λ k. reg (sym e ∙ k))) in
    subst (NameableIf bits row i n) (sym op) all

vvvv_is_no_byte : (kind : OpKind) → method_of kind ≡ method.Vvvv → file_of kind ≡ file.Byte → zero ≡ suc zero
unfolding method_of file_of
vvvv_is_no_byte By h e = cc
vvvv_is_no_byte _ h e = cc

last_is_no_byte : (kind : OpKind) → method_of kind ≡ method.LastByte → file_of kind ≡ file.Byte → zero ≡ suc zero
unfolding method_of file_of
last_is_no_byte Lx h e = cc
last_is_no_byte _ h e = cc

memory_named : (bits : Bits) (row : Row) (i : Instr) (n : ℕ) (st : PrefixState) (m : Option ModRm) (sib : Option Sib) (disp : List ℕ) (next : ℕ) → NameableIf bits row i n (memory_operand bits st m sib disp next)
unfolding memory_operand
memory_named bits row i n st None sib disp next = refl
memory_named bits row i n st (Some m) sib disp next = refl

gather_named : (bits : Bits) (row row1 : Row) (i : Instr) (n : ℕ) (st : PrefixState) (f : File) (m : Option ModRm) (sib : Option Sib) (disp : List ℕ) → NameableIf bits row i n (with_modrm (λ m. gather_memory bits row1 st f m sib disp) m)
unfolding gather_memory
gather_named bits row row1 i n st f None sib disp = refl
gather_named bits row row1 i n st f (Some m) None disp = refl
gather_named bits row row1 i n st f (Some m) (Some s) disp = refl

-- a register in ModRM.rm
rm_named : (bits : Bits) (row : Row) (st : PrefixState) (t : Tail) (i : Instr) (n : ℕ) (own : List ℕ) (how : Method) → Reading bits row st t i n own → method_of (kind_at row n) ≡ how → asks_b_of_register how ≡ true → (how ≡ method.Fixed → zero ≡ suc zero) → (how ≡ method.ModRmReg → zero ≡ suc zero) → ((r : Register) → is_not_nop row how r ≡ true) → operand_at i n ≡ Reg (register_of bits row st (file_of (kind_at row n)) (rm_number bits st t.modrm)) → NameableIf bits row i n (operand_at i n)
unfolding rm_number
rm_named bits row st t i n own how r e b no_fixed no_reg nop op =
    named_by bits row st t i n own how (with_high_bit (bit_b bits st) (rm_field t.modrm)) r e op
    (extended_count bits (bit_b bits st) (rm_field t.modrm) (rm_small t.modrm r.range.modrm) (bit_b_mode bits st))
    (λ f l k none. rm_byte bits row st i n _ how r.context b e op f l none)
    (λ k. absurd (let z = no_fixed k in omega arith)) (λ k. absurd (let z = no_reg k in omega arith)) (nop _)

-- an operand by where it is read
pub by_method : (bits : Bits) (row : Row) (st : PrefixState) (t : Tail) (i : Instr) (n : ℕ) (own : List ℕ) (how : Method) → Reading bits row st t i n own → method_of (kind_at row n) ≡ how → operand_at i n ≡ operand_by bits row st t (kind_at row n) how own → NameableIf bits row i n (operand_at i n)
unfolding operand_by is_not_nop reg_number near_target far_pointer
by_method bits row st t i n own method.ModRmReg r e op =
    named_by bits row st t i n own method.ModRmReg (with_high_bit (bit_r st) (reg_field t.modrm)) r e op
    (extended_count bits (bit_r st) (reg_field t.modrm) (reg_small t.modrm r.range.modrm) (bit_r_mode bits row st r.context.state))
    (λ f l k none. reg_byte bits row st i n _ r.context k op f l none) (λ k. cc) (λ k. refl) refl
by_method bits row st t i n own method.RegisterOrMemory r e op = elim (cases_Bool (has_modrm (λ m. nat_lt m.mode3 3) t.modrm)) [
  | inl test ↦ subst (NameableIf bits row i n) (sym (op ∙ rw test)) (memory_named bits row i n st t.modrm t.sib t.disp t.next)
  | inr test ↦ rm_named bits row st t i n own method.RegisterOrMemory r e refl (λ k. cc) (λ k. cc) (λ x. refl) (op ∙ rw test)
]
by_method bits row st t i n own method.RegisterOnly r e op = rm_named bits row st t i n own method.RegisterOnly r e refl (λ k. cc) (λ k. cc) (λ x. refl) op
by_method bits row st t i n own method.AnyMode r e op = rm_named bits row st t i n own method.AnyMode r e refl (λ k. cc) (λ k. cc) (λ x. refl) op
by_method bits row st t i n own method.MemoryOnly r e op = subst (NameableIf bits row i n) (sym op) (memory_named bits row i n st t.modrm t.sib t.disp t.next)
by_method bits row st t i n own method.OpcodeLow r e op =
    let plus = r.places.adds (reads_at reads_opcode row n r.four r.context.within (ap reads_opcode e)) in
    named_by bits row st t i n own method.OpcodeLow (with_high_bit (bit_b bits st) (st.opcode % 8)) r e op
    (extended_count bits (bit_b bits st) (st.opcode % 8) (omega arith) (bit_b_mode bits st))
    (λ f l k none. rm_byte bits row st i n _ method.OpcodeLow r.context refl e op f l none) (λ k. cc) (λ k. cc)
    (not_nop bits row st t (kind_at row n) r.tail r.places e plus)
by_method bits row st t i n own method.Vvvv r e op =
    named_by bits row st t i n own method.Vvvv (vvvv_number bits st) r e op (vvvv_count bits row st r.context.state)
    (λ f l k none. absurd (let z = vvvv_is_no_byte (kind_at row n) e f in omega arith)) (λ k. cc) (λ k. cc) refl
by_method bits row st t i n own method.LastByte r e op =
    named_by bits row st t i n own method.LastByte (last_byte_number bits own) r e op (last_count bits own r.bytes)
    (λ f l k none. absurd (let z = last_is_no_byte (kind_at row n) e f in omega arith)) (λ k. cc) (λ k. cc) refl
by_method bits row st t i n own method.Fixed r e op =
    named_by bits row st t i n own method.Fixed (fixed_number (kind_at row n)) r e op (fixed_count bits (kind_at row n))
    (λ f l k none. (let z = fixed_at_most (kind_at row n) in omega arith)) (λ k. refl) (λ k. cc) refl
by_method bits row st t i n own method.Gather r e op =
    subst (NameableIf bits row i n) (sym op) (gather_named bits row row i n st (file_of (kind_at row n)) t.modrm t.sib t.disp)
by_method bits row st t i n own _ r e op = subst (NameableIf bits row i n) (sym op) refl
