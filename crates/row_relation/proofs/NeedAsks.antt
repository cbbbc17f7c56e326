-- What all operands of an instruction ask of the bits R, X, B and of a REX stands in the state that was read.
use Rattle.std.proofs.Common.{◌≡◌, inl, inr, ℕ, zero, suc, ◌+◌, ◌-◌, ◌%◌, ◌<◌, ◌≤◌, Bool, true, false, ◌&&◌, ◌||◌, not, ◌==◌, nat_le, nat_lt, List, [], ◌∷◌, length, Option, Some, None, is_some, refl, arith, if◌then◌else◌}
use Rattle.std.specs.List.{list_any}
use Rattle.std.proofs.lemmas.Bool.{leb-true, lt-leb, and_parts, cases_Bool, eqb-true, not-true}
use borrow.Author.Tests.{ltb-true}
use Rattle.x86_values.specs.declared.Bits.{Bits}
use Rattle.x86_values.specs.declared.Bits.TheVariants.{B16, B32, B64}
use Rattle.x86_values.specs.declared.Code.{Code}
use Rattle.x86_values.specs.declared.Instr.{Instr}
use Rattle.x86_values.specs.declared.Register.TheVariants.{Low8, High8}
use Rattle.x86_values.specs.declared.Operand.{Operand}
use Rattle.x86_values.specs.declared.Operand.TheVariants.{Reg}
use Rattle.instruction_parts.specs.declared.row_types.Row.{Row}
use Rattle.instruction_parts.specs.declared.row_types.Plus.{Plus}
use Rattle.instruction_parts.specs.declared.row_types.Plus.TheVariants.{No as NoPlus, Register as PlusRegister, Stack as PlusStack}
use Rattle.instruction_parts.specs.declared.row_types.LBit.{LBit}
use Rattle.instruction_parts.specs.declared.row_types.LBit.TheVariants.{None as NoL, L128, L256, Lig, Lz}
use Rattle.instruction_parts.specs.declared.row_types.OpKind.{OpKind}
use Rattle.instruction_parts.specs.declared.kinds.Method.{Method}
use Rattle.instruction_parts.specs.declared.kinds.Method.TheVariants as method
use Rattle.instruction_parts.specs.declared.kinds.File.{File}
use Rattle.instruction_parts.specs.declared.kinds.File.TheVariants as file
use Rattle.instruction_parts.specs.declared.spelling.ModRm.{ModRm}
use Rattle.instruction_parts.specs.declared.spelling.Sib.{Sib}
use Rattle.instruction_parts.specs.declared.spelling.PrefixState.{PrefixState}
use Rattle.instruction_parts.specs.Kinds.{method_of, file_of}
use Rattle.instruction_parts.specs.Sizes.{is_vex_row, state_size, bit_r, bit_x, bit_b, bit_w}
use Rattle.row_fit.specs.Fits.{kind_at, has_modrm, reads_by, is_offset, is_vvvv}
use Rattle.row_fit.specs.Sound.{Sound, has_four_operands, plus_is_proper, operands_are_proper, operands_are_apart, at_most_one, reads_reg, reads_rm, reads_opcode, reads_last_byte, has_modrm_rule}
use Rattle.row_meaning.specs.Meaning.{general_register, byte_register, vector, word_or_dword, size_by_w, native_size, register_of, memory_absolute, near_target, far_pointer, with_modrm, memory_operand, gather_memory, Tail, operand_by, operand_at, instr_of}
use Rattle.plain_spelling.specs.PlainFront.{number_in_reg, number_in_rm, number_in_index, number_in_vvvv, number_in_opcode, asks_r, asks_x, asks_b, asks_low_byte, is_low_byte_of_rex}
use Rattle.row_relation.proofs.NeedWalking.{Hold, hold_four, readers, Asks, asked_sole, low_byte_reason}
use Rattle.row_relation.proofs.NeedNumbers.{Needs, needs_small, InRange, asks_reg, asks_rm, asks_index, if_holds}

-- ---- each operand

-- what holds of every operand that is read holds of those of an instruction
pub each_read : (Q : OpKind → Operand → Type 0) (bits : Bits) (code : Code) (row : Row) (st : PrefixState) (t : Tail) (imm : List ℕ) → has_four_operands row ≡ true → ((kind : OpKind) (own : List ℕ) → Q kind (operand_by bits row st t kind (method_of kind) own)) → Hold Q row.ops (instr_of bits code row st t imm).ops
unfolding instr_of operand_at has_four_operands
each_read Q bits code row st t imm four h =
    hold_four Q row.ops _ _ _ _ (eqb-true (length row.ops) 4 four) (h (kind_at row 0) _) (h (kind_at row 1) _) (h (kind_at row 2) _) (h (kind_at row 3) _)

-- ---- at most one operand

-- a part that one operand may read is read by one at most
pub one_reader : (p : Method → Bool) (row : Row) → at_most_one p row ≡ true → readers p row.ops ≤ 1
one_reader p row h = leb-true _ 1 h

-- a part that no kind reads has no readers
pub no_readers : (p : Method → Bool) (kinds : List OpKind) → list_any (λ kind. p (method_of kind)) kinds ≡ false → readers p kinds ≡ 0
no_readers p [] h = refl
no_readers p (kind ∷ kinds) h = elim (cases_Bool (p (method_of kind))) [
  | inl e ↦ (let k : true ≡ false = rw e at h in cc)
  | inr e ↦ (let k : list_any (λ kind. p (method_of kind)) kinds ≡ false = rw e at h in rw e (let n = no_readers p kinds k in omega arith))
]

-- the readers of two parts together
pub readers_or : (p q : Method → Bool) (kinds : List OpKind) → readers (λ m. p m || q m) kinds ≤ readers p kinds + readers q kinds
readers_or p q [] = omega arith
readers_or p q (kind ∷ kinds) =
    let rest = readers_or p q kinds in step (p (method_of kind)) (q (method_of kind)) _ _ _ rest
  where
    step : (a b : Bool) (n m k : ℕ) → n ≤ m + k → (if a || b then 1 else 0) + n ≤ ((if a then 1 else 0) + m) + ((if b then 1 else 0) + k)
    step true true n m k h = omega arith
    step true false n m k h = omega arith
    step false true n m k h = omega arith
    step false false n m k h = omega arith

pub record Apart (row : Row) : Type 0 where
  pub reg : readers reads_reg row.ops ≤ 1
  pub rm : readers reads_rm row.ops ≤ 1
  pub vvvv : readers is_vvvv row.ops ≤ 1
  pub opcode : readers reads_opcode row.ops ≤ 1
  pub last : readers reads_last_byte row.ops ≤ 1
  pub offset : readers is_offset row.ops ≤ 1

-- the operands of a proper row are read in parts of their own
pub apart : (row : Row) → operands_are_apart row ≡ true → Apart row
unfolding operands_are_apart
apart row h =
    let a = at_most_one reads_reg row in let b = at_most_one reads_rm row in let c = at_most_one is_vvvv row in
    let d = at_most_one reads_opcode row in let e = at_most_one reads_last_byte row in let f = at_most_one is_offset row in
    let h1 = (and_parts a (b && (c && (d && (e && f)))) h).1 in
    let h2 = (and_parts b (c && (d && (e && f))) h1).1 in
    let h3 = (and_parts c (d && (e && f)) h2).1 in
    let h4 = (and_parts d (e && f) h3).1 in
    record {
      reg = one_reader reads_reg row (and_parts a (b && (c && (d && (e && f)))) h).0;
      rm = one_reader reads_rm row (and_parts b (c && (d && (e && f))) h1).0;
      vvvv = one_reader is_vvvv row (and_parts c (d && (e && f)) h2).0;
      opcode = one_reader reads_opcode row (and_parts d (e && f) h3).0;
      last = one_reader reads_last_byte row (and_parts e f h4).0;
      offset = one_reader is_offset row (and_parts e f h4).1;
    }

-- a row that reads a register from the opcode byte adds it, and has no ModRM
pub record Placed (row : Row) : Type 0 where
  pub modrm : (reads_by reads_reg row ≡ true) → has_modrm_rule row.modrm ≡ true
  pub rm : (reads_by reads_rm row ≡ true) → has_modrm_rule row.modrm ≡ true
  pub adds : (reads_by reads_opcode row ≡ true) → row.plus ≡ PlusRegister
  pub reads : row.plus ≡ PlusRegister → reads_by reads_opcode row ≡ true
  pub bare : row.plus ≡ PlusRegister → has_modrm_rule row.modrm ≡ false
  pub aligned : row.plus ≡ PlusRegister → row.opcode % 8 ≡ 0
  pub legacy : row.plus ≡ PlusRegister → is_vex_row row ≡ false

both_not : (a b c : Bool) → ((not a && not b) || c) ≡ true → (a ≡ true → c ≡ true) × (b ≡ true → c ≡ true)
both_not true b c h = (λ _. h, λ _. h)
both_not false true c h = (λ _. h, λ _. h)
both_not false false c h = (λ e. cc, λ e. cc)

adds_by : (plus : Plus) (o : Bool) → (elim plus [ PlusRegister ↦ o | _ ↦ not o ]) ≡ true → o ≡ true → plus ≡ PlusRegister
adds_by PlusRegister o h e = refl
adds_by NoPlus o h e = let n = not-true o h in cc
adds_by PlusStack o h e = let n = not-true o h in cc

-- each in a place that the row has
pub placed : (row : Row) → operands_are_proper row ≡ true → plus_is_proper row ≡ true → Placed row
unfolding operands_are_proper plus_is_proper
placed row h k =
    let rules = both_not (reads_by reads_reg row) (reads_by reads_rm row) (has_modrm_rule row.modrm) (and_parts _ _ h).0 in
    let rest = (and_parts (not (reads_by is_offset row) || not (has_modrm_rule row.modrm)) _ (and_parts ((not (reads_by reads_reg row) && not (reads_by reads_rm row)) || has_modrm_rule row.modrm) _ h).1).1 in
    let added = (and_parts (elim row.plus [ PlusRegister ↦ reads_by reads_opcode row | _ ↦ not (reads_by reads_opcode row) ]) _ rest).0 in
    let proper = λ (e : row.plus ≡ PlusRegister). (rw e at k) in
    let tested = not (has_modrm_rule row.modrm) && row.opcode % 8 == 0 in
    record {
      modrm = rules.0;
      rm = rules.1;
      adds = adds_by row.plus (reads_by reads_opcode row) added;
      reads = λ e. (rw e at added);
      bare = λ e. not-true (has_modrm_rule row.modrm) (and_parts (not (has_modrm_rule row.modrm)) (row.opcode % 8 == 0) (and_parts (not (is_vex_row row)) tested (proper e)).1).0;
      aligned = λ e. eqb-true (row.opcode % 8) 0 (and_parts (not (has_modrm_rule row.modrm)) (row.opcode % 8 == 0) (and_parts (not (is_vex_row row)) tested (proper e)).1).1;
      legacy = λ e. not-true (is_vex_row row) (and_parts (not (is_vex_row row)) tested (proper e)).0;
    }

-- a test does not hold and fail
pub differ : (b : Bool) → b ≡ true → b ≡ false → ⊥
differ b h k = let e : zero ≡ suc zero = cc in absurd (omega arith)

-- B is asked for by at most one operand: one in r/m or in the opcode byte
pub one_of_b : (row : Row) → Apart row → Placed row → readers (λ m. reads_rm m || reads_opcode m) row.ops ≤ 1
one_of_b row a p =
    let sum = readers_or reads_rm reads_opcode row.ops in
    let one = a.rm in let two = a.opcode in
    elim (cases_Bool (reads_by reads_opcode row)) [
      | inr e ↦ (let none = no_readers reads_opcode row.ops e in omega arith)
      | inl e ↦ elim (cases_Bool (reads_by reads_rm row)) [
        | inr f ↦ (let none = no_readers reads_rm row.ops f in omega arith)
        | inl f ↦ (let yes1 = p.rm f in let no1 = p.bare (p.adds e) in absurd (differ (has_modrm_rule row.modrm) yes1 no1))
      ]
    ]

-- ---- what is not read from a field asks nothing of it

-- an operand that is not read in reg asks for nothing there
pub silent_reg : (op : Operand) (how : Method) → reads_reg how ≡ false → number_in_reg how op ≡ 0
unfolding number_in_reg
silent_reg op method.ModRmReg h = cc
silent_reg op _ h = refl

-- the same of vvvv
pub silent_vvvv : (op : Operand) (how : Method) → is_vvvv how ≡ false → number_in_vvvv how op ≡ 0
unfolding number_in_vvvv
silent_vvvv op method.Vvvv h = cc
silent_vvvv op _ h = refl

-- of the opcode byte
pub silent_opcode : (op : Operand) (how : Method) → reads_opcode how ≡ false → number_in_opcode how op ≡ 0
unfolding number_in_opcode
silent_opcode op method.OpcodeLow h = cc
silent_opcode op _ h = refl

-- of r/m
pub silent_rm : (op : Operand) (how : Method) → (reads_rm how || reads_opcode how) ≡ false → number_in_rm how op ≡ 0
unfolding number_in_rm
silent_rm op method.RegisterOrMemory h = cc
silent_rm op method.RegisterOnly h = cc
silent_rm op method.MemoryOnly h = cc
silent_rm op method.AnyMode h = cc
silent_rm op method.Gather h = cc
silent_rm op method.OpcodeLow h = cc
silent_rm op _ h = refl

-- and of the index of a SIB
pub silent_index : (bits : Bits) (row : Row) (st : PrefixState) (t : Tail) (kind : OpKind) (how : Method) (imm : List ℕ) → reads_rm how ≡ false → number_in_index how (operand_by bits row st t kind how imm) ≡ 0
unfolding number_in_index operand_by memory_absolute near_target far_pointer
silent_index bits row st t kind method.RegisterOrMemory imm h = cc
silent_index bits row st t kind method.RegisterOnly imm h = cc
silent_index bits row st t kind method.MemoryOnly imm h = cc
silent_index bits row st t kind method.AnyMode imm h = cc
silent_index bits row st t kind method.Gather imm h = cc
silent_index bits row st t kind _ imm h = refl

-- ---- a low byte register

-- the state has a REX
abbrev pub HasRex : PrefixState → Type 0
HasRex st = is_some st.rex ≡ true

if_low : (n : ℕ) (test : Bool) → nat_lt n 4 ≡ test → is_low_byte_of_rex (Reg (if test then Low8 n else High8 (n - 4))) ≡ false
unfolding is_low_byte_of_rex
if_low n true e = let h : n < 4 = ltb-true n 4 e in let k : nat_le 4 n ≡ false = lt-leb 4 n h in rw k
if_low n false e = refl

low_byte : (rex : Option ℕ) (n : ℕ) → is_low_byte_of_rex (Reg (byte_register rex n)) ≡ true → is_some rex ≡ true
unfolding byte_register
low_byte (Some rex) n h = refl
low_byte None n h = let e = if_low n (nat_lt n 4) refl in cc

general_high : (size : Bits) (n : ℕ) → is_low_byte_of_rex (Reg (general_register size n)) ≡ false
unfolding is_low_byte_of_rex general_register
general_high B16 n = refl
general_high B32 n = refl
general_high B64 n = refl

vector_high : (l : LBit) (n : ℕ) → is_low_byte_of_rex (Reg (vector l n)) ≡ false
unfolding is_low_byte_of_rex vector
vector_high NoL n = refl
vector_high L128 n = refl
vector_high L256 n = refl
vector_high Lig n = refl
vector_high Lz n = refl

clash : (b c : Bool) → b ≡ false → b ≡ true → c ≡ true
clash b c h k = cc

register_low : (bits : Bits) (row : Row) (st : PrefixState) (f : File) (n : ℕ) → is_low_byte_of_rex (Reg (register_of bits row st f n)) ≡ true → HasRex st
unfolding is_low_byte_of_rex register_of
register_low bits row st file.Byte n h = low_byte st.rex n h
register_low bits row st file.OperandSize n h = clash _ _ (general_high (state_size bits row st) n) h
register_low bits row st file.WordOrDword n h = clash _ _ (general_high (word_or_dword (state_size bits row st)) n) h
register_low bits row st file.ByW n h = clash _ _ (general_high (size_by_w (bit_w bits st)) n) h
register_low bits row st file.Native n h = clash _ _ (general_high (native_size bits) n) h
register_low bits row st file.Vector n h = clash _ _ (vector_high row.l n) h
register_low bits row st _ n h = cc

abbrev LowHasRex : PrefixState → Operand → Type 0
LowHasRex st op = is_low_byte_of_rex op ≡ true → HasRex st

memory_low : (bits : Bits) (st : PrefixState) (m : Option ModRm) (sib : Option Sib) (disp : List ℕ) (next : ℕ) → LowHasRex st (memory_operand bits st m sib disp next)
unfolding memory_operand is_low_byte_of_rex
memory_low bits st None sib disp next h = cc
memory_low bits st (Some m) sib disp next h = cc

gather_low : (bits : Bits) (row : Row) (st : PrefixState) (f : File) (m : Option ModRm) (sib : Option Sib) (disp : List ℕ) → LowHasRex st (with_modrm (λ m. gather_memory bits row st f m sib disp) m)
unfolding gather_memory is_low_byte_of_rex
gather_low bits row st f None sib disp h = cc
gather_low bits row st f (Some m) None disp h = cc
gather_low bits row st f (Some m) (Some s) disp h = cc

-- **SPL, BPL, SIL and DIL are named by a REX**
operand_low : (bits : Bits) (row : Row) (st : PrefixState) (t : Tail) (kind : OpKind) (how : Method) (imm : List ℕ) → LowHasRex st (operand_by bits row st t kind how imm)
unfolding operand_by is_low_byte_of_rex near_target far_pointer
operand_low bits row st t kind method.ModRmReg imm h = register_low bits row st (file_of kind) _ h
operand_low bits row st t kind method.RegisterOrMemory imm h =
    if_holds (LowHasRex st) (has_modrm (λ m. nat_lt m.mode3 3) t.modrm) _ _ (memory_low bits st t.modrm t.sib t.disp t.next) (register_low bits row st (file_of kind) _) h
operand_low bits row st t kind method.RegisterOnly imm h = register_low bits row st (file_of kind) _ h
operand_low bits row st t kind method.AnyMode imm h = register_low bits row st (file_of kind) _ h
operand_low bits row st t kind method.MemoryOnly imm h = memory_low bits st t.modrm t.sib t.disp t.next h
operand_low bits row st t kind method.OpcodeLow imm h = register_low bits row st (file_of kind) _ h
operand_low bits row st t kind method.Vvvv imm h = register_low bits row st (file_of kind) _ h
operand_low bits row st t kind method.LastByte imm h = register_low bits row st (file_of kind) _ h
operand_low bits row st t kind method.Fixed imm h = register_low bits row st (file_of kind) _ h
operand_low bits row st t kind method.Gather imm h = gather_low bits row st (file_of kind) t.modrm t.sib t.disp h
operand_low bits row st t kind _ imm h = cc

-- ---- all operands

four_lengths : (bits : Bits) (code : Code) (row : Row) (st : PrefixState) (t : Tail) (imm : List ℕ) → has_four_operands row ≡ true → length row.ops ≡ length (instr_of bits code row st t imm).ops
unfolding instr_of has_four_operands
four_lengths bits code row st t imm h = let e = eqb-true (length row.ops) 4 h in omega arith

-- what the operands of an instruction ask stands in the state
pub record AskedBits (bits : Bits) (row : Row) (st : PrefixState) (i : Instr) : Type 0 where
  pub r : asks_r row i ≡ true → bit_r st ≡ true
  pub x : asks_x row i ≡ true → bit_x st ≡ true
  pub b : asks_b row i ≡ true → bit_b bits st ≡ true
  pub low : asks_low_byte i.ops ≡ true → is_some st.rex ≡ true

-- the bits that a meaning asks for are those of its front
pub asked_bits : (bits : Bits) (code : Code) (row : Row) (st : PrefixState) (t : Tail) (imm : List ℕ) → Sound row → InRange t → AskedBits bits row st (instr_of bits code row st t imm)
unfolding asks_r asks_x asks_b
asked_bits bits code row st t imm sound r =
    let i = instr_of bits code row st t imm in
    let a = apart row sound.apart in
    let p = placed row sound.operands sound.plus in
    record {
      r = asked_sole (Needs (bit_r st)) reads_reg number_in_reg row.ops i.ops (needs_small (bit_r st) 0 (omega arith)) a.reg
          (each_read (Asks (Needs (bit_r st)) reads_reg number_in_reg) bits code row st t imm sound.four_operands
          (λ kind own. (asks_reg bits row st t kind (method_of kind) own r, silent_reg _ (method_of kind))));
      x = asked_sole (Needs (bit_x st)) reads_rm number_in_index row.ops i.ops (needs_small (bit_x st) 0 (omega arith)) a.rm
          (each_read (Asks (Needs (bit_x st)) reads_rm number_in_index) bits code row st t imm sound.four_operands
          (λ kind own. (asks_index bits row st t kind (method_of kind) own r, silent_index bits row st t kind (method_of kind) own)));
      b = asked_sole (Needs (bit_b bits st)) (λ m. reads_rm m || reads_opcode m) number_in_rm row.ops i.ops (needs_small (bit_b bits st) 0 (omega arith)) (one_of_b row a p)
          (each_read (Asks (Needs (bit_b bits st)) (λ m. reads_rm m || reads_opcode m) number_in_rm) bits code row st t imm sound.four_operands
          (λ kind own. (asks_rm bits row st t kind (method_of kind) own r, silent_rm _ (method_of kind))));
      low = low_byte_reason (is_some st.rex ≡ true) row.ops i.ops (four_lengths bits code row st t imm sound.four_operands)
          (each_read (λ kind op. LowHasRex st op) bits code row st t imm sound.four_operands (λ kind own. operand_low bits row st t kind (method_of kind) own));
    }
