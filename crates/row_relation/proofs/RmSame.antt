-- The fields of ModRM and SIB of a plain spelling are the plain ones of what it means.
use Rattle.std.proofs.Common.{◌≡◌, inl, inr, ℕ, zero, suc, ◌%◌, ◌<◌, Bool, true, false, ◌&&◌, ◌||◌, ◌==◌, nat_lt, List, length, Option, Some, None, is_some, is_none, refl, ap, sym, ◌∙◌, subst, arith, if◌then◌else◌}
use Rattle.std.proofs.lemmas.Bool.{and_parts, cases_Bool, eqb-true}
use Rattle.std.specs.List.{list_all}
use borrow.Author.Tests.{ltb-true}
use Rattle.x86_values.specs.declared.Bits.{Bits}
use Rattle.x86_values.specs.declared.Bits.TheVariants.{B16, B32, B64}
use Rattle.x86_values.specs.declared.Code.{Code}
use Rattle.x86_values.specs.declared.Operand.{Operand}
use Rattle.x86_values.specs.declared.Operand.TheVariants.{Absent as AbsentOperand, Reg, Mem as MemOperand, Imm, Near, Far}
use Rattle.x86_values.specs.declared.Instr.{Instr}
use Rattle.instruction_parts.specs.declared.row_types.Row.{Row}
use Rattle.instruction_parts.specs.declared.row_types.Place.{Place}
use Rattle.instruction_parts.specs.declared.row_types.Place.TheVariants.{Any as AnyPlace, Memory as OnlyMemory, Register as OnlyRegister}
use Rattle.instruction_parts.specs.declared.row_types.OpKind.{OpKind}
use Rattle.instruction_parts.specs.declared.row_types.OpKind.TheVariants.{Absent, Sw, Es, Cs, Ss, Ds, Fs, Gs}
use Rattle.instruction_parts.specs.declared.kinds.Method.{Method}
use Rattle.instruction_parts.specs.declared.kinds.Method.TheVariants as method
use Rattle.instruction_parts.specs.declared.kinds.File.{File}
use Rattle.instruction_parts.specs.declared.kinds.File.TheVariants as file
use Rattle.instruction_parts.specs.declared.spelling.ModRm.{ModRm}
use Rattle.instruction_parts.specs.declared.spelling.Sib.{Sib}
use Rattle.instruction_parts.specs.declared.spelling.Spelling.{Spelling}
use Rattle.instruction_parts.specs.declared.spelling.PrefixState.{PrefixState}
use Rattle.instruction_parts.specs.Kinds.{method_of, file_of}
use Rattle.instruction_parts.specs.Sizes.{bit_b, state_size}
use Rattle.instruction_parts.specs.Bytes.{state_of}
use Rattle.row_fit.specs.Fits.{reads_by, reads_mode, is_any_mode, has_modrm, with_high_bit, rm_number, needs_sib, same_bool, address_fits, lengths_fit, displacement_bytes, place_allows, place_of, place_fits, opcode_and_modrm_fit, opcode_fits, modrm_rule_fits, modrm_in_range, kind_at}
use Rattle.row_fit.specs.Sound.{reads_rm}
use Rattle.row_fit.proofs.FitLaws.{modrm_range}
use Rattle.row_meaning.specs.Meaning.{Tail, tail_of, operand_by, own_immediate, memory_operand, register_of, gather_memory, with_modrm}
use Rattle.x86_values.specs.Operands.{is_memory}
use Rattle.plain_spelling.specs.Forms.{is_variant_of, is_allowed_in, is_register, operand_at}
use Rattle.plain_spelling.specs.PlainFront.{register_number}
use Rattle.plain_spelling.specs.Addresses.{address_fields}
use Rattle.plain_spelling.specs.PlainTail.{lone_mode, rm_fields, fields_of}
use Rattle.row_relation.proofs.AddressCases.{impossible}
use Rattle.plain_spelling.proofs.Asked.{four_kinds, rm_operand-at}
use Rattle.row_relation.proofs.FitNumbers.{kind_that_passes}
use Rattle.row_relation.proofs.FitRegisters.{variant-at}
use Rattle.row_relation.specs.GivenSpelling.{Given}
use Rattle.row_relation.proofs.NeedWalking.{all_kinds}
use Rattle.row_relation.proofs.NeedNumbers.{number-general_register, number-vector, number-byte}
use Rattle.row_relation.proofs.NeedUsed.{read_is}
use Rattle.row_relation.proofs.NeedVariants.{read_at, reads_at, kinds_suit}
use Rattle.row_relation.proofs.NeedReadShapes.{extended_low}
use Rattle.row_relation.proofs.NeedAddresses.{spelled_asize}
use Rattle.row_relation.specs.IsPlain.{IsPlain, lone_is_zero, mode_is_register, sib_is_needed}
use Rattle.row_relation.proofs.Addresses.{fields}
use Rattle.row_relation.proofs.TailIs.{fields_none}
use Rattle.row_relation.proofs.Rm.{AddressIs, OperandIs, address_at, written_at}

-- ---- registers

-- the file is that of the segment registers
abbrev pub is_segment_file : File → Bool
is_segment_file file.Segment = true
is_segment_file _ = false

no_segment : (kind : OpKind) → reads_rm (method_of kind) ≡ true → is_segment_file (file_of kind) ≡ false
unfolding method_of file_of
no_segment Sw h = impossible (sym h)
no_segment Es h = impossible (sym h)
no_segment Cs h = impossible (sym h)
no_segment Ss h = impossible (sym h)
no_segment Ds h = impossible (sym h)
no_segment Fs h = impossible (sym h)
no_segment Gs h = impossible (sym h)
no_segment _ h = refl

-- a register has the low three bits of the number that names it
pub low_kept : (bits : Bits) (row : Row) (st : PrefixState) (f : File) (n : ℕ) → is_segment_file f ≡ false → register_number (register_of bits row st f n) % 8 ≡ n % 8
unfolding register_of register_number
low_kept bits row st file.Byte n h = ap (λ (x : ℕ). x % 8) (number-byte st.rex n)
low_kept bits row st file.OperandSize n h = ap (λ (x : ℕ). x % 8) (number-general_register _ n)
low_kept bits row st file.WordOrDword n h = ap (λ (x : ℕ). x % 8) (number-general_register _ n)
low_kept bits row st file.ByW n h = ap (λ (x : ℕ). x % 8) (number-general_register _ n)
low_kept bits row st file.Native n h = ap (λ (x : ℕ). x % 8) (number-general_register _ n)
low_kept bits row st file.Vector n h = ap (λ (x : ℕ). x % 8) (number-vector row.l n)
low_kept bits row st file.Stack n h = omega arith
low_kept bits row st file.Mmx n h = omega arith
low_kept bits row st file.Segment n h = impossible h
low_kept bits row st _ n h = refl

-- a register in r/m: its low three bits are rm, and mod is 3 where it is read
abbrev pub RegIs : ModRm → Method → Operand → Type 0
RegIs m how (Reg r) = (register_number r % 8 ≡ m.rm) × (is_any_mode how ≡ false → m.mode3 ≡ 3)
RegIs m how _ = Unit {0}

rm_low : (bits : Bits) (row : Row) (st : PrefixState) (kind : OpKind) (m : ModRm) → reads_rm (method_of kind) ≡ true → m.rm < 8 → register_number (register_of bits row st (file_of kind) (rm_number bits st (Some m))) % 8 ≡ m.rm
unfolding rm_number
rm_low bits row st kind m h small = low_kept bits row st (file_of kind) (with_high_bit (bit_b bits st) m.rm) (no_segment kind h) ∙ extended_low (bit_b bits st) m.rm small

not_below : (n : ℕ) → nat_lt n 3 ≡ false → n < 4 → n ≡ 3
not_below zero h k = impossible h
not_below (suc zero) h k = impossible h
not_below (suc (suc zero)) h k = impossible h
not_below (suc (suc (suc zero))) h k = refl
not_below (suc (suc (suc (suc n)))) h k = absurd (omega arith)

memory_reg : (bits : Bits) (st : PrefixState) (m : ModRm) (how : Method) (o : Option ModRm) (sib : Option Sib) (d : List ℕ) (next : ℕ) → RegIs m how (memory_operand bits st o sib d next)
unfolding memory_operand
memory_reg bits st m how None sib d next = tt
memory_reg bits st m how (Some x) sib d next = tt

reg_read : (bits : Bits) (row : Row) (st : PrefixState) (t : Tail) (kind : OpKind) (how : Method) (imm : List ℕ) (m : ModRm) → method_of kind ≡ how → t.modrm ≡ Some m → reads_rm how ≡ true → m.rm < 8 → m.mode3 < 4 → place_allows (place_of how) m ≡ true → RegIs m how (operand_by bits row st t kind how imm)
unfolding operand_by place_allows gather_memory
reg_read bits row st t kind method.RegisterOrMemory imm m e k r small mode place =
    subst (λ (o : Option ModRm). RegIs m method.RegisterOrMemory (if has_modrm (λ m. nat_lt m.mode3 3) o then memory_operand bits st o t.sib t.disp t.next else Reg (register_of bits row st (file_of kind) (rm_number bits st o)))) (sym k)
    (by_test (nat_lt m.mode3 3) refl)
  where
    by_test : (test : Bool) → nat_lt m.mode3 3 ≡ test → RegIs m method.RegisterOrMemory (if test then memory_operand bits st (Some m) t.sib t.disp t.next else Reg (register_of bits row st (file_of kind) (rm_number bits st (Some m))))
    by_test true h = memory_reg bits st m method.RegisterOrMemory (Some m) t.sib t.disp t.next
    by_test false h = (rm_low bits row st kind m (ap reads_rm e) small, λ z. not_below m.mode3 h mode)
reg_read bits row st t kind method.RegisterOnly imm m e k r small mode place =
    subst (λ (o : Option ModRm). RegIs m method.RegisterOnly (Reg (register_of bits row st (file_of kind) (rm_number bits st o)))) (sym k)
    (rm_low bits row st kind m (ap reads_rm e) small, λ z. eqb-true m.mode3 3 place)
reg_read bits row st t kind method.AnyMode imm m e k r small mode place =
    subst (λ (o : Option ModRm). RegIs m method.AnyMode (Reg (register_of bits row st (file_of kind) (rm_number bits st o)))) (sym k)
    (rm_low bits row st kind m (ap reads_rm e) small, λ z. impossible z)
reg_read bits row st t kind method.MemoryOnly imm m e k r small mode place = memory_reg bits st m method.MemoryOnly t.modrm t.sib t.disp t.next
reg_read bits row st t kind method.Gather imm m e k r small mode place = gather_reg t.modrm t.sib
  where
    gather_reg : (o : Option ModRm) (sib : Option Sib) → RegIs m method.Gather (with_modrm (λ m. gather_memory bits row st (file_of kind) m sib t.disp) o)
    gather_reg None sib = tt
    gather_reg (Some x) None = tt
    gather_reg (Some x) (Some s) = tt
reg_read bits row st t kind _ imm m e k r small mode place = impossible (sym r)

place_part : (row : Row) (m : ModRm) → place_fits row (Some m) ≡ true → list_all (λ kind. place_allows (place_of (method_of kind)) m) row.ops ≡ true
unfolding place_fits
place_part row m h = (and_parts (place_allows row.place m) _ h).1

fit_place : (row : Row) (opcode : ℕ) (m : Option ModRm) → opcode_and_modrm_fit row opcode m ≡ true → place_fits row m ≡ true
unfolding opcode_and_modrm_fit
fit_place row opcode m h = (and_parts (modrm_rule_fits row.plus row.modrm m) (place_fits row m) (and_parts (opcode_fits row opcode) (modrm_rule_fits row.plus row.modrm m && place_fits row m) h).1).1

-- the ranges of a ModRM
pub record Small (m : ModRm) : Type 0 where
  pub mode3 : m.mode3 < 4
  pub reg : m.reg < 8
  pub rm : m.rm < 8

small_of : (m : ModRm) → modrm_in_range (Some m) ≡ true → Small m
unfolding modrm_in_range
small_of m h =
    let rest = (and_parts (nat_lt m.mode3 4) (nat_lt m.reg 8 && nat_lt m.rm 8) h).1 in
    record {
      mode3 = ltb-true m.mode3 4 (and_parts (nat_lt m.mode3 4) _ h).0;
      reg = ltb-true m.reg 8 (and_parts (nat_lt m.reg 8) (nat_lt m.rm 8) rest).0;
      rm = ltb-true m.rm 8 (and_parts (nat_lt m.reg 8) (nat_lt m.rm 8) rest).1;
    }

-- the fields of a spelling's ModRM are below 8
pub small_at : (bits : Bits) (ip : ℕ) (code : Code) (row : Row) (s : Spelling) (i : Instr) (m : ModRm) → Given bits ip code row s i → s.modrm ≡ Some m → Small m
small_at bits ip code row s i m g e = small_of m (subst (λ (o : Option ModRm). modrm_in_range o ≡ true) e (modrm_range s g.fitting.ranges))

-- a register in r/m has the same fields in both spellings
pub register_at : (bits : Bits) (ip : ℕ) (code : Code) (row : Row) (s : Spelling) (i : Instr) (n : ℕ) (m : ModRm) → Given bits ip code row s i → n < 4 → reads_rm (method_of (kind_at row n)) ≡ true → s.modrm ≡ Some m → RegIs m (method_of (kind_at row n)) (operand_at i n)
register_at bits ip code row s i n m g below reads e =
    let st = state_of bits row s in
    let t = tail_of bits ip row s in
    let how = method_of (kind_at row n) in
    let small = small_at bits ip code row s i m g e in
    let four = four_kinds row g.is_sound in
    let place = all_kinds (λ kind. place_allows (place_of (method_of kind)) m) row.ops n (omega arith) (place_part row m (subst (λ (o : Option ModRm). place_fits row o ≡ true) e (fit_place row s.opcode s.modrm g.fitting.opcode))) in
    subst (λ (x : Instr). RegIs m how (operand_at x n)) (read_is bits ip code row s i g)
    (subst (λ (x : Operand). RegIs m how x) (sym (read_at bits code row st t s.imm.items n below))
    (reg_read bits row st t (kind_at row n) how (own_immediate (state_size bits row st) row n s.imm.items) m refl e reads small.rm small.mode3 place))

-- ---- the SIB where none is asked for

-- the address of a fitting spelling fits
pub address_part : (bits : Bits) (ip : ℕ) (code : Code) (row : Row) (s : Spelling) (i : Instr) → Given bits ip code row s i → address_fits (spelled_asize bits row s) row s.modrm s.sib (length s.disp.items) ≡ true
unfolding lengths_fit
address_part bits ip code row s i g = (and_parts (address_fits (spelled_asize bits row s) row s.modrm s.sib (length s.disp.items)) _ g.fitting.lengths).0

none_from : {T : Type 0} → (o : Option T) → is_some o ≡ false → o ≡ None
none_from None h = refl
none_from (Some x) h = impossible h

-- an option that tests as None is None
pub is_none_from : {T : Type 0} → (o : Option T) → is_none o ≡ true → o ≡ None
is_none_from None h = refl
is_none_from (Some x) h = impossible (sym h)

same_false : (a b : Bool) → same_bool a b ≡ true → b ≡ false → a ≡ false
same_false true b h e = sym h ∙ e
same_false false b h e = refl

-- a ModRM that needs no SIB has none
pub sib_without : (asize : Bits) (row : Row) (m : ModRm) (sib : Option Sib) (given : ℕ) → address_fits asize row (Some m) sib given ≡ true → needs_sib asize m ≡ false → sib ≡ None
unfolding address_fits
sib_without asize row m sib given h e = by_test (reads_mode row) h
  where
    by_test : (test : Bool) → (if test then same_bool (is_some sib) (needs_sib asize m) && given == displacement_bytes asize m sib else is_none sib && given == 0) ≡ true → sib ≡ None
    by_test true h = none_from sib (same_false (is_some sib) (needs_sib asize m) (and_parts (same_bool (is_some sib) (needs_sib asize m)) _ h).0 e)
    by_test false h = is_none_from sib (and_parts (is_none sib) _ h).0

-- with mod 3 there is no SIB
pub needs_none : (asize : Bits) (m : ModRm) → m.mode3 ≡ 3 → needs_sib asize m ≡ false
unfolding needs_sib
needs_none B16 m h = refl
needs_none B32 m h = rw h refl
needs_none B64 m h = rw h refl

needs_no_four : (asize : Bits) (m : ModRm) → m.rm ≡ 0 → needs_sib asize m ≡ false
unfolding needs_sib
needs_no_four B16 m h = refl
needs_no_four B32 m h = rw h (never (nat_lt m.mode3 3))
  where
    never : (b : Bool) → (b && false) ≡ false
    never true = refl
    never false = refl
needs_no_four B64 m h = rw h (never (nat_lt m.mode3 3))
  where
    never : (b : Bool) → (b && false) ≡ false
    never true = refl
    never false = refl

-- ---- the fields

same_fields : (a a1 b b1 : ℕ) (c c1 : Option Sib) → a ≡ a1 → b ≡ b1 → c ≡ c1 → fields a b c ≡ fields a1 b1 c1
same_fields a a1 b b1 c c1 ha hb hc = ap (λ (x : ℕ). fields x b c) ha ∙ ap (λ (x : ℕ). fields a1 x c) hb ∙ ap (λ (x : Option Sib). fields a1 b1 x) hc

-- without an operand in r/m
lone_part : (row : Row) (m : ModRm) → lone_is_zero row (Some m) ≡ true → reads_by reads_rm row ≡ false → (m.mode3 ≡ lone_mode row.place) × (m.rm ≡ 0)
unfolding lone_is_zero
lone_part row m h none = by_place row.place (or_right (reads_by reads_rm row) _ none h)
  where
    or_right : (a b : Bool) → a ≡ false → (a || b) ≡ true → b ≡ true
    or_right true b n h = impossible n
    or_right false b n h = h

    by_place : (place : Place) → (m.mode3 == (elim place [ OnlyRegister ↦ 3 | _ ↦ 0 ]) && m.rm == 0) ≡ true → (m.mode3 ≡ lone_mode place) × (m.rm ≡ 0)
    by_place OnlyRegister h = (eqb-true m.mode3 3 (and_parts (m.mode3 == 3) _ h).0, eqb-true m.rm 0 (and_parts (m.mode3 == 3) (m.rm == 0) h).1)
    by_place AnyPlace h = (eqb-true m.mode3 0 (and_parts (m.mode3 == 0) _ h).0, eqb-true m.rm 0 (and_parts (m.mode3 == 0) (m.rm == 0) h).1)
    by_place OnlyMemory h = (eqb-true m.mode3 0 (and_parts (m.mode3 == 0) _ h).0, eqb-true m.rm 0 (and_parts (m.mode3 == 0) (m.rm == 0) h).1)

any_mode_at : (row : Row) (m : Option ModRm) (x : ModRm) → m ≡ Some x → mode_is_register row m ≡ true → reads_mode row ≡ false → x.mode3 ≡ 3
unfolding mode_is_register
any_mode_at row m x e h none = (let k : (x.mode3 == 3) ≡ true = rw (none, e) at h in eqb-true x.mode3 3 k)

any_mode_reads : (row : Row) → reads_by is_any_mode row ≡ true → reads_mode row ≡ false
unfolding reads_mode
any_mode_reads row h = rw h refl

-- what is read in r/m is a register or memory
pub variant_rm : (place : Place) (how : Method) (op : Operand) → reads_rm how ≡ true → is_variant_of place how op ≡ true → (is_register op || is_memory op) ≡ true
unfolding is_variant_of is_allowed_in
variant_rm AnyPlace method.RegisterOrMemory op h k = k
variant_rm OnlyMemory method.RegisterOrMemory op h k = memory_or op k
  where
    memory_or : (op : Operand) → is_memory op ≡ true → (is_register op || is_memory op) ≡ true
    memory_or (MemOperand m) h = refl
    memory_or _ h = impossible (sym h)
variant_rm OnlyRegister method.RegisterOrMemory op h k = rw k refl
variant_rm place method.MemoryOnly op h k = memory_or op k
  where
    memory_or : (op : Operand) → is_memory op ≡ true → (is_register op || is_memory op) ≡ true
    memory_or (MemOperand m) h = refl
    memory_or _ h = impossible (sym h)
variant_rm place method.Gather op h k = memory_or op k
  where
    memory_or : (op : Operand) → is_memory op ≡ true → (is_register op || is_memory op) ≡ true
    memory_or (MemOperand m) h = refl
    memory_or _ h = impossible (sym h)
variant_rm place method.RegisterOnly op h k = rw k refl
variant_rm place method.AnyMode op h k = rw k refl
variant_rm place _ op h k = impossible (sym h)

-- of an operand in r/m
fields_by : (bits : Bits) (ip : ℕ) (code : Code) (row : Row) (s : Spelling) (i : Instr) (n : ℕ) (m : ModRm) (op : Operand) → Given bits ip code row s i → IsPlain bits ip row s → n < 4 → reads_rm (method_of (kind_at row n)) ≡ true → s.modrm ≡ Some m → operand_at i n ≡ op → (is_register op || is_memory op) ≡ true
    → rm_fields bits i.asize row.place op ≡ fields m.mode3 m.rm s.sib
unfolding rm_fields
fields_by bits ip code row s i n m (Reg r) g p below reads e k v =
    let a : RegIs m (method_of (kind_at row n)) (Reg r) = subst (λ (x : Operand). RegIs m (method_of (kind_at row n)) x) k (register_at bits ip code row s i n m g below reads e) in
    let how = is_any_mode (method_of (kind_at row n)) in
    let mode : m.mode3 ≡ 3 = elim (cases_Bool how) [
      | inr other ↦ a.1 other
      | inl any ↦ any_mode_at row s.modrm m e p.mode (any_mode_reads row (reads_at is_any_mode row n g.is_sound.four_operands below any))
    ] in
    let sib : s.sib ≡ None = sib_without (spelled_asize bits row s) row m s.sib (length s.disp.items) (subst (λ (o : Option ModRm). address_fits (spelled_asize bits row s) row o s.sib (length s.disp.items) ≡ true) e (address_part bits ip code row s i g)) (needs_none (spelled_asize bits row s) m mode) in
    same_fields 3 m.mode3 _ m.rm None s.sib (sym mode) a.0 (sym sib)
fields_by bits ip code row s i n m (MemOperand mem) g p below reads e k v =
    let a : AddressIs bits row (state_of bits row s) m s.sib (spelled_asize bits row s) mem =
    subst (λ (x : Operand). OperandIs bits row (state_of bits row s) m s.sib (spelled_asize bits row s) x) k (address_at bits ip code row s i n m g below reads e) in
    ap (λ (z : Bits). address_fields bits z mem) (written_at bits ip code row s i n mem g below k)
    ∙ a.forth (subst (λ (o : Option ModRm). sib_is_needed bits row (state_of bits row s) o s.sib ≡ true) e p.sib, p.scale)
fields_by bits ip code row s i n m AbsentOperand g p below reads e k v = impossible (sym v)
fields_by bits ip code row s i n m (Imm x) g p below reads e k v = impossible (sym v)
fields_by bits ip code row s i n m (Near x) g p below reads e k v = impossible (sym v)
fields_by bits ip code row s i n m (Far x y) g p below reads e k v = impossible (sym v)

-- **the fields of a plain spelling are the plain ones**
pub fields_are : (bits : Bits) (ip : ℕ) (code : Code) (row : Row) (s : Spelling) (i : Instr) (m : ModRm) → Given bits ip code row s i → length i.ops ≡ 4 → IsPlain bits ip row s → s.modrm ≡ Some m → lone_is_zero row (Some m) ≡ true → fields_of bits row i ≡ fields m.mode3 m.rm s.sib
fields_are bits ip code row s i m g four p e lone = elim (cases_Bool (reads_by reads_rm row)) [
  | inr none ↦ (let l = lone_part row m lone none in
      let sib : s.sib ≡ None = sib_without (spelled_asize bits row s) row m s.sib (length s.disp.items) (subst (λ (o : Option ModRm). address_fits (spelled_asize bits row s) row o s.sib (length s.disp.items) ≡ true) e (address_part bits ip code row s i g)) (needs_no_four (spelled_asize bits row s) m l.1) in
      fields_none bits row i none ∙ same_fields _ m.mode3 0 m.rm None s.sib (sym l.0) (sym l.1) (sym sib))
  | inl some ↦ (let k = kind_that_passes (λ kind. reads_rm (method_of kind)) row.ops Absent some in
      let kinds = four_kinds row g.is_sound in
      let below : k.0 < 4 = omega (arith, k.1, kinds) in
      let v = variant_rm row.place (method_of (kind_at row k.0)) (operand_at i k.0) k.2 (variant-at row i k.0 (kinds_suit bits ip code row s i g) below) in
      ap (λ (op : Operand). rm_fields bits i.asize row.place op) (rm_operand-at row i k.0 g.is_sound four below k.2)
      ∙ fields_by bits ip code row s i k.0 m (operand_at i k.0) g p below k.2 e refl v)
]
