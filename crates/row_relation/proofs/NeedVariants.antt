-- Each operand that a fitting spelling means has a variant that its kind allows.
use Rattle.std.proofs.Common.{◌≡◌, inl, inr, ℕ, zero, suc, ◌+◌, ◌<◌, ◌≤◌, Bool, true, false, ◌&&◌, ◌||◌, not, ◌==◌, nat_lt, List, [], ◌∷◌, length, Option, Some, None, is_some, refl, ap, sym, subst, arith, if◌then◌else◌}
use Rattle.instruction_parts.proofs.Tests.{or_right}
use Rattle.std.proofs.lemmas.Bool.{or_left, and_parts, cases_Bool, eqb-true, not-true}
use Rattle.std.specs.List.{list_any, list_all}
use borrow.Author.Tests.{ltb-true}
use Rattle.x86_values.specs.declared.Bits.{Bits}
use Rattle.x86_values.specs.declared.Code.{Code}
use Rattle.x86_values.specs.declared.Instr.{Instr}
use Rattle.x86_values.specs.declared.Operand.{Operand}
use Rattle.x86_values.specs.declared.Operand.TheVariants.{Reg}
use Rattle.instruction_parts.specs.declared.row_types.Row.{Row}
use Rattle.instruction_parts.specs.declared.row_types.Plus.{Plus}
use Rattle.instruction_parts.specs.declared.row_types.Place.{Place}
use Rattle.instruction_parts.specs.declared.row_types.Place.TheVariants.{Any as AnyPlace, Memory as OnlyMemory, Register as OnlyRegister}
use Rattle.instruction_parts.specs.declared.row_types.ModRmRule.{ModRmRule}
use Rattle.instruction_parts.specs.declared.row_types.ModRmRule.TheVariants.{No as NoModRm, Any as AnyModRm, Digit, Fixed as FixedByte}
use Rattle.instruction_parts.specs.declared.row_types.OpKind.{OpKind}
use Rattle.instruction_parts.specs.declared.kinds.Method.{Method}
use Rattle.instruction_parts.specs.declared.kinds.Method.TheVariants as method
use Rattle.instruction_parts.specs.declared.kinds.File.{File}
use Rattle.instruction_parts.specs.declared.spelling.ModRm.{ModRm}
use Rattle.instruction_parts.specs.declared.spelling.Sib.{Sib}
use Rattle.instruction_parts.specs.declared.spelling.Spelling.{Spelling}
use Rattle.instruction_parts.specs.declared.spelling.PrefixState.{PrefixState}
use Rattle.instruction_parts.specs.Kinds.{method_of, file_of}
use Rattle.instruction_parts.specs.Sizes.{state_size, state_address_size}
use Rattle.instruction_parts.specs.Bytes.{state_of}
use Rattle.row_fit.specs.Fits.{Fits, kind_at, has_modrm, reads_by, is_gather, is_any_mode, reads_mode, rm_number, needs_sib, address_fits, lengths_fit, displacement_bytes, same_bool, gather_fits, registers_fit, register_fits, destination_fits, is_nop_byte, nop_fits, opcode_and_modrm_fit, opcode_fits, modrm_rule_fits, place_fits, place_allows}
use Rattle.row_fit.specs.Sound.{Sound, has_four_operands, reads_rm, has_modrm_rule}
use Rattle.row_meaning.specs.Meaning.{register_of, with_modrm, memory_operand, gather_memory, near_target, far_pointer, Tail, tail_of, instr_of, operand_by, operand_at, own_immediate}
use Rattle.x86_values.specs.Operands.{is_memory}
use Rattle.plain_spelling.specs.Forms.{is_variant_of, is_allowed_in}
use Rattle.plain_spelling.specs.Forms as form
use Rattle.plain_spelling.specs.Expressible.{kind_suits, each_operand}
use Rattle.plain_spelling.proofs.Asked.{each-from}
use Rattle.row_relation.specs.GivenSpelling.{Given}
use Rattle.row_relation.proofs.NeedWalking.{readers, any_kind}
use Rattle.row_relation.proofs.NeedAsks.{differ, placed, Apart, apart}
use Rattle.row_relation.proofs.NeedStates.{state_opcode}
use Rattle.row_relation.proofs.NeedUsed.{read, read_is}

-- ---- the tail of a fitting spelling

-- ModRM stands where the row has one
modrm_stands : (plus : Plus) (rule : ModRmRule) (m : Option ModRm) → modrm_rule_fits plus rule m ≡ true → has_modrm_rule rule ≡ true → is_some m ≡ true
unfolding modrm_rule_fits
modrm_stands plus rule (Some m) h e = refl
modrm_stands plus NoModRm None h e = cc
modrm_stands plus AnyModRm None h e = h
modrm_stands plus (Digit d) None h e = h
modrm_stands plus (FixedByte b) None h e = h

-- what the tail of a fitting spelling is
pub record TailIs (bits : Bits) (row : Row) (st : PrefixState) (t : Tail) : Type 0 where
  pub modrm : has_modrm_rule row.modrm ≡ true → is_some t.modrm ≡ true
  pub place : place_fits row t.modrm ≡ true
  pub gather : reads_by is_gather row ≡ true → gather_fits bits st t.modrm t.sib ≡ true
  pub sib : reads_by is_gather row ≡ true → is_some t.sib ≡ true
  pub registers : list_all (register_fits bits st t.modrm) row.ops ≡ true
  pub destination : destination_fits row t.modrm ≡ true
  pub nop : is_nop_byte row st.opcode ≡ true → nop_fits bits row st ≡ true
  pub opcode : opcode_fits row st.opcode ≡ true

-- readers of two sorts are among those of a third
readers_sum : (p q r : Method → Bool) → ((how : Method) → (if p how then 1 else 0) + (if q how then 1 else 0) ≤ (if r how then 1 else 0)) → (kinds : List OpKind) → readers p kinds + readers q kinds ≤ readers r kinds
readers_sum p q r h [] = omega arith
readers_sum p q r h (kind ∷ kinds) = let here = h (method_of kind) in let rest = readers_sum p q r h kinds in omega arith

-- a part that a kind reads has a reader
pub some_reader : (p : Method → Bool) (kinds : List OpKind) → list_any (λ kind. p (method_of kind)) kinds ≡ true → 1 ≤ readers p kinds
some_reader p [] h = absurd (differ false h refl)
some_reader p (kind ∷ kinds) h = elim (cases_Bool (p (method_of kind))) [
  | inl e ↦ rw e (omega arith)
  | inr e ↦ (let k : list_any (λ kind. p (method_of kind)) kinds ≡ true = rw e at h in let rest = some_reader p kinds k in rw e (omega arith))
]

both_read_rm : (how : Method) → (if is_gather how then 1 else 0) + (if is_any_mode how then 1 else 0) ≤ (if reads_rm how then 1 else 0)
both_read_rm method.Gather = omega arith
both_read_rm method.AnyMode = omega arith
both_read_rm method.RegisterOrMemory = omega arith
both_read_rm method.RegisterOnly = omega arith
both_read_rm method.MemoryOnly = omega arith
both_read_rm _ = omega arith

-- a gather and a move of control registers are not on one row
no_any_mode : (row : Row) → Apart row → reads_by is_gather row ≡ true → reads_by is_any_mode row ≡ false
no_any_mode row a g = elim (cases_Bool (reads_by is_any_mode row)) [
  | inr e ↦ e
  | inl e ↦ (
      let sum = readers_sum is_gather is_any_mode reads_rm both_read_rm row.ops in
      let one = a.rm in
      let first = some_reader is_gather row.ops g in
      let second = some_reader is_any_mode row.ops e in
      absurd (omega arith))
]

-- a gather is read in r/m
pub gather_reads_rm : (how : Method) → is_gather how ≡ true → reads_rm how ≡ true
gather_reads_rm method.Gather h = refl
gather_reads_rm _ h = cc

-- a gather has a SIB
sib_stands : (asize : Bits) (row : Row) (m : Option ModRm) (sib : Option Sib) (given : ℕ) → address_fits asize row m sib given ≡ true → reads_by is_any_mode row ≡ false → has_modrm (λ m. needs_sib asize m) m ≡ true → is_some sib ≡ true
unfolding address_fits reads_mode
sib_stands asize row None sib given h e g = cc
sib_stands asize row (Some m) sib given h e g =
    let k : (same_bool (is_some sib) (needs_sib asize m) && given == displacement_bytes asize m sib) ≡ true = rw e at h in
    same_true (is_some sib) (needs_sib asize m) (and_parts (same_bool (is_some sib) (needs_sib asize m)) _ k).0 g
  where
    same_true : (a b : Bool) → same_bool a b ≡ true → b ≡ true → a ≡ true
    same_true true b h e = refl
    same_true false b h e = let k = not-true b h in cc

gather_needs : (bits : Bits) (st : PrefixState) (m : Option ModRm) (sib : Option Sib) → gather_fits bits st m sib ≡ true → has_modrm (λ m. needs_sib (state_address_size bits st) m) m ≡ true
unfolding gather_fits
gather_needs bits st m sib h = (and_parts (has_modrm (λ m. needs_sib (state_address_size bits st) m) m) _ h).0

gather_of : (bits : Bits) (row : Row) (st : PrefixState) (m : Option ModRm) (sib : Option Sib) → registers_fit bits row st m sib ≡ true → reads_by is_gather row ≡ true → gather_fits bits st m sib ≡ true
unfolding registers_fit
gather_of bits row st m sib h g =
    let r1 = (and_parts (list_all (register_fits bits st m) row.ops) _ h).1 in
    let r2 = (and_parts (destination_fits row m) _ r1).1 in
    or_right (not (reads_by is_gather row)) (gather_fits bits st m sib) (ap not g) (and_parts (not (reads_by is_gather row) || gather_fits bits st m sib) _ r2).0

nop_of : (bits : Bits) (row : Row) (st : PrefixState) (m : Option ModRm) (sib : Option Sib) → registers_fit bits row st m sib ≡ true → is_nop_byte row st.opcode ≡ true → nop_fits bits row st ≡ true
unfolding registers_fit
nop_of bits row st m sib h g =
    let r1 = (and_parts (list_all (register_fits bits st m) row.ops) _ h).1 in
    let r2 = (and_parts (destination_fits row m) _ r1).1 in
    or_right (not (is_nop_byte row st.opcode)) (nop_fits bits row st) (ap not g) (and_parts (not (reads_by is_gather row) || gather_fits bits st m sib) _ r2).1

registers_of : (bits : Bits) (row : Row) (st : PrefixState) (m : Option ModRm) (sib : Option Sib) → registers_fit bits row st m sib ≡ true → (list_all (register_fits bits st m) row.ops ≡ true) × (destination_fits row m ≡ true)
unfolding registers_fit
registers_of bits row st m sib h =
    let r1 = (and_parts (list_all (register_fits bits st m) row.ops) _ h).1 in
    ((and_parts (list_all (register_fits bits st m) row.ops) _ h).0, (and_parts (destination_fits row m) _ r1).0)

lengths_address : (bits : Bits) (row : Row) (st : PrefixState) (m : Option ModRm) (sib : Option Sib) (disp imm : ℕ) → lengths_fit bits row st m sib disp imm ≡ true → address_fits (state_address_size bits st) row m sib disp ≡ true
unfolding lengths_fit
lengths_address bits row st m sib disp imm h = (and_parts (address_fits (state_address_size bits st) row m sib disp) _ h).0

modrm_of : (row : Row) (opcode : ℕ) (m : Option ModRm) → opcode_and_modrm_fit row opcode m ≡ true → (opcode_fits row opcode ≡ true) × (modrm_rule_fits row.plus row.modrm m ≡ true) × (place_fits row m ≡ true)
unfolding opcode_and_modrm_fit
modrm_of row opcode m h =
    let r1 = (and_parts (opcode_fits row opcode) _ h).1 in
    ((and_parts (opcode_fits row opcode) _ h).0, (and_parts (modrm_rule_fits row.plus row.modrm m) _ r1).0, (and_parts (modrm_rule_fits row.plus row.modrm m) _ r1).1)

-- the tail of a fitting spelling has the parts that the row asks for
pub tail_is : (bits : Bits) (ip : ℕ) (row : Row) (s : Spelling) → Sound row → Fits bits row s → TailIs bits row (state_of bits row s) (tail_of bits ip row s)
tail_is bits ip row s sound f =
    let st = state_of bits row s in
    let o = modrm_of row s.opcode s.modrm f.opcode in
    let r = registers_of bits row st s.modrm s.sib f.registers in
    record {
      modrm = modrm_stands row.plus row.modrm s.modrm o.1;
      place = o.2;
      gather = gather_of bits row st s.modrm s.sib f.registers;
      sib = λ g. sib_stands (state_address_size bits st) row s.modrm s.sib (length s.disp.items) (lengths_address bits row st s.modrm s.sib _ _ f.lengths)
          (no_any_mode row (apart row sound.apart) g) (gather_needs bits st s.modrm s.sib (gather_of bits row st s.modrm s.sib f.registers g));
      registers = r.0;
      destination = r.1;
      nop = nop_of bits row st s.modrm s.sib f.registers;
      opcode = subst (λ (b : ℕ). opcode_fits row b ≡ true) (sym (state_opcode bits row s)) o.0;
    }

-- ---- each operand

-- the operand n of what was read
pub read_at : (bits : Bits) (code : Code) (row : Row) (st : PrefixState) (t : Tail) (imm : List ℕ) (n : ℕ) → n < 4 → form.operand_at (instr_of bits code row st t imm) n ≡ operand_by bits row st t (kind_at row n) (method_of (kind_at row n)) (own_immediate (state_size bits row st) row n imm)
unfolding instr_of operand_at
read_at bits code row st t imm zero h = refl
read_at bits code row st t imm (suc zero) h = refl
read_at bits code row st t imm (suc (suc zero)) h = refl
read_at bits code row st t imm (suc (suc (suc zero))) h = refl
read_at bits code row st t imm (suc (suc (suc (suc n)))) h = absurd (omega arith)

or_second : (a b : Bool) → b ≡ true → (a || b) ≡ true
or_second true b h = refl
or_second false b h = h

by_place : (place : Place) (m : ModRm) (test : Bool) (f g : Operand) → nat_lt m.mode3 3 ≡ test → place_allows place m ≡ true → is_memory f ≡ true → form.is_register g ≡ true → is_allowed_in place (if test then f else g) ≡ true
unfolding is_allowed_in place_allows
by_place AnyPlace m true f g e h hf hg = or_second (form.is_register f) (is_memory f) hf
by_place AnyPlace m false f g e h hf hg = or_left (form.is_register g) (is_memory g) hg
by_place OnlyMemory m true f g e h hf hg = hf
by_place OnlyMemory m false f g e h hf hg = cc
by_place OnlyRegister m true f g e h hf hg =
    let k : m.mode3 < 3 = ltb-true m.mode3 3 e in let l : m.mode3 ≡ 3 = eqb-true m.mode3 3 h in absurd (omega arith)
by_place OnlyRegister m false f g e h hf hg = hg

-- a ModRM without mod 3 is read as memory
pub memory_stands : (bits : Bits) (st : PrefixState) (m : Option ModRm) (sib : Option Sib) (disp : List ℕ) (next : ℕ) → is_some m ≡ true → is_memory (memory_operand bits st m sib disp next) ≡ true
unfolding memory_operand
memory_stands bits st None sib disp next h = h
memory_stands bits st (Some m) sib disp next h = refl

gather_stands : (bits : Bits) (row : Row) (st : PrefixState) (f : File) (m : Option ModRm) (sib : Option Sib) (disp : List ℕ) → is_some m ≡ true → is_some sib ≡ true → is_memory (with_modrm (λ m. gather_memory bits row st f m sib disp) m) ≡ true
unfolding gather_memory
gather_stands bits row st f None sib disp h k = h
gather_stands bits row st f (Some m) None disp h k = k
gather_stands bits row st f (Some m) (Some s) disp h k = refl

place_allows_of : (row : Row) (m : ModRm) → place_fits row (Some m) ≡ true → place_allows row.place m ≡ true
unfolding place_fits
place_allows_of row m h = (and_parts (place_allows row.place m) _ h).0

either_stands : (bits : Bits) (row : Row) (st : PrefixState) (f : File) (m : Option ModRm) (sib : Option Sib) (disp : List ℕ) (next : ℕ) → is_some m ≡ true → place_fits row m ≡ true → is_allowed_in row.place (if has_modrm (λ m. nat_lt m.mode3 3) m then memory_operand bits st m sib disp next else Reg (register_of bits row st f (rm_number bits st m))) ≡ true
either_stands bits row st f None sib disp next h k = cc
either_stands bits row st f (Some m) sib disp next h k =
    by_place row.place m (nat_lt m.mode3 3) _ _ refl (place_allows_of row m k) (memory_stands bits st (Some m) sib disp next refl) refl

-- an operand has a variant that its kind allows
variant_of : (bits : Bits) (row : Row) (st : PrefixState) (t : Tail) (kind : OpKind) (how : Method) (imm : List ℕ) → (reads_rm how ≡ true → is_some t.modrm ≡ true) → (is_gather how ≡ true → is_some t.sib ≡ true) → place_fits row t.modrm ≡ true → is_variant_of row.place how (operand_by bits row st t kind how imm) ≡ true
unfolding is_variant_of operand_by near_target far_pointer
variant_of bits row st t kind method.RegisterOrMemory imm hm hs hp = either_stands bits row st (file_of kind) t.modrm t.sib t.disp t.next (hm refl) hp
variant_of bits row st t kind method.MemoryOnly imm hm hs hp = memory_stands bits st t.modrm t.sib t.disp t.next (hm refl)
variant_of bits row st t kind method.Gather imm hm hs hp = gather_stands bits row st (file_of kind) t.modrm t.sib t.disp (hm refl) (hs refl)
variant_of bits row st t kind _ imm hm hs hp = refl

-- a kind of the row
pub reads_at : (p : Method → Bool) (row : Row) (n : ℕ) → has_four_operands row ≡ true → n < 4 → p (method_of (kind_at row n)) ≡ true → reads_by p row ≡ true
unfolding has_four_operands
reads_at p row n four h e = let k = eqb-true (length row.ops) 4 four in any_kind (λ kind. p (method_of kind)) row.ops n (omega arith) e

-- each operand that is read is of a variant that its kind allows
pub variant_at : (bits : Bits) (ip : ℕ) (code : Code) (row : Row) (s : Spelling) → Sound row → Fits bits row s → (n : ℕ) → n < 4 → kind_suits row (read bits ip code row s) n ≡ true
unfolding kind_suits
variant_at bits ip code row s sound f n h =
    let st = state_of bits row s in
    let t = tail_of bits ip row s in
    let tail = tail_is bits ip row s sound f in
    let p = placed row sound.operands sound.plus in
    let four = sound.four_operands in
    let e = read_at bits code row st t s.imm.items n h in
    subst (λ (x : Operand). is_variant_of row.place (method_of (kind_at row n)) x ≡ true) (sym e)
    (variant_of bits row st t (kind_at row n) (method_of (kind_at row n)) _
    (λ r. tail.modrm (p.rm (reads_at reads_rm row n four h r)))
    (λ g. tail.sib (reads_at is_gather row n four h g)) tail.place)

-- **each operand has a variant that its kind allows**
pub kinds_suit : (bits : Bits) (ip : ℕ) (code : Code) (row : Row) (s : Spelling) (i : Instr) → Given bits ip code row s i → each_operand (kind_suits row i) ≡ true
kinds_suit bits ip code row s i g =
    subst (λ (x : Instr). each_operand (kind_suits row x) ≡ true) (read_is bits ip code row s i g)
    (each-from (kind_suits row (read bits ip code row s)) (variant_at bits ip code row s g.is_sound g.fitting))
