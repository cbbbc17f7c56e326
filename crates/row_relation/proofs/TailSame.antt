-- ModRM and SIB of a plain spelling are the constructed ones of what it means.
use Rattle.std.proofs.Common.{◌≡◌, inl, inr, ℕ, zero, suc, ◌+◌, ◌*◌, ◌/◌, ◌%◌, ◌<◌, Bool, true, false, ◌&&◌, ◌||◌, not, ◌==◌, List, length, Option, Some, None, is_none, refl, ap, sym, ◌∙◌, subst, arith}
use Rattle.std.proofs.lemmas.Bool.{and_parts, cases_Bool, eqb-true}
use Rattle.std.specs.List.{list_all}
use borrow.Author.Tests.{ltb-true}
use Rattle.x86_values.specs.declared.Bits.{Bits}
use Rattle.x86_values.specs.declared.Code.{Code}
use Rattle.x86_values.specs.declared.Operand.{Operand}
use Rattle.x86_values.specs.declared.Operand.TheVariants.{Reg}
use Rattle.x86_values.specs.declared.Instr.{Instr}
use Rattle.x86_values.specs.Registers.{segment_number}
use Rattle.instruction_parts.specs.declared.row_types.Row.{Row}
use Rattle.instruction_parts.specs.declared.row_types.Place.{Place}
use Rattle.instruction_parts.specs.declared.row_types.Plus.{Plus}
use Rattle.instruction_parts.specs.declared.row_types.Plus.TheVariants.{No as NoPlus, Register as PlusRegister, Stack as PlusStack}
use Rattle.instruction_parts.specs.declared.row_types.ModRmRule.{ModRmRule}
use Rattle.instruction_parts.specs.declared.row_types.ModRmRule.TheVariants.{No as NoModRm, Any as AnyModRm, Digit, Fixed as FixedByte}
use Rattle.instruction_parts.specs.declared.row_types.OpKind.{OpKind}
use Rattle.instruction_parts.specs.declared.row_types.OpKind.TheVariants.{Absent, Sw, Es, Cs, Ss, Ds, Fs, Gs}
use Rattle.instruction_parts.specs.declared.kinds.Method.{Method}
use Rattle.instruction_parts.specs.declared.kinds.Method.TheVariants as method
use Rattle.instruction_parts.specs.declared.spelling.ModRm.{ModRm}
use Rattle.instruction_parts.specs.declared.spelling.Sib.{Sib}
use Rattle.instruction_parts.specs.declared.spelling.Spelling.{Spelling}
use Rattle.instruction_parts.specs.declared.spelling.PrefixState.{PrefixState}
use Rattle.instruction_parts.specs.Kinds.{method_of, file_of}
use Rattle.instruction_parts.specs.Sizes.{bit_r, state_size}
use Rattle.instruction_parts.specs.Bytes.{state_of, modrm_byte}
use Rattle.row_fit.specs.Fits.{reads_by, with_high_bit, reg_number, address_fits, is_fixed_byte, modrm_rule_fits, register_fits, registers_fit, kind_at}
use Rattle.row_fit.specs.Sound.{reads_reg, reads_rm}
use Rattle.row_meaning.specs.Meaning.{Tail, tail_of, operand_by, own_immediate, register_of, segment_numbered}
use Rattle.plain_spelling.specs.Forms.{is_variant_of, is_register, operand_at}
use Rattle.plain_spelling.specs.PlainFront.{register_number, operand_number, base_or_register_number, number_in_reg, number_in_rm, number_asked_of}
use Rattle.plain_spelling.specs.declared.addresses.AddressFields.{AddressFields}
use Rattle.plain_spelling.specs.PlainTail.{modrm_with, fixed_rm, plain_modrm, plain_sib_of}
use Rattle.plain_spelling.specs.Writable.{rule_is_plain, is_register_only}
use Rattle.row_relation.proofs.AddressCases.{impossible}
use Rattle.plain_spelling.proofs.Asked.{four_kinds, asked_reg-at, asked_reg-none, asked_rm-at}
use Rattle.row_relation.proofs.FitNumbers.{kind_that_passes}
use Rattle.row_relation.proofs.FitPlaces.{modrm_none, modrm_any, modrm_digit, modrm_fixed, sib_any, sib_digit, fixed_mode_is, reads_b_of_rm}
use Rattle.row_relation.proofs.FitRegisters.{register_variant, variant-at}
use Rattle.row_relation.specs.GivenSpelling.{Given}
use Rattle.row_relation.proofs.NeedWalking.{all_kinds}
use Rattle.row_relation.proofs.NeedUsed.{read_is}
use Rattle.row_relation.proofs.NeedVariants.{read_at, kinds_suit}
use Rattle.row_relation.proofs.NeedReadShapes.{extended_low}
use Rattle.row_relation.proofs.NeedReadTails.{rule_of}
use Rattle.row_relation.proofs.NeedAddresses.{spelled_asize}
use Rattle.row_relation.specs.IsPlain.{IsPlain, reg_is_read, rm_is_read, lone_is_zero}
use Rattle.row_relation.proofs.Addresses.{fields}
use Rattle.row_relation.proofs.RmSame.{is_segment_file, low_kept, RegIs, register_at, Small, small_at, address_part, is_none_from, sib_without, needs_none, fields_are}

-- ---- reg

segment_kept : (n : ℕ) → n < 6 → segment_number (segment_numbered n) ≡ n
unfolding segment_numbered
segment_kept zero h = refl
segment_kept (suc zero) h = refl
segment_kept (suc (suc zero)) h = refl
segment_kept (suc (suc (suc zero))) h = refl
segment_kept (suc (suc (suc (suc zero)))) h = refl
segment_kept (suc (suc (suc (suc (suc zero))))) h = refl
segment_kept (suc (suc (suc (suc (suc (suc n)))))) h = absurd (omega arith)

abbrev is_segment_kind : OpKind → Bool
is_segment_kind Sw = true
is_segment_kind _ = false

-- a register in reg is a segment register by its kind alone
reg_file : (kind : OpKind) → reads_reg (method_of kind) ≡ true → is_segment_kind kind ≡ false → is_segment_file (file_of kind) ≡ false
unfolding method_of file_of
reg_file Sw h k = impossible k
reg_file Es h k = impossible (sym h)
reg_file Cs h k = impossible (sym h)
reg_file Ss h k = impossible (sym h)
reg_file Ds h k = impossible (sym h)
reg_file Fs h k = impossible (sym h)
reg_file Gs h k = impossible (sym h)
reg_file _ h k = refl

segment_low : (bits : Bits) (row : Row) (st : PrefixState) (b : Bool) (reg : ℕ) → reg < 6 → register_number (register_of bits row st (file_of Sw) (with_high_bit b reg)) % 8 ≡ reg
unfolding file_of register_of register_number
segment_low bits row st b reg small =
    let low : with_high_bit b reg % 8 ≡ reg = extended_low b reg (omega arith) in
    let kept : segment_number (segment_numbered (with_high_bit b reg % 8)) ≡ reg = ap (λ (x : ℕ). segment_number (segment_numbered x)) low ∙ segment_kept reg small in
    ap (λ (x : ℕ). x % 8) kept ∙ below
  where
    below : reg % 8 ≡ reg
    below = omega arith

reg_low : (bits : Bits) (row : Row) (st : PrefixState) (kind : OpKind) (m : ModRm) → reads_reg (method_of kind) ≡ true → m.reg < 8 → register_fits bits st (Some m) kind ≡ true → register_number (register_of bits row st (file_of kind) (reg_number st (Some m))) % 8 ≡ m.reg
unfolding reg_number register_fits
reg_low bits row st Sw m h small f = segment_low bits row st (bit_r st) m.reg (ltb-true m.reg 6 f)
reg_low bits row st kind m h small f = low_kept bits row st (file_of kind) (with_high_bit (bit_r st) m.reg) (reg_file kind h refl) ∙ extended_low (bit_r st) m.reg small

reg_operand : (bits : Bits) (row : Row) (st : PrefixState) (t : Tail) (kind : OpKind) (how : Method) (imm : List ℕ) (m : ModRm) → method_of kind ≡ how → t.modrm ≡ Some m → reads_reg how ≡ true → m.reg < 8 → register_fits bits st (Some m) kind ≡ true → operand_number (operand_by bits row st t kind how imm) % 8 ≡ m.reg
unfolding operand_by
reg_operand bits row st t kind method.ModRmReg imm m e k r small f =
    subst (λ (o : Option ModRm). register_number (register_of bits row st (file_of kind) (reg_number st o)) % 8 ≡ m.reg) (sym k) (reg_low bits row st kind m (ap reads_reg e) small f)
reg_operand bits row st t kind _ imm m e k r small f = impossible (sym r)

registers_part : (bits : Bits) (row : Row) (st : PrefixState) (m : Option ModRm) (sib : Option Sib) → registers_fit bits row st m sib ≡ true → list_all (register_fits bits st m) row.ops ≡ true
unfolding registers_fit
registers_part bits row st m sib h = (and_parts (list_all (register_fits bits st m) row.ops) _ h).0

reg_at : (bits : Bits) (ip : ℕ) (code : Code) (row : Row) (s : Spelling) (i : Instr) (n : ℕ) (m : ModRm) → Given bits ip code row s i → n < 4 → reads_reg (method_of (kind_at row n)) ≡ true → s.modrm ≡ Some m → operand_number (operand_at i n) % 8 ≡ m.reg
reg_at bits ip code row s i n m g below reads e =
    let st = state_of bits row s in
    let t = tail_of bits ip row s in
    let small = small_at bits ip code row s i m g e in
    let four = four_kinds row g.is_sound in
    let f = all_kinds (register_fits bits st (Some m)) row.ops n (omega arith) (subst (λ (o : Option ModRm). list_all (register_fits bits st o) row.ops ≡ true) e (registers_part bits row st s.modrm s.sib g.fitting.registers)) in
    ap (λ (x : Instr). operand_number (operand_at x n) % 8) (sym (read_is bits ip code row s i g))
    ∙ ap (λ (x : Operand). operand_number x % 8) (read_at bits code row st t s.imm.items n below)
    ∙ reg_operand bits row st t (kind_at row n) (method_of (kind_at row n)) (own_immediate (state_size bits row st) row n s.imm.items) m refl e reads small.reg f

or_right : (a b : Bool) → a ≡ false → (a || b) ≡ true → b ≡ true
or_right true b n h = impossible n
or_right false b n h = h

reg_read : (row : Row) (m : ModRm) → row.modrm ≡ AnyModRm → reg_is_read row (Some m) ≡ true → (reads_by reads_reg row || m.reg == 0) ≡ true
unfolding reg_is_read
reg_read row m e h = rw e at h

reg_same : (bits : Bits) (ip : ℕ) (code : Code) (row : Row) (s : Spelling) (i : Instr) (m : ModRm) → Given bits ip code row s i → length i.ops ≡ 4 → IsPlain bits ip row s → s.modrm ≡ Some m → row.modrm ≡ AnyModRm → number_asked_of number_in_reg row i % 8 ≡ m.reg
reg_same bits ip code row s i m g four p e rule = elim (cases_Bool (reads_by reads_reg row)) [
  | inr none ↦ (let z = eqb-true m.reg 0 (or_right (reads_by reads_reg row) (m.reg == 0) none (reg_read row m rule (subst (λ (o : Option ModRm). reg_is_read row o ≡ true) e p.reg))) in
      ap (λ (x : ℕ). x % 8) (asked_reg-none row i none) ∙ sym z)
  | inl some ↦ (let k = kind_that_passes (λ kind. reads_reg (method_of kind)) row.ops Absent some in
      let kinds = four_kinds row g.is_sound in
      let below : k.0 < 4 = omega (arith, k.1, kinds) in
      ap (λ (x : ℕ). x % 8) (asked_reg-at row i k.0 g.is_sound four below k.2) ∙ reg_at bits ip code row s i k.0 m g below k.2 e)
]

-- ---- ModRM and SIB

-- what of ModRM and SIB is the constructed one
pub record TailSame (bits : Bits) (row : Row) (s : Spelling) (i : Instr) : Type 0 where
  pub modrm : s.modrm ≡ plain_modrm bits row i
  pub sib : s.sib ≡ plain_sib_of bits row i

abbrev modrm_of : ℕ → ℕ → ℕ → ModRm
modrm_of mode3 reg rm = record { mode3 = mode3; reg = reg; rm = rm }

same_parts : (a a1 b b1 c c1 : ℕ) → a ≡ a1 → b ≡ b1 → c ≡ c1 → modrm_of a b c ≡ modrm_of a1 b1 c1
same_parts a a1 b b1 c c1 ha hb hc = ap (λ (x : ℕ). modrm_of x b c) ha ∙ ap (λ (x : ℕ). modrm_of a1 x c) hb ∙ ap (λ (x : ℕ). modrm_of a1 b1 x) hc

same_modrm : (m : ModRm) (reg : ℕ) (f : AddressFields) (sib : Option Sib) → reg ≡ m.reg → f ≡ fields m.mode3 m.rm sib → Some m ≡ Some (modrm_with reg f)
same_modrm m reg f sib hr hf =
    sym (ap (λ (x : ℕ). Some (modrm_with x f)) hr ∙ ap (λ (x : AddressFields). Some (modrm_with m.reg x)) hf)

-- what a rule asks of ModRM where no operand is in r/m
abbrev lone_by : ModRmRule → Bool → Bool
lone_by rule lone = elim rule [ AnyModRm ↦ lone | Digit d ↦ lone | _ ↦ true ]

lone_rule : (row : Row) (m : Option ModRm) → rm_is_read row m ≡ lone_by row.modrm (lone_is_zero row m)
unfolding rm_is_read
lone_rule row m = refl

lone_any : (row : Row) (m : Option ModRm) → row.modrm ≡ AnyModRm → rm_is_read row m ≡ true → lone_is_zero row m ≡ true
lone_any row m e h = sym (ap (λ (r : ModRmRule). lone_by r (lone_is_zero row m)) e) ∙ sym (lone_rule row m) ∙ h

lone_digit : (row : Row) (m : Option ModRm) (d : ℕ) → row.modrm ≡ Digit d → rm_is_read row m ≡ true → lone_is_zero row m ≡ true
lone_digit row m d e h = sym (ap (λ (r : ModRmRule). lone_by r (lone_is_zero row m)) e) ∙ sym (lone_rule row m) ∙ h

of_any : (bits : Bits) (ip : ℕ) (code : Code) (row : Row) (s : Spelling) (i : Instr) (o : Option ModRm) → Given bits ip code row s i → length i.ops ≡ 4 → IsPlain bits ip row s → row.modrm ≡ AnyModRm → s.modrm ≡ o → modrm_rule_fits row.plus AnyModRm o ≡ true → TailSame bits row s i
unfolding modrm_rule_fits
of_any bits ip code row s i None g four p rule e h = impossible (sym h)
of_any bits ip code row s i (Some m) g four p rule e h =
    let lone = subst (λ (x : Option ModRm). lone_is_zero row x ≡ true) e (lone_any row s.modrm rule p.rm) in
    let f = fields_are bits ip code row s i m g four p e lone in
    record {
      modrm = e ∙ same_modrm m _ _ s.sib (reg_same bits ip code row s i m g four p e rule) f ∙ sym (modrm_any bits row i rule);
      sib = sym (sib_any bits row i rule ∙ ap (λ (x : AddressFields). x.sib) f);
    }

of_digit : (bits : Bits) (ip : ℕ) (code : Code) (row : Row) (s : Spelling) (i : Instr) (d : ℕ) (o : Option ModRm) → Given bits ip code row s i → length i.ops ≡ 4 → IsPlain bits ip row s → row.modrm ≡ Digit d → s.modrm ≡ o → modrm_rule_fits row.plus (Digit d) o ≡ true → TailSame bits row s i
unfolding modrm_rule_fits
of_digit bits ip code row s i d None g four p rule e h = impossible (sym h)
of_digit bits ip code row s i d (Some m) g four p rule e h =
    let lone = subst (λ (x : Option ModRm). lone_is_zero row x ≡ true) e (lone_digit row s.modrm d rule p.rm) in
    let f = fields_are bits ip code row s i m g four p e lone in
    record {
      modrm = e ∙ same_modrm m d _ s.sib (sym (eqb-true m.reg d h)) f ∙ sym (modrm_digit bits row i d rule);
      sib = sym (sib_digit bits row i d rule ∙ ap (λ (x : AddressFields). x.sib) f);
    }

-- a fixed byte
of_byte : (m : ModRm) (b : ℕ) → Small m → (modrm_byte m == b) ≡ true → (m.mode3 ≡ b / 64) × (m.reg ≡ b / 8 % 8) × (m.rm ≡ b % 8)
of_byte m b z h =
    let e = eqb-true (modrm_byte m) b h in
    let h1 = z.mode3 in let h2 = z.reg in let h3 = z.rm in
    (omega arith, omega arith, omega arith)

of_stack : (m : ModRm) (b : ℕ) → Small m → (m.mode3 * 64 + m.reg * 8 == b) ≡ true → (m.mode3 ≡ b / 64) × (m.reg ≡ b / 8 % 8)
of_stack m b z h =
    let e = eqb-true (m.mode3 * 64 + m.reg * 8) b h in
    let h1 = z.mode3 in let h2 = z.reg in
    (omega arith, omega arith)

fixed_by : (row : Row) (i : Instr) (b : ℕ) (plus : Plus) → row.plus ≡ plus → (elim plus [ PlusStack ↦ true | _ ↦ false ]) ≡ false → fixed_rm row i b ≡ b % 8
unfolding fixed_rm
fixed_by row i b NoPlus e h = rw e refl
fixed_by row i b PlusRegister e h = rw e refl
fixed_by row i b PlusStack e h = impossible h

fixed_stack : (row : Row) (i : Instr) (b : ℕ) → row.plus ≡ PlusStack → fixed_rm row i b ≡ number_asked_of number_in_rm row i % 8
unfolding fixed_rm
fixed_stack row i b e = rw e refl

abbrev plain_by : Plus → Bool → Bool → Bool
plain_by plus only rm = elim plus [ PlusStack ↦ only | _ ↦ not rm ]

abbrev plain_rule : ModRmRule → Plus → Bool → Bool → Bool → Bool
plain_rule rule plus reg only rm = elim rule [ Digit d ↦ not reg | FixedByte b ↦ not reg && plain_by plus only rm | _ ↦ true ]

rule_is : (row : Row) → rule_is_plain row ≡ plain_rule row.modrm row.plus (reads_by reads_reg row) (reads_by is_register_only row) (reads_by reads_rm row)
unfolding rule_is_plain
rule_is row = refl

stack_reads : (row : Row) (b : ℕ) → rule_is_plain row ≡ true → row.modrm ≡ FixedByte b → row.plus ≡ PlusStack → reads_by is_register_only row ≡ true
stack_reads row b h e k =
    let z : plain_rule (FixedByte b) PlusStack (reads_by reads_reg row) (reads_by is_register_only row) (reads_by reads_rm row) ≡ true =
    sym (ap (λ (r : ModRmRule). plain_rule r PlusStack (reads_by reads_reg row) (reads_by is_register_only row) (reads_by reads_rm row)) e)
    ∙ sym (ap (λ (p : Plus). plain_rule row.modrm p (reads_by reads_reg row) (reads_by is_register_only row) (reads_by reads_rm row)) k) ∙ sym (rule_is row) ∙ h in
    (and_parts (not (reads_by reads_reg row)) (reads_by is_register_only row) z).1

register_only_reads : (how : Method) → is_register_only how ≡ true → reads_rm how ≡ true
register_only_reads method.RegisterOnly h = refl
register_only_reads _ h = impossible (sym h)

register_only_variant : (place : Place) (how : Method) (op : Operand) → is_register_only how ≡ true → is_variant_of place how op ≡ true → is_register op ≡ true
unfolding is_variant_of
register_only_variant place method.RegisterOnly op h k = k
register_only_variant place _ op h k = impossible (sym h)

stack_rm : (bits : Bits) (ip : ℕ) (code : Code) (row : Row) (s : Spelling) (i : Instr) (m : ModRm) → Given bits ip code row s i → length i.ops ≡ 4 → s.modrm ≡ Some m → reads_by is_register_only row ≡ true → number_asked_of number_in_rm row i % 8 ≡ m.rm
stack_rm bits ip code row s i m g four e some =
    let k = kind_that_passes (λ kind. is_register_only (method_of kind)) row.ops Absent some in
    let kinds = four_kinds row g.is_sound in
    let below : k.0 < 4 = omega (arith, k.1, kinds) in
    let how = method_of (kind_at row k.0) in
    let reads = register_only_reads how k.2 in
    let r = register_variant (operand_at i k.0) (register_only_variant row.place how (operand_at i k.0) k.2 (variant-at row i k.0 (kinds_suit bits ip code row s i g) below)) in
    let a : RegIs m how (Reg r.0) = subst (λ (x : Operand). RegIs m how x) r.1 (register_at bits ip code row s i k.0 m g below reads e) in
    ap (λ (x : ℕ). x % 8) (asked_rm-at row i k.0 g.is_sound four below (reads_b_of_rm how reads) ∙ ap base_or_register_number r.1) ∙ a.0

fixed_sib : (bits : Bits) (row : Row) (i : Instr) (b : ℕ) → row.modrm ≡ FixedByte b → plain_sib_of bits row i ≡ None
unfolding plain_sib_of
fixed_sib bits row i b e = rw e refl

none_plain_sib : (bits : Bits) (row : Row) (i : Instr) → row.modrm ≡ NoModRm → plain_sib_of bits row i ≡ None
unfolding plain_sib_of
none_plain_sib bits row i e = rw e refl

of_fixed : (bits : Bits) (ip : ℕ) (code : Code) (row : Row) (s : Spelling) (i : Instr) (b : ℕ) (o : Option ModRm) (plus : Plus) → Given bits ip code row s i → length i.ops ≡ 4 → row.modrm ≡ FixedByte b → s.modrm ≡ o → row.plus ≡ plus → modrm_rule_fits plus (FixedByte b) o ≡ true → TailSame bits row s i
unfolding modrm_rule_fits
of_fixed bits ip code row s i b None plus g four rule e k h = impossible (sym h)
of_fixed bits ip code row s i b (Some m) plus g four rule e k h = by_plus plus k h
  where
    z : Small m
    z = small_at bits ip code row s i m g e

    done : m.mode3 ≡ b / 64 → m.reg ≡ b / 8 % 8 → m.rm ≡ fixed_rm row i b → TailSame bits row s i
    done mode reg rm = record {
      modrm = e ∙ ap (λ (x : ModRm). Some x) (same_parts m.mode3 (b / 64) m.reg (b / 8 % 8) m.rm (fixed_rm row i b) mode reg rm) ∙ sym (modrm_fixed bits row i b rule);
      sib = sib_without (spelled_asize bits row s) row m s.sib (length s.disp.items) (subst (λ (o : Option ModRm). address_fits (spelled_asize bits row s) row o s.sib (length s.disp.items) ≡ true) e (address_part bits ip code row s i g))
          (needs_none (spelled_asize bits row s) m (mode ∙ fixed_mode_is row b g.is_sound rule)) ∙ sym (fixed_sib bits row i b rule);
    }

    by_plus : (plus : Plus) → row.plus ≡ plus → is_fixed_byte plus b m ≡ true → TailSame bits row s i
    by_plus NoPlus k h = (let t = of_byte m b z h in done t.0 t.1 (t.2 ∙ sym (fixed_by row i b NoPlus k refl)))
    by_plus PlusRegister k h = (let t = of_byte m b z h in done t.0 t.1 (t.2 ∙ sym (fixed_by row i b PlusRegister k refl)))
    by_plus PlusStack k h = (let t = of_stack m b z h in done t.0 t.1 (sym (stack_rm bits ip code row s i m g four e (stack_reads row b g.is_writable.rule rule k)) ∙ sym (fixed_stack row i b k)))

-- without a ModRM
no_sib : (asize : Bits) (row : Row) (sib : Option Sib) (given : ℕ) → address_fits asize row None sib given ≡ true → sib ≡ None
unfolding address_fits
no_sib asize row sib given h = is_none_from sib (and_parts (is_none sib) _ h).0

of_none : (bits : Bits) (ip : ℕ) (code : Code) (row : Row) (s : Spelling) (i : Instr) → Given bits ip code row s i → row.modrm ≡ NoModRm → s.modrm ≡ None → TailSame bits row s i
of_none bits ip code row s i g rule e = record {
  modrm = e ∙ sym (modrm_none bits row i rule);
  sib = no_sib (spelled_asize bits row s) row s.sib (length s.disp.items) (subst (λ (o : Option ModRm). address_fits (spelled_asize bits row s) row o s.sib (length s.disp.items) ≡ true) e (address_part bits ip code row s i g)) ∙ sym (none_plain_sib bits row i rule);
}

none_rule : (plus : Plus) (o : Option ModRm) → modrm_rule_fits plus NoModRm o ≡ true → o ≡ None
unfolding modrm_rule_fits
none_rule plus o h = is_none_from o h

-- **ModRM and SIB are the constructed ones**
pub tail_same : (bits : Bits) (ip : ℕ) (code : Code) (row : Row) (s : Spelling) (i : Instr) → Given bits ip code row s i → length i.ops ≡ 4 → IsPlain bits ip row s → TailSame bits row s i
tail_same bits ip code row s i g four p = go row.modrm refl (rule_of row s.opcode s.modrm g.fitting.opcode)
  where
    go : (rule : ModRmRule) → row.modrm ≡ rule → modrm_rule_fits row.plus row.modrm s.modrm ≡ true → TailSame bits row s i
    go NoModRm e h = of_none bits ip code row s i g e (none_rule row.plus s.modrm (ap (λ (r : ModRmRule). modrm_rule_fits row.plus r s.modrm) (sym e) ∙ h))
    go AnyModRm e h = of_any bits ip code row s i s.modrm g four p e refl (ap (λ (r : ModRmRule). modrm_rule_fits row.plus r s.modrm) (sym e) ∙ h)
    go (Digit d) e h = of_digit bits ip code row s i d s.modrm g four p e refl (ap (λ (r : ModRmRule). modrm_rule_fits row.plus r s.modrm) (sym e) ∙ h)
    go (FixedByte b) e h = of_fixed bits ip code row s i b s.modrm row.plus g four e refl refl (ap (λ (r : ModRmRule). modrm_rule_fits row.plus r s.modrm) (sym e) ∙ h)
