-- **The constructed spelling is plain.**
use Rattle.std.proofs.Common.{◌≡◌, inl, inr, ℕ, ◌<◌, true, false, Option, Some, None, refl, ap, sym, ◌∙◌, subst, arith}
use Rattle.std.proofs.lemmas.Bool.{cases_Bool}
use Rattle.x86_values.specs.declared.Bits.{Bits}
use Rattle.x86_values.specs.declared.Mem.{Mem}
use Rattle.x86_values.specs.declared.Operand.{Operand}
use Rattle.x86_values.specs.declared.Operand.TheVariants.{Absent as AbsentOperand, Reg, Mem as MemOperand, Imm, Near, Far}
use Rattle.x86_values.specs.declared.Instr.{Instr}
use Rattle.instruction_parts.specs.declared.row_types.Row.{Row}
use Rattle.instruction_parts.specs.declared.row_types.OpKind.TheVariants.{Absent}
use Rattle.instruction_parts.specs.declared.row_types.ModRmRule.{ModRmRule}
use Rattle.instruction_parts.specs.declared.row_types.ModRmRule.TheVariants.{No as NoModRm, Any as AnyModRm, Digit, Fixed as FixedByte}
use Rattle.instruction_parts.specs.declared.spelling.ModRm.{ModRm}
use Rattle.instruction_parts.specs.declared.spelling.Sib.{Sib}
use Rattle.instruction_parts.specs.declared.spelling.PrefixState.{PrefixState}
use Rattle.instruction_parts.specs.Kinds.{method_of}
use Rattle.instruction_parts.specs.Sizes.{shared_bit, bit_r, bit_x}
use Rattle.instruction_parts.specs.Bytes.{state_of}
use Rattle.row_fit.specs.Fits.{reads_by, kind_at}
use Rattle.row_fit.specs.Sound.{reads_rm}
use Rattle.plain_spelling.specs.Forms.{operand_at}
use Rattle.plain_spelling.specs.PlainFront.{asked_rex, asked_vex, plain_front_of}
use Rattle.plain_spelling.specs.Addresses.{address_fields, written_size}
use Rattle.plain_spelling.specs.PlainTail.{modrm_with, rm_operand, rm_fields, fields_of, plain_modrm, plain_sib_of, plain_spelling}
use Rattle.row_relation.proofs.AddressCases.{impossible}
use Rattle.plain_spelling.proofs.Asked.{four_kinds, rm_operand-at, rm_operand-none}
use Rattle.row_relation.specs.Given.{Given}
use Rattle.row_relation.proofs.FitNumbers.{numbers_suit, kind_that_passes}
use Rattle.row_relation.proofs.FitPlaces.{memory_in_rm}
use Rattle.row_relation.proofs.NeedStates.{StateIs, state_is}
use Rattle.row_relation.proofs.NeedAddresses.{spelled_asize}
use Rattle.row_relation.specs.IsPlain.{IsPlain, only_if, needs_r, needs_x, needs_b, needs_w, sib_is_needed, scale_is_read}
use Rattle.row_relation.proofs.Bits.{needs_are, meant_are}
use Rattle.row_relation.proofs.FrontIs.{front_fits, own_state, given_of, prefixes_plain, r_plain, x_plain, b_plain, w_plain, rex_plain, vex_plain, l_plain, vvvv_plain}
use Rattle.row_relation.proofs.TailIs.{reg_plain, rm_plain, mode_plain, last_plain}
use Rattle.row_relation.proofs.Rm.{AddressIs, OperandIs, address_at, written_at}

-- ---- the SIB

abbrev sib_of : ModRmRule → Option Sib → Option Sib
sib_of rule sib = elim rule [ NoModRm ↦ None | AnyModRm ↦ sib | Digit d ↦ sib | FixedByte b ↦ None ]

sib_by : (rule : ModRmRule) (sib : Option Sib) → sib ≡ None → sib_of rule sib ≡ None
sib_by NoModRm sib h = refl
sib_by AnyModRm sib h = h
sib_by (Digit d) sib h = h
sib_by (FixedByte b) sib h = refl

no_sib : (bits : Bits) (row : Row) (i : Instr) → (fields_of bits row i).sib ≡ None → plain_sib_of bits row i ≡ None
unfolding plain_sib_of
no_sib bits row i h = sib_by row.modrm (fields_of bits row i).sib h

-- what is no memory has no SIB
only_memory : (bits : Bits) (row : Row) (i : Instr) (op : Operand) (P : Type 0) → rm_operand row i ≡ op → ((mem : Mem) → op ≡ MemOperand mem → P) → (plain_sib_of bits row i ≡ None → P) → P
unfolding rm_fields
only_memory bits row i AbsentOperand P e h k = k (no_sib bits row i (ap (λ (x : Operand). (rm_fields bits i.asize row.place x).sib) e))
only_memory bits row i (Reg r) P e h k = k (no_sib bits row i (ap (λ (x : Operand). (rm_fields bits i.asize row.place x).sib) e))
only_memory bits row i (MemOperand mem) P e h k = h mem refl
only_memory bits row i (Imm x) P e h k = k (no_sib bits row i (ap (λ (x : Operand). (rm_fields bits i.asize row.place x).sib) e))
only_memory bits row i (Near x) P e h k = k (no_sib bits row i (ap (λ (x : Operand). (rm_fields bits i.asize row.place x).sib) e))
only_memory bits row i (Far a b) P e h k = k (no_sib bits row i (ap (λ (x : Operand). (rm_fields bits i.asize row.place x).sib) e))

-- the SIB of a spelling is needed, and its scale
abbrev SibHolds : Bits → Row → PrefixState → Option ModRm → Option Sib → Type 0
SibHolds bits row st m sib = (sib_is_needed bits row st m sib ≡ true) × (scale_is_read row st sib ≡ true)

without : (bits : Bits) (row : Row) (st : PrefixState) (m : Option ModRm) (sib : Option Sib) → sib ≡ None → SibHolds bits row st m sib
unfolding sib_is_needed scale_is_read
without bits row st m sib e = rw e (refl, refl)

own_sib : (bits : Bits) (ip : ℕ) (row : Row) (i : Instr) → ((plain_spelling bits ip row i).sib ≡ plain_sib_of bits row i) × ((plain_spelling bits ip row i).modrm ≡ plain_modrm bits row i)
unfolding plain_spelling
own_sib bits ip row i = (refl, refl)

of_memory : (bits : Bits) (ip : ℕ) (row : Row) (i : Instr) (n : ℕ) (mem : Mem) → Given bits ip row i → n < 4 → reads_rm (method_of (kind_at row n)) ≡ true → operand_at i n ≡ MemOperand mem
    → (let s = plain_spelling bits ip row i in SibHolds bits row (state_of bits row s) s.modrm s.sib)
of_memory bits ip row i n mem g below reads e =
    let s = plain_spelling bits ip row i in
    let st = state_of bits row s in
    let own = own_sib bits ip row i in
    let p = memory_in_rm bits row i n mem g.is_sound g.is_writable.rule g.four g.suits.kinds below reads e in
    let m = modrm_with p.reg (address_fields bits (written_size bits i.asize mem) mem) in
    let is : s.modrm ≡ Some m = own.1 ∙ p.modrm in
    let n1 = given_of bits ip row i g in
    let a : AddressIs bits row st m s.sib (spelled_asize bits row s) mem =
    subst (λ (x : Operand). OperandIs bits row st m s.sib (spelled_asize bits row s) x) e (address_at bits ip i.code row s i n m n1 below reads is) in
    let w = written_at bits ip i.code row s i n mem n1 below e in
    subst (λ (o : Option ModRm). SibHolds bits row st o s.sib) (sym is)
    (a.back (sym (own.0 ∙ p.sib ∙ ap (λ (z : Bits). (address_fields bits z mem).sib) w)))

sib_holds : (bits : Bits) (ip : ℕ) (row : Row) (i : Instr) → Given bits ip row i → (let s = plain_spelling bits ip row i in SibHolds bits row (state_of bits row s) s.modrm s.sib)
sib_holds bits ip row i g =
    let s = plain_spelling bits ip row i in
    let st = state_of bits row s in
    let own = own_sib bits ip row i in
    let none = λ (h : plain_sib_of bits row i ≡ None). without bits row st s.modrm s.sib (own.0 ∙ h) in
    elim (cases_Bool (reads_by reads_rm row)) [
      | inr never ↦ only_memory bits row i AbsentOperand (SibHolds bits row st s.modrm s.sib) (rm_operand-none row i never) (λ mem h. impossible (let z : true ≡ false = cc in z)) none
      | inl some ↦ (let k = kind_that_passes (λ kind. reads_rm (method_of kind)) row.ops Absent some in
          let four = four_kinds row g.is_sound in
          let below : k.0 < 4 = omega (arith, k.1, four) in
          only_memory bits row i (operand_at i k.0) (SibHolds bits row st s.modrm s.sib) (rm_operand-at row i k.0 g.is_sound g.four below k.2)
          (λ mem h. of_memory bits ip row i k.0 mem g below k.2 h) none)
    ]

-- ---- all of it

own_vex : (bits : Bits) (ip : ℕ) (row : Row) (i : Instr) → (plain_spelling bits ip row i).vex ≡ asked_vex row i
unfolding plain_spelling plain_front_of
own_vex bits ip row i = refl

front_rex : (bits : Bits) (row : Row) (i : Instr) → (plain_front_of bits row i).rex ≡ asked_rex row i
unfolding plain_front_of
front_rex bits row i = refl

-- **the constructed spelling is plain wherever the conditions 1 to 9 hold**
pub plain_is : (bits : Bits) (ip : ℕ) (row : Row) (i : Instr) → Given bits ip row i → IsPlain bits ip row (plain_spelling bits ip row i)
plain_is bits ip row i g =
    let s = plain_spelling bits ip row i in
    let st = state_of bits row s in
    let f = front_fits bits ip row i g in
    let e : st ≡ plain_front_of bits row i = own_state bits ip row i f in
    let n = given_of bits ip row i g in
    let z = state_is bits row s n.fitting in
    let zp : StateIs bits row (plain_front_of bits row i) = subst (StateIs bits row) e z in
    let needs = needs_are bits ip i.code row s i n in
    let ops = meant_are bits ip i.code row s i n in
    let own = own_sib bits ip row i in
    let vex = own_vex bits ip row i in
    let sib = sib_holds bits ip row i g in
    record {
      prefixes = prefixes_plain bits ip row i g;
      rex = rw ops (rw (ap (λ (x : PrefixState). x.rex) e ∙ front_rex bits row i) (rex_plain row i needs));
      w = subst (λ (x : PrefixState). only_if (needs_w row) (shared_bit (λ v. v.w) 3 x) ≡ true) (sym e) (w_plain bits row i);
      r = rw ops (subst (λ (x : PrefixState). only_if (needs_r row i.ops) (bit_r x) ≡ true) (sym e) (r_plain bits row i f.says needs));
      x = rw ops (subst (λ (x : PrefixState). only_if (needs_x row i.ops) (bit_x x) ≡ true) (sym e) (x_plain bits row i f.says needs));
      b = rw ops (subst (λ (x : PrefixState). only_if (needs_b row i.ops) (shared_bit (λ v. v.b) 0 x) ≡ true) (sym e) (b_plain bits row i f.says needs zp));
      vex = rw vex (vex_plain row i);
      l = rw vex (l_plain row i);
      vvvv = rw vex (vvvv_plain bits row i (numbers_suit bits ip row i g));
      reg = rw (own.1) (reg_plain bits row i);
      rm = rw (own.1) (rm_plain bits row i);
      mode = rw (own.1) (mode_plain bits ip row i g);
      sib = sib.0;
      scale = sib.1;
      last = last_plain bits ip row i g e f.says;
    }
