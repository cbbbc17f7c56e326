-- An address that is read without a SIB needs none.
use Rattle.std.proofs.Common.{◌≡◌, inl, inr, ℕ, ◌%◌, ◌<◌, Bool, true, false, ◌&&◌, ◌==◌, nat_lt, List, length, Option, Some, None, is_some, refl, ap, sym, ◌∙◌, subst, if◌then◌else◌}
use Rattle.std.proofs.lemmas.Bool.{lt-ltb, cases_Bool}
use Rattle.x86_values.specs.declared.Bits.{Bits}
use Rattle.x86_values.specs.declared.Bits.TheVariants.{B16, B32, B64}
use Rattle.x86_values.specs.declared.Register.{Register}
use Rattle.x86_values.specs.declared.Register.TheVariants.{R16}
use Rattle.x86_values.specs.declared.DispSize.{DispSize}
use Rattle.x86_values.specs.declared.Mem.{Mem}
use Rattle.x86_values.specs.declared.Operand.{Operand}
use Rattle.x86_values.specs.declared.Operand.TheVariants.{Reg, Mem as MemOperand}
use Rattle.instruction_parts.specs.declared.row_types.Row.{Row}
use Rattle.instruction_parts.specs.declared.row_types.Place.{Place}
use Rattle.instruction_parts.specs.declared.row_types.OpKind.{OpKind}
use Rattle.instruction_parts.specs.declared.kinds.Method.{Method}
use Rattle.instruction_parts.specs.declared.kinds.Method.TheVariants as method
use Rattle.instruction_parts.specs.declared.kinds.File.{File}
use Rattle.instruction_parts.specs.declared.spelling.ModRm.{ModRm}
use Rattle.instruction_parts.specs.declared.spelling.Sib.{Sib}
use Rattle.instruction_parts.specs.declared.spelling.PrefixState.{PrefixState}
use Rattle.instruction_parts.specs.Kinds.{file_of}
use Rattle.instruction_parts.specs.Counting.{is_16}
use Rattle.instruction_parts.specs.Sizes.{bit_b, state_address_size}
use Rattle.row_fit.specs.Fits.{with_high_bit, is_displacement_alone, needs_sib, has_modrm, is_memory_method, rm_number}
use Rattle.row_fit.specs.Sound.{reads_rm}
use Rattle.row_meaning.specs.Meaning.{general_register, displacement, disp_size_of, index_16, memory_16, ip_or_absolute, memory_wide, memory_of, Tail, operand_by, memory_operand, register_of}
use Rattle.x86_values.specs.Operands.{is_memory}
use Rattle.plain_spelling.specs.PlainFront.{register_number}
use Rattle.plain_spelling.specs.Addresses.{form_of, base_bits, wide_needs_sib, wide_fields, alone_fields, address_fields, written_size}
use Rattle.plain_spelling.specs.PlainTail.{rm_fields}
use Rattle.row_relation.proofs.AddressCases.{address, impossible, written_is, memory_16-alone, memory_16-register, wide-alone, wide-register}
use Rattle.row_relation.proofs.NeedReadShapes.{Reading, memory_read, named, extended_low}
use Rattle.row_relation.proofs.NeedReadOperands.{TailReads}

-- the plain fields have no SIB
pub record NoSib (bits asize : Bits) (m : Mem) : Type 0 where
  pub none : (address_fields bits asize m).sib ≡ None

same_no_sib : (bits asize : Bits) (m k : Mem) → m ≡ k → NoSib bits asize k → NoSib bits asize m
same_no_sib bits asize m k e h = subst (λ (x : Mem). NoSib bits asize x) (sym e) h

alone_16 : (bits : Bits) (scale disp : ℕ) (size : DispSize) → NoSib bits B16 (address None None scale disp size)
unfolding address_fields form_of alone_fields
alone_16 bits scale disp size = record { none = refl }

short_16 : (bits : Bits) (k : ℕ) (index : Option Register) (scale disp : ℕ) (size : DispSize) → NoSib bits B16 (address (Some (R16 k)) index scale disp size)
unfolding address_fields form_of
short_16 bits k index scale disp size = record { none = refl }

no_sib_16 : (bits : Bits) (m : ModRm) (d : List ℕ) → m.rm < 8 → NoSib bits B16 (memory_16 m d)
no_sib_16 bits m d small = elim (cases_Bool (is_displacement_alone B16 m None)) [
  | inl alone ↦ same_no_sib bits B16 (memory_16 m d) _ (memory_16-alone m d alone) (alone_16 bits _ _ _)
  | inr beside ↦
      (let k = named m.rm small in
      same_no_sib bits B16 (memory_16 m d) _ (memory_16-register m d beside)
      (subst (λ (r : Register). NoSib bits B16 (address (Some r) (index_16 m.rm) 1 (displacement B16 d) (disp_size_of (length d)))) (sym k.base_is) (short_16 bits k.first _ _ _ _)))
]

pointer_no_sib : (bits asize : Bits) (next : ℕ) (d : List ℕ) → is_16 asize ≡ false → NoSib bits asize (ip_or_absolute bits asize next d)
unfolding ip_or_absolute address_fields form_of alone_fields
pointer_no_sib bits B16 next d wide = impossible wide
pointer_no_sib B16 B32 next d wide = record { none = refl }
pointer_no_sib B32 B32 next d wide = record { none = refl }
pointer_no_sib B64 B32 next d wide = record { none = refl }
pointer_no_sib B16 B64 next d wide = record { none = refl }
pointer_no_sib B32 B64 next d wide = record { none = refl }
pointer_no_sib B64 B64 next d wide = record { none = refl }

base_no_sib : (bits asize : Bits) (k : ℕ) (disp : ℕ) (size : DispSize) → is_16 asize ≡ false → (k % 8 == 4) ≡ false → NoSib bits asize (address (Some (general_register asize k)) None 1 disp size)
unfolding general_register address_fields form_of wide_fields wide_needs_sib base_bits register_number
base_no_sib bits B16 k disp size wide h = impossible wide
base_no_sib bits B32 k disp size wide h = record { none = rw h refl }
base_no_sib bits B64 k disp size wide h = record { none = rw h refl }

rm_not_four : (asize : Bits) (m : ModRm) → is_16 asize ≡ false → m.mode3 < 3 → false ≡ needs_sib asize m → (m.rm == 4) ≡ false
unfolding needs_sib
rm_not_four B16 m wide small h = impossible wide
rm_not_four B32 m wide small h = (let e = lt-ltb m.mode3 3 small in sym (ap (λ (b : Bool). b && m.rm == 4) e) ∙ sym h)
rm_not_four B64 m wide small h = (let e = lt-ltb m.mode3 3 small in sym (ap (λ (b : Bool). b && m.rm == 4) e) ∙ sym h)

no_sib_wide : (bits asize : Bits) (st : PrefixState) (m : ModRm) (next : ℕ) (d : List ℕ) → is_16 asize ≡ false → Reading bits asize st m None d → NoSib bits asize (memory_wide bits asize st m None next d)
no_sib_wide bits asize st m next d wide g = elim (cases_Bool (m.mode3 == 0 && m.rm == 5)) [
  | inl alone ↦ same_no_sib bits asize _ _ (wide-alone bits asize st m next d alone) (pointer_no_sib bits asize next d wide)
  | inr beside ↦
      same_no_sib bits asize _ _ (wide-register bits asize st m next d beside)
      (base_no_sib bits asize (with_high_bit (bit_b bits st) m.rm) _ _ wide (ap (λ (k : ℕ). k == 4) (extended_low (bit_b bits st) m.rm g.rm) ∙ rm_not_four asize m wide g.mode3 g.sib_is))
]

-- **an address that is read without a SIB has plain fields without one**
pub no_sib : (bits asize : Bits) (st : PrefixState) (m : ModRm) (next : ℕ) (d : List ℕ) → Reading bits asize st m None d → NoSib bits asize (memory_of bits asize st m None next d)
unfolding memory_of
no_sib bits B16 st m next d g = no_sib_16 bits m d g.rm
no_sib bits B32 st m next d g = no_sib_wide bits B32 st m next d refl g
no_sib bits B64 st m next d g = no_sib_wide bits B64 st m next d refl g

-- ---- an operand in r/m

-- where the plain fields of an operand have a SIB, there is one
abbrev pub SibStands : Bits → Option Bits → Place → Option Sib → Operand → Type 0
SibStands bits o place sib op = is_some (rm_fields bits o place op).sib ≡ true → is_some sib ≡ true

no_fields : (bits : Bits) (o : Option Bits) (place : Place) (m : Mem) (asize : Bits) → written_size bits o m ≡ asize → NoSib bits asize m → (rm_fields bits o place (MemOperand m)).sib ≡ None
unfolding rm_fields
no_fields bits o place m asize w n = ap (λ (a : Bits). (address_fields bits a m).sib) w ∙ n.none

-- an address without a SIB, at its own address size
stands_by : (bits asize : Bits) (o : Option Bits) (place : Place) (st : PrefixState) (m : ModRm) (sib given : Option Sib) (next : ℕ) (d : List ℕ) → given ≡ sib → o ≡ Some asize → Reading bits asize st m sib d → SibStands bits o place given (MemOperand (memory_of bits asize st m sib next d))
stands_by bits asize o place st m (Some s) given next d e k g h = ap is_some e
stands_by bits asize o place st m None given next d e k g h =
    let k1 = memory_of bits asize st m None next d in
    let w : written_size bits o k1 ≡ asize = ap (λ (x : Option Bits). written_size bits x k1) k ∙ written_is bits asize k1 (memory_read bits asize st m None next d g).shown in
    impossible (sym h ∙ ap is_some (no_fields bits o place k1 asize w (no_sib bits asize st m next d g)))

either_stands : (bits : Bits) (row : Row) (st : PrefixState) (t : Tail) (file : File) (x : Option ModRm) (o : Option Bits) (place : Place) → t.modrm ≡ x → TailReads bits row st t method.RegisterOrMemory
    → (is_memory (if has_modrm (λ m. nat_lt m.mode3 3) x then memory_operand bits st x t.sib t.disp t.next else Reg (register_of bits row st file (rm_number bits st x))) ≡ true → o ≡ Some (state_address_size bits st))
    → SibStands bits o place t.sib (if has_modrm (λ m. nat_lt m.mode3 3) x then memory_operand bits st x t.sib t.disp t.next else Reg (register_of bits row st file (rm_number bits st x)))
unfolding memory_operand is_memory_method rm_fields
either_stands bits row st t file None o place e g size h = impossible (sym h)
either_stands bits row st t file (Some m) o place e g size h = by_test (nat_lt m.mode3 3) refl size h
  where
    by_test : (test : Bool) → nat_lt m.mode3 3 ≡ test → (is_memory (if test then MemOperand (memory_of bits (state_address_size bits st) st m t.sib t.next t.disp) else Reg (register_of bits row st file (rm_number bits st (Some m)))) ≡ true → o ≡ Some (state_address_size bits st))
        → SibStands bits o place t.sib (if test then MemOperand (memory_of bits (state_address_size bits st) st m t.sib t.next t.disp) else Reg (register_of bits row st file (rm_number bits st (Some m))))
    by_test true k s h1 = stands_by bits (state_address_size bits st) o place st m t.sib t.sib t.next t.disp refl (s refl) (g.reading (rw e k) m e) h1
    by_test false k s h1 = impossible (sym h1)

only_stands : (bits : Bits) (row : Row) (st : PrefixState) (t : Tail) (x : Option ModRm) (o : Option Bits) (place : Place) → t.modrm ≡ x → TailReads bits row st t method.MemoryOnly
    → (is_memory (memory_operand bits st x t.sib t.disp t.next) ≡ true → o ≡ Some (state_address_size bits st)) → SibStands bits o place t.sib (memory_operand bits st x t.sib t.disp t.next)
unfolding memory_operand is_memory_method rm_fields
only_stands bits row st t None o place e g size h = impossible (sym h)
only_stands bits row st t (Some m) o place e g size h = stands_by bits (state_address_size bits st) o place st m t.sib t.sib t.next t.disp refl (size refl) (g.reading refl m e) h

-- **where the plain fields of an operand in r/m have a SIB, the tail that it was read from has one**
pub sib_stands : (bits : Bits) (row : Row) (st : PrefixState) (t : Tail) (kind : OpKind) (how : Method) (imm : List ℕ) (o : Option Bits) (place : Place) → reads_rm how ≡ true → TailReads bits row st t how
    → (is_memory (operand_by bits row st t kind how imm) ≡ true → o ≡ Some (state_address_size bits st)) → SibStands bits o place t.sib (operand_by bits row st t kind how imm)
unfolding operand_by rm_fields
sib_stands bits row st t kind method.RegisterOrMemory imm o place r g size = either_stands bits row st t (file_of kind) t.modrm o place refl g size
sib_stands bits row st t kind method.MemoryOnly imm o place r g size = only_stands bits row st t t.modrm o place refl g size
sib_stands bits row st t kind method.Gather imm o place r g size = λ h. (g.wide refl).2
sib_stands bits row st t kind method.RegisterOnly imm o place r g size = λ h. impossible (sym h)
sib_stands bits row st t kind method.AnyMode imm o place r g size = λ h. impossible (sym h)
sib_stands bits row st t kind _ imm o place r g size = impossible (sym r)
