-- Each memory operand that is read has a shape and a displacement of its kind.
use Rattle.std.proofs.Common.{◌≡◌, ℕ, ◌≤◌, Bool, true, false, nat_lt, List, length, Option, Some, None, is_some, refl, ap, sym, ◌∙◌, subst, arith, if◌then◌else◌}
use Rattle.std.proofs.lemmas.Bool.{eq-eqb}
use Rattle.x86_values.specs.declared.Bits.{Bits}
use Rattle.x86_values.specs.declared.Mem.{Mem}
use Rattle.x86_values.specs.declared.Operand.{Operand}
use Rattle.x86_values.specs.declared.Operand.TheVariants.{Reg, Mem as MemOperand}
use Rattle.instruction_parts.specs.declared.row_types.Row.{Row}
use Rattle.instruction_parts.specs.declared.row_types.OpKind.{OpKind}
use Rattle.instruction_parts.specs.declared.kinds.Method.{Method}
use Rattle.instruction_parts.specs.declared.kinds.Method.TheVariants as method
use Rattle.instruction_parts.specs.declared.kinds.File.{File}
use Rattle.instruction_parts.specs.declared.spelling.ModRm.{ModRm}
use Rattle.instruction_parts.specs.declared.spelling.Sib.{Sib}
use Rattle.instruction_parts.specs.declared.spelling.PrefixState.{PrefixState}
use Rattle.instruction_parts.specs.Kinds.{method_of, file_of}
use Rattle.instruction_parts.specs.Counting.{is_16}
use Rattle.instruction_parts.specs.Sizes.{state_address_size, size_bytes}
use Rattle.row_fit.specs.Fits.{are_bytes, has_modrm, is_memory_method, rm_number}
use Rattle.row_meaning.specs.Meaning.{Tail, operand_by, memory_operand, memory_of, gather_memory, near_target, far_pointer, register_of, with_modrm}
use Rattle.x86_values.specs.Operands.{is_memory}
use Rattle.plain_spelling.specs.Addresses.{shape_suits, offers, form_offers, is_displacement, displacement_suits, displacement_count, shown_size, written_size}
use Rattle.plain_spelling.specs.PlainTail.{operand_displacement}
use Rattle.plain_spelling.specs.Expressible.{size_agrees}
use Rattle.row_relation.proofs.AddressCases.{agrees, written_is}
use Rattle.row_relation.proofs.AddressForms.{IsVectorFile, gather_file}
use Rattle.row_relation.proofs.NeedReadShapes.{Reading, IsRead, memory_read}
use Rattle.row_relation.proofs.NeedReadGathers.{IsGatherRead, gather_read, IsAbsolute, absolute_read}

-- an address of a kind that was read, with a displacement of n bytes
pub record MemoryFits (bits asize : Bits) (row : Row) (how : Method) (file : File) (n : ℕ) (m : Mem) : Type 0 where
  pub shape : shape_suits bits row how file m ≡ true
  pub offer : offers asize how m (displacement_count m.disp_size) ≡ true
  pub value : is_displacement asize m ≡ true
  pub size : size_agrees asize (MemOperand m) ≡ true
  pub shown : agrees asize (shown_size m) ≡ true
  pub count : displacement_count m.disp_size ≡ n

-- the same of an operand that may be memory
abbrev pub OperandFits : Bits → Bits → Row → Method → File → ℕ → Operand → Type 0
OperandFits bits asize row how file n (MemOperand m) = MemoryFits bits asize row how file n m
OperandFits bits asize row how file n _ = Unit {0}

-- ---- by how the operand is read

-- a shape and a displacement that the method offers, and what else was read
read_by : (bits asize : Bits) (row : Row) (how : Method) (file : File) (m : Mem) (n : ℕ) → IsRead bits asize m n → shape_suits bits row how file m ≡ true → offers asize how m (displacement_count m.disp_size) ≡ true → MemoryFits bits asize row how file n m
read_by bits asize row how file m n r shape offer = record { shape = shape; offer = offer; value = r.value; size = r.size; shown = r.shown; count = r.count }

offered_count : (bits asize : Bits) (m : Mem) (n : ℕ) → IsRead bits asize m n → form_offers asize m (displacement_count m.disp_size) ≡ true
offered_count bits asize m n r = subst (λ (k : ℕ). form_offers asize m k ≡ true) (sym r.count) r.offer

register_or_memory : (bits asize : Bits) (row : Row) (file : File) (m : Mem) (n : ℕ) → IsRead bits asize m n → MemoryFits bits asize row method.RegisterOrMemory file n m
unfolding shape_suits offers
register_or_memory bits asize row file m n r = read_by bits asize row method.RegisterOrMemory file m n r r.shape (offered_count bits asize m n r)

memory_only : (bits asize : Bits) (row : Row) (file : File) (m : Mem) (n : ℕ) → IsRead bits asize m n → MemoryFits bits asize row method.MemoryOnly file n m
unfolding shape_suits offers
memory_only bits asize row file m n r = read_by bits asize row method.MemoryOnly file m n r r.shape (offered_count bits asize m n r)

gathered : (bits asize : Bits) (row : Row) (file : File) (m : Mem) (n : ℕ) → IsGatherRead bits asize row file m n → MemoryFits bits asize row method.Gather file n m
unfolding shape_suits offers
gathered bits asize row file m n r = record {
  shape = r.shape;
  offer = rw r.count r.offer;
  value = r.value;
  size = r.size;
  shown = r.shown;
  count = r.count;
}

absolute : (bits asize : Bits) (row : Row) (file : File) (m : Mem) (n : ℕ) → n ≡ size_bytes asize → IsAbsolute asize m n → MemoryFits bits asize row method.Offset file n m
unfolding shape_suits offers
absolute bits asize row file m n e r = record {
  shape = r.shape;
  offer = eq-eqb (displacement_count m.disp_size) (size_bytes asize) (r.count ∙ e);
  value = r.value;
  size = r.size;
  shown = r.shown;
  count = r.count;
}

-- what is known of a tail that is read
pub record TailReads (bits : Bits) (row : Row) (st : PrefixState) (t : Tail) (how : Method) : Type 0 where
  pub reading : (is_memory_method how t.modrm ≡ true) → (m : ModRm) → t.modrm ≡ Some m → Reading bits (state_address_size bits st) st m t.sib t.disp
  pub modrm : how ≡ method.MemoryOnly → is_some t.modrm ≡ true
  pub wide : how ≡ method.Gather → (is_16 (state_address_size bits st) ≡ false) × (is_some t.modrm ≡ true) × (is_some t.sib ≡ true)
  pub absolute : how ≡ method.Offset → length t.disp ≡ size_bytes (state_address_size bits st)
  pub bytes : are_bytes t.disp ≡ true

memory_by : (o : Option ModRm) (m : ModRm) → o ≡ Some m → nat_lt m.mode3 3 ≡ true → is_memory_method method.RegisterOrMemory o ≡ true
unfolding is_memory_method
memory_by o m e k = rw e k

either_fits : (bits : Bits) (row : Row) (st : PrefixState) (t : Tail) (file : File) (o : Option ModRm) → t.modrm ≡ o → TailReads bits row st t method.RegisterOrMemory
    → OperandFits bits (state_address_size bits st) row method.RegisterOrMemory file (length t.disp) (if has_modrm (λ m. nat_lt m.mode3 3) o then memory_operand bits st o t.sib t.disp t.next else Reg (register_of bits row st file (rm_number bits st o)))
unfolding memory_operand
either_fits bits row st t file None e g = tt
either_fits bits row st t file (Some m) e g = by_test (nat_lt m.mode3 3) refl
  where
    read : nat_lt m.mode3 3 ≡ true → MemoryFits bits (state_address_size bits st) row method.RegisterOrMemory file (length t.disp) (memory_of bits (state_address_size bits st) st m t.sib t.next t.disp)
    read k = register_or_memory bits (state_address_size bits st) row file _ (length t.disp) (memory_read bits (state_address_size bits st) st m t.sib t.next t.disp (g.reading (memory_by t.modrm m e k) m e))

    by_test : (test : Bool) → nat_lt m.mode3 3 ≡ test → OperandFits bits (state_address_size bits st) row method.RegisterOrMemory file (length t.disp) (if test then MemOperand (memory_of bits (state_address_size bits st) st m t.sib t.next t.disp) else Reg (register_of bits row st file (rm_number bits st (Some m))))
    by_test true k = read k
    by_test false k = tt

only_fits : (bits : Bits) (row : Row) (st : PrefixState) (t : Tail) (file : File) (o : Option ModRm) → t.modrm ≡ o → TailReads bits row st t method.MemoryOnly
    → OperandFits bits (state_address_size bits st) row method.MemoryOnly file (length t.disp) (memory_operand bits st o t.sib t.disp t.next)
unfolding memory_operand is_memory_method
only_fits bits row st t file None e g = tt
only_fits bits row st t file (Some m) e g =
    memory_only bits (state_address_size bits st) row file _ (length t.disp) (memory_read bits (state_address_size bits st) st m t.sib t.next t.disp (g.reading refl m e))

gather_fits_by : (bits : Bits) (row : Row) (st : PrefixState) (t : Tail) (file : File) (o : Option ModRm) (sib : Option Sib) → t.modrm ≡ o → t.sib ≡ sib → IsVectorFile file → TailReads bits row st t method.Gather
    → OperandFits bits (state_address_size bits st) row method.Gather file (length t.disp) (with_modrm (λ m. gather_memory bits row st file m sib t.disp) o)
unfolding gather_memory is_memory_method
gather_fits_by bits row st t file None sib e k v g = tt
gather_fits_by bits row st t file (Some m) None e k v g = tt
gather_fits_by bits row st t file (Some m) (Some s) e k v g =
    gathered bits (state_address_size bits st) row file _ (length t.disp)
    (gather_read bits (state_address_size bits st) row st file m s t.disp (g.wide refl).0 v (subst (λ (x : Option Sib). Reading bits (state_address_size bits st) st m x t.disp) k (g.reading refl m e)))

-- **a memory operand that is read fits its kind**
pub operand_fits : (bits : Bits) (row : Row) (st : PrefixState) (t : Tail) (kind : OpKind) (how : Method) (imm : List ℕ) → method_of kind ≡ how → TailReads bits row st t how → OperandFits bits (state_address_size bits st) row how (file_of kind) (length t.disp) (operand_by bits row st t kind how imm)
unfolding operand_by near_target far_pointer
operand_fits bits row st t kind method.RegisterOrMemory imm k g = either_fits bits row st t (file_of kind) t.modrm refl g
operand_fits bits row st t kind method.MemoryOnly imm k g = only_fits bits row st t (file_of kind) t.modrm refl g
operand_fits bits row st t kind method.Gather imm k g = gather_fits_by bits row st t (file_of kind) t.modrm t.sib refl refl (gather_file kind k) g
operand_fits bits row st t kind method.Offset imm k g =
    absolute bits (state_address_size bits st) row (file_of kind) _ (length t.disp) (g.absolute refl) (absolute_read (state_address_size bits st) t.disp (g.absolute refl) g.bytes)
operand_fits bits row st t kind _ imm k g = tt

-- ---- which operands are memory

either_memory : (bits : Bits) (row : Row) (st : PrefixState) (t : Tail) (file : File) (o : Option ModRm) → is_memory (if has_modrm (λ m. nat_lt m.mode3 3) o then memory_operand bits st o t.sib t.disp t.next else Reg (register_of bits row st file (rm_number bits st o))) ≡ has_modrm (λ m. nat_lt m.mode3 3) o
unfolding memory_operand
either_memory bits row st t file None = refl
either_memory bits row st t file (Some m) = by_test (nat_lt m.mode3 3)
  where
    by_test : (test : Bool) → is_memory (if test then MemOperand (memory_of bits (state_address_size bits st) st m t.sib t.next t.disp) else Reg (register_of bits row st file (rm_number bits st (Some m)))) ≡ test
    by_test true = refl
    by_test false = refl

only_memory : (bits : Bits) (st : PrefixState) (t : Tail) (o : Option ModRm) → is_some o ≡ true → is_memory (memory_operand bits st o t.sib t.disp t.next) ≡ true
unfolding memory_operand
only_memory bits st t None h = h
only_memory bits st t (Some m) h = refl

gather_memory-is : (bits : Bits) (row : Row) (st : PrefixState) (t : Tail) (file : File) (o : Option ModRm) (sib : Option Sib) → is_some o ≡ true → is_some sib ≡ true → is_memory (with_modrm (λ m. gather_memory bits row st file m sib t.disp) o) ≡ true
unfolding gather_memory
gather_memory-is bits row st t file None sib h k = h
gather_memory-is bits row st t file (Some m) None h k = k
gather_memory-is bits row st t file (Some m) (Some s) h k = refl

-- **an operand is memory where its method says so**
pub memory_is : (bits : Bits) (row : Row) (st : PrefixState) (t : Tail) (kind : OpKind) (how : Method) (imm : List ℕ) → TailReads bits row st t how → is_memory (operand_by bits row st t kind how imm) ≡ is_memory_method how t.modrm
unfolding operand_by near_target far_pointer is_memory_method
memory_is bits row st t kind method.RegisterOrMemory imm g = either_memory bits row st t (file_of kind) t.modrm
memory_is bits row st t kind method.MemoryOnly imm g = only_memory bits st t t.modrm (g.modrm refl)
memory_is bits row st t kind method.Gather imm g = (let w = g.wide refl in gather_memory-is bits row st t (file_of kind) t.modrm t.sib w.1 w.2)
memory_is bits row st t kind _ imm g = refl

-- ---- what an operand that fits says

-- a fitting operand has a suitable shape
pub shape_of_fits : (bits asize : Bits) (row : Row) (how : Method) (file : File) (n : ℕ) (op : Operand) → OperandFits bits asize row how file n op → (elim op [ MemOperand m ↦ shape_suits bits row how file m | _ ↦ true ]) ≡ true
shape_of_fits bits asize row how file n (MemOperand m) f = f.shape
shape_of_fits bits asize row how file n _ f = refl

written_fits : (bits asize : Bits) (row : Row) (how : Method) (file : File) (n : ℕ) (m : Mem) (o : Option Bits) → o ≡ Some asize → MemoryFits bits asize row how file n m → displacement_suits (written_size bits o m) how m ≡ true
unfolding displacement_suits
written_fits bits asize row how file n m o e f =
    let w : written_size bits o m ≡ asize = ap (λ (x : Option Bits). written_size bits x m) e ∙ written_is bits asize m f.shown in
    rw w (rw (f.offer, f.value) refl)

-- its displacement is one that its shape offers
pub offer_of_fits : (bits asize : Bits) (row : Row) (how : Method) (file : File) (n : ℕ) (op : Operand) (o : Option Bits) → (is_memory op ≡ true → o ≡ Some asize) → OperandFits bits asize row how file n op → (elim op [ MemOperand m ↦ displacement_suits (written_size bits o m) how m | _ ↦ true ]) ≡ true
offer_of_fits bits asize row how file n (MemOperand m) o e f = written_fits bits asize row how file n m o (e refl) f
offer_of_fits bits asize row how file n _ o e f = refl

-- it agrees with the address size
pub size_of_fits : (bits asize : Bits) (row : Row) (how : Method) (file : File) (n : ℕ) (op : Operand) → OperandFits bits asize row how file n op → size_agrees asize op ≡ true
unfolding size_agrees
size_of_fits bits asize row how file n (MemOperand m) f = f.size
size_of_fits bits asize row how file n _ f = refl

-- its displacement has no more bytes than are there
pub count_of_fits : (bits asize : Bits) (row : Row) (how : Method) (file : File) (n : ℕ) (op : Operand) → OperandFits bits asize row how file n op → operand_displacement op ≤ n
count_of_fits bits asize row how file n (MemOperand m) f = (let e = f.count in omega arith)
count_of_fits bits asize row how file n _ f = omega arith
