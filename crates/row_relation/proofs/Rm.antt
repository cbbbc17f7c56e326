-- What a fitting spelling has in r/m and SIB, by the operand that is read from it.
use Rattle.std.proofs.Common.{◌≡◌, inl, inr, ℕ, ◌<◌, Bool, true, false, nat_lt, List, length, Option, Some, None, refl, ap, sym, ◌∙◌, subst, arith, if◌then◌else◌}
use Rattle.std.proofs.lemmas.Bool.{cases_Bool}
use Rattle.x86_values.specs.declared.Bits.{Bits}
use Rattle.x86_values.specs.declared.Code.{Code}
use Rattle.x86_values.specs.declared.Mem.{Mem}
use Rattle.x86_values.specs.declared.Operand.{Operand}
use Rattle.x86_values.specs.declared.Operand.TheVariants.{Reg, Mem as MemOperand}
use Rattle.x86_values.specs.declared.Instr.{Instr}
use Rattle.instruction_parts.specs.declared.row_types.Row.{Row}
use Rattle.instruction_parts.specs.declared.row_types.OpKind.{OpKind}
use Rattle.instruction_parts.specs.declared.row_types.OpKind.TheVariants.{Absent}
use Rattle.instruction_parts.specs.declared.kinds.Method.{Method}
use Rattle.instruction_parts.specs.declared.kinds.Method.TheVariants as method
use Rattle.instruction_parts.specs.declared.kinds.File.{File}
use Rattle.instruction_parts.specs.declared.spelling.ModRm.{ModRm}
use Rattle.instruction_parts.specs.declared.spelling.Sib.{Sib}
use Rattle.instruction_parts.specs.declared.spelling.Spelling.{Spelling}
use Rattle.instruction_parts.specs.declared.spelling.PrefixState.{PrefixState}
use Rattle.instruction_parts.specs.Kinds.{method_of, file_of}
use Rattle.instruction_parts.specs.Sizes.{state_size, state_address_size}
use Rattle.instruction_parts.specs.Bytes.{state_of}
use Rattle.row_fit.specs.Fits.{reads_by, is_gather, has_modrm, rm_number, index_number, is_memory_method, kind_at}
use Rattle.row_fit.specs.Sound.{Sound, reads_rm}
use Rattle.row_meaning.specs.Meaning.{Tail, tail_of, operand_by, own_immediate, memory_of, memory_operand, memory_with_sib, gather_memory, with_modrm, register_of}
use Rattle.x86_values.specs.Operands.{is_memory}
use Rattle.plain_spelling.specs.Forms.{operand_at}
use Rattle.plain_spelling.specs.Addresses.{address_fields, written_size, displacement_count}
use Rattle.row_relation.proofs.AddressCases.{impossible, written_is}
use Rattle.row_relation.proofs.AddressForms.{IsVectorFile, gather_file}
use Rattle.plain_spelling.proofs.Asked.{four_kinds, one_rm}
use Rattle.row_relation.proofs.FitNumbers.{kind_that_passes}
use Rattle.row_relation.specs.GivenSpelling.{Given}
use Rattle.row_relation.proofs.NeedUsed.{read_is}
use Rattle.row_relation.proofs.NeedVariants.{read_at, reads_at}
use Rattle.row_relation.proofs.NeedReadShapes.{Reading}
use Rattle.row_relation.proofs.NeedReadOperands.{MemoryFits, OperandFits, TailReads}
use Rattle.row_relation.proofs.NeedReadTails.{tail_reads}
use Rattle.row_relation.proofs.NeedAddresses.{spelled_asize, fits_at, asize_of_memory}
use Rattle.row_relation.specs.IsPlain.{has_index, sib_is_needed, scale_is_read}
use Rattle.row_relation.proofs.Addresses.{fields, names_index, sib_needed, scale_needed, without_sib, with_sib, gather_is}

-- ---- an address

-- the SIB is needed, and its scale
abbrev pub SibPlain : Bits → Row → PrefixState → ModRm → Option Sib → Type 0
SibPlain bits row st m sib =
    (sib_is_needed bits row st (Some m) sib ≡ true) × (scale_is_read row st sib ≡ true)

-- the fields are the plain ones of the address exactly where the SIB is plain
pub record AddressIs (bits : Bits) (row : Row) (st : PrefixState) (m : ModRm) (sib : Option Sib) (asize : Bits) (mem : Mem) : Type 0 where
  pub forth : SibPlain bits row st m sib → address_fields bits asize mem ≡ fields m.mode3 m.rm sib
  pub back : (address_fields bits asize mem).sib ≡ sib → SibPlain bits row st m sib

-- the operand in r/m is the one that is read there
abbrev pub OperandIs : Bits → Row → PrefixState → ModRm → Option Sib → Bits → Operand → Type 0
OperandIs bits row st m sib asize (MemOperand mem) = AddressIs bits row st m sib asize mem
OperandIs bits row st m sib asize _ = Unit {0}

needed_is : (bits : Bits) (row : Row) (st : PrefixState) (m : ModRm) (s : Sib) → reads_by is_gather row ≡ false → sib_is_needed bits row st (Some m) (Some s) ≡ sib_needed bits m s (names_index st s)
unfolding sib_is_needed has_index index_number
needed_is bits row st m s e = rw e refl

scaled_is : (row : Row) (st : PrefixState) (s : Sib) → reads_by is_gather row ≡ false → scale_is_read row st (Some s) ≡ scale_needed s (names_index st s)
unfolding scale_is_read has_index index_number
scaled_is row st s e = rw e refl

address_read : (bits : Bits) (row : Row) (st : PrefixState) (m : ModRm) (sib : Option Sib) (asize : Bits) (next : ℕ) (d : List ℕ) → reads_by is_gather row ≡ false → Reading bits asize st m sib d → AddressIs bits row st m sib asize (memory_of bits asize st m sib next d)
unfolding sib_is_needed scale_is_read
address_read bits row st m None asize next d e g = record { forth = λ p. without_sib bits asize st m next d g; back = λ h. (refl, refl) }
address_read bits row st m (Some s) asize next d e g =
    let w = with_sib bits asize st m s next d g in
    let n = needed_is bits row st m s e in
    let c = scaled_is row st s e in
    record {
      forth = λ p. w.forth (sym n ∙ p.0) (sym c ∙ p.1);
      back = λ h. (n ∙ (w.back h).0, c ∙ (w.back h).1);
    }

gathers : (bits : Bits) (row : Row) (st : PrefixState) (m : ModRm) (s : Sib) → reads_by is_gather row ≡ true → SibPlain bits row st m (Some s)
unfolding sib_is_needed scale_is_read has_index
gathers bits row st m s e = rw e (refl, refl)

-- ---- an operand

-- a row of another operand in r/m is no gather
no_gather : (row : Row) (n : ℕ) → Sound row → n < 4 → reads_rm (method_of (kind_at row n)) ≡ true → is_gather (method_of (kind_at row n)) ≡ false → reads_by is_gather row ≡ false
no_gather row n sound below reads other = elim (cases_Bool (reads_by is_gather row)) [
  | inr none ↦ none
  | inl some ↦ (let k = kind_that_passes (λ kind. is_gather (method_of kind)) row.ops Absent some in
      let four = four_kinds row sound in
      let there : k.0 < 4 = omega (arith, k.1, four) in
      let same = one_rm row k.0 n sound there below (gather_reads (method_of (kind_at row k.0)) k.2) reads in
      impossible (sym k.2 ∙ ap (λ (j : ℕ). is_gather (method_of (kind_at row j))) same ∙ other))
]
  where
    gather_reads : (how : Method) → is_gather how ≡ true → reads_rm how ≡ true
    gather_reads method.Gather h = refl
    gather_reads _ h = impossible (sym h)

either_is : (bits : Bits) (row : Row) (st : PrefixState) (t : Tail) (f : File) (m : ModRm) (o : Option ModRm) → t.modrm ≡ o → o ≡ Some m → reads_by is_gather row ≡ false → TailReads bits row st t method.RegisterOrMemory
    → OperandIs bits row st m t.sib (state_address_size bits st) (if has_modrm (λ m. nat_lt m.mode3 3) o then memory_operand bits st o t.sib t.disp t.next else Reg (register_of bits row st f (rm_number bits st o)))
unfolding memory_operand is_memory_method
either_is bits row st t f m None e k none g = impossible (let z : true ≡ false = cc in z)
either_is bits row st t f m (Some x) e k none g = by_test (nat_lt x.mode3 3) refl
  where
    same : x ≡ m
    same = cc

    there : nat_lt x.mode3 3 ≡ true → is_memory_method method.RegisterOrMemory t.modrm ≡ true
    there h = rw e h

    read : nat_lt x.mode3 3 ≡ true → AddressIs bits row st m t.sib (state_address_size bits st) (memory_of bits (state_address_size bits st) st x t.sib t.next t.disp)
    read h =
        subst (λ (y : ModRm). AddressIs bits row st y t.sib (state_address_size bits st) (memory_of bits (state_address_size bits st) st x t.sib t.next t.disp)) same
        (address_read bits row st x t.sib (state_address_size bits st) t.next t.disp none (g.reading (there h) x e))

    by_test : (test : Bool) → nat_lt x.mode3 3 ≡ test → OperandIs bits row st m t.sib (state_address_size bits st) (if test then MemOperand (memory_of bits (state_address_size bits st) st x t.sib t.next t.disp) else Reg (register_of bits row st f (rm_number bits st (Some x))))
    by_test true h = read h
    by_test false h = tt

only_is : (bits : Bits) (row : Row) (st : PrefixState) (t : Tail) (m : ModRm) (o : Option ModRm) → t.modrm ≡ o → o ≡ Some m → reads_by is_gather row ≡ false → TailReads bits row st t method.MemoryOnly → OperandIs bits row st m t.sib (state_address_size bits st) (memory_operand bits st o t.sib t.disp t.next)
unfolding memory_operand is_memory_method
only_is bits row st t m None e k none g = tt
only_is bits row st t m (Some x) e k none g =
    let same : x ≡ m = cc in
    subst (λ (y : ModRm). AddressIs bits row st y t.sib (state_address_size bits st) (memory_of bits (state_address_size bits st) st x t.sib t.next t.disp)) same
    (address_read bits row st x t.sib (state_address_size bits st) t.next t.disp none (g.reading refl x e))

gather_at : (bits : Bits) (row : Row) (st : PrefixState) (t : Tail) (f : File) (m : ModRm) (o : Option ModRm) (sib : Option Sib) → t.modrm ≡ o → o ≡ Some m → t.sib ≡ sib → reads_by is_gather row ≡ true → IsVectorFile f → TailReads bits row st t method.Gather
    → OperandIs bits row st m sib (state_address_size bits st) (with_modrm (λ m. gather_memory bits row st f m sib t.disp) o)
unfolding gather_memory is_memory_method
gather_at bits row st t f m None sib e k z some v g = tt
gather_at bits row st t f m (Some x) None e k z some v g = tt
gather_at bits row st t f m (Some x) (Some s) e k z some v g =
    let same : x ≡ m = cc in
    let asize = state_address_size bits st in
    let mem = memory_with_sib bits asize st (Some (register_of bits row st f (index_number st (Some s)))) x s t.disp in
    let r : Reading bits asize st x (Some s) t.disp = subst (λ (y : Option Sib). Reading bits asize st x y t.disp) z (g.reading refl x e) in
    subst (λ (y : ModRm). AddressIs bits row st y (Some s) asize mem) same
    (record { forth = λ p. gather_is bits asize row st f x s t.disp (g.wide refl).0 v r; back = λ h. gathers bits row st x s some })

operand_is : (bits : Bits) (row : Row) (st : PrefixState) (t : Tail) (kind : OpKind) (how : Method) (imm : List ℕ) (m : ModRm) → method_of kind ≡ how → t.modrm ≡ Some m → reads_rm how ≡ true → reads_by is_gather row ≡ is_gather how → TailReads bits row st t how
    → OperandIs bits row st m t.sib (state_address_size bits st) (operand_by bits row st t kind how imm)
unfolding operand_by
operand_is bits row st t kind method.RegisterOrMemory imm m k e r z g = either_is bits row st t (file_of kind) m t.modrm refl e z g
operand_is bits row st t kind method.MemoryOnly imm m k e r z g = only_is bits row st t m t.modrm refl e z g
operand_is bits row st t kind method.Gather imm m k e r z g = gather_at bits row st t (file_of kind) m t.modrm t.sib refl e refl z (gather_file kind k) g
operand_is bits row st t kind method.RegisterOnly imm m k e r z g = tt
operand_is bits row st t kind method.AnyMode imm m k e r z g = tt
operand_is bits row st t kind _ imm m k e r z g = impossible (sym r)

gather_same : (row : Row) (n : ℕ) → Sound row → n < 4 → reads_rm (method_of (kind_at row n)) ≡ true → reads_by is_gather row ≡ is_gather (method_of (kind_at row n))
gather_same row n sound below reads = elim (cases_Bool (is_gather (method_of (kind_at row n)))) [
  | inl some ↦ reads_at is_gather row n sound.four_operands below some ∙ sym some
  | inr none ↦ no_gather row n sound below reads none ∙ sym none
]

-- **the fields that an address of a fitting spelling is read from are its plain ones exactly where the SIB is plain**
pub address_at : (bits : Bits) (ip : ℕ) (code : Code) (row : Row) (s : Spelling) (i : Instr) (n : ℕ) (m : ModRm) → Given bits ip code row s i → n < 4 → reads_rm (method_of (kind_at row n)) ≡ true → s.modrm ≡ Some m → OperandIs bits row (state_of bits row s) m s.sib (spelled_asize bits row s) (operand_at i n)
address_at bits ip code row s i n m g below reads e =
    let st = state_of bits row s in
    let t = tail_of bits ip row s in
    let how = method_of (kind_at row n) in
    subst (λ (x : Instr). OperandIs bits row st m s.sib (spelled_asize bits row s) (operand_at x n)) (read_is bits ip code row s i g)
    (subst (λ (x : Operand). OperandIs bits row st m s.sib (spelled_asize bits row s) x) (sym (read_at bits code row st t s.imm.items n below))
    (operand_is bits row st t (kind_at row n) how (own_immediate (state_size bits row st) row n s.imm.items) m refl e reads (gather_same row n g.is_sound below reads) (tail_reads bits ip row s n g.is_sound g.fitting below)))

-- the size that its plain fields are written for is that of the spelling
shown_of : (bits : Bits) (ip : ℕ) (code : Code) (row : Row) (s : Spelling) (i : Instr) (n : ℕ) (mem : Mem) → Given bits ip code row s i → n < 4 → operand_at i n ≡ MemOperand mem → MemoryFits bits (spelled_asize bits row s) row (method_of (kind_at row n)) (file_of (kind_at row n)) (length s.disp.items) mem
shown_of bits ip code row s i n mem g below e =
    subst (λ (x : Operand). OperandFits bits (spelled_asize bits row s) row (method_of (kind_at row n)) (file_of (kind_at row n)) (length s.disp.items) x) e (fits_at bits ip code row s i n g below)

-- the address size of a spelling is the one that is written
pub written_at : (bits : Bits) (ip : ℕ) (code : Code) (row : Row) (s : Spelling) (i : Instr) (n : ℕ) (mem : Mem) → Given bits ip code row s i → n < 4 → operand_at i n ≡ MemOperand mem → written_size bits i.asize mem ≡ spelled_asize bits row s
written_at bits ip code row s i n mem g below e =
    ap (λ (x : Option Bits). written_size bits x mem) (asize_of_memory bits ip code row s i n g below (ap is_memory e))
    ∙ written_is bits (spelled_asize bits row s) mem (shown_of bits ip code row s i n mem g below e).shown

-- its displacement has the bytes that are written
pub count_at : (bits : Bits) (ip : ℕ) (code : Code) (row : Row) (s : Spelling) (i : Instr) (n : ℕ) (mem : Mem) → Given bits ip code row s i → n < 4 → operand_at i n ≡ MemOperand mem → displacement_count mem.disp_size ≡ length s.disp.items
count_at bits ip code row s i n mem g below e = (shown_of bits ip code row s i n mem g below e).count
