-- Tails that are read as the same operands have the same displacement and the same immediates.
use Rattle.std.proofs.Common.{◌≡◌, inl, inr, ℕ, ◌*◌, ◌≤◌, Bool, true, false, ◌&&◌, ◌==◌, nat_lt, List, length, Option, Some, None, refl, ap, sym, ◌∙◌, subst, arith, if◌then◌else◌}
use Rattle.std.proofs.lemmas.Bool.{cases_Bool}
use Rattle.x86_values.specs.declared.Bits.{Bits}
use Rattle.x86_values.specs.declared.Bits.TheVariants.{B16, B32, B64}
use Rattle.x86_values.specs.declared.Mem.{Mem}
use Rattle.x86_values.specs.declared.Operand.TheVariants.{Reg, Mem as MemOperand}
use Rattle.x86_values.specs.Wrapping.{width}
use Rattle.instruction_parts.specs.declared.row_types.Row.{Row}
use Rattle.instruction_parts.specs.declared.row_types.OpKind.{OpKind}
use Rattle.instruction_parts.specs.declared.kinds.Method.{Method}
use Rattle.instruction_parts.specs.declared.kinds.Method.TheVariants as method
use Rattle.instruction_parts.specs.declared.kinds.File.{File}
use Rattle.instruction_parts.specs.declared.spelling.ModRm.{ModRm}
use Rattle.instruction_parts.specs.declared.spelling.Sib.{Sib}
use Rattle.instruction_parts.specs.declared.spelling.PrefixState.{PrefixState}
use Rattle.instruction_parts.specs.Kinds.{file_of}
use Rattle.instruction_parts.specs.Sizes.{size_bytes, state_address_size}
use Rattle.row_fit.specs.Fits.{are_bytes, has_modrm, rm_number, is_displacement_alone, displacement_bytes, is_memory_method}
use Rattle.row_meaning.specs.Meaning.{tail, operand_by, register_of, displacement, memory_16, ip_or_absolute, memory_with_sib, memory_wide, memory_of, memory_absolute, memory_operand, gather_memory, with_modrm, target_of}
use Rattle.x86_values.specs.Operands.{is_memory}
use Rattle.row_relation.proofs.AddressCases.{impossible, wide-alone, wide-register}
use Rattle.plain_spelling.proofs.Asked.{reads_address}
use Rattle.row_relation.proofs.WrittenValues.{width-le}
use Rattle.row_relation.proofs.NeedReadShapes.{Reading}
use Rattle.row_relation.proofs.NeedReadOperands.{TailReads}
use Rattle.row_relation.proofs.Values.{extended_same, target_same}

-- ---- an address

if_le : (test : Bool) (a b k : ℕ) → 8 * a ≤ k → 8 * b ≤ k → 8 * (if test then a else b) ≤ k
if_le true a b k h e = h
if_le false a b k h e = e

narrow : (asize : Bits) (m : ModRm) (sib : Option Sib) → 8 * displacement_bytes asize m sib ≤ width asize
unfolding displacement_bytes
narrow B16 m sib = if_le (is_displacement_alone B16 m sib) 2 _ 16 (omega arith) (if_le (m.mode3 == 1) 1 _ 16 (omega arith) (if_le (m.mode3 == 2) 2 0 16 (omega arith) (omega arith)))
narrow B32 m sib = if_le (is_displacement_alone B32 m sib) 4 _ 32 (omega arith) (if_le (m.mode3 == 1) 1 _ 32 (omega arith) (if_le (m.mode3 == 2) 4 0 32 (omega arith) (omega arith)))
narrow B64 m sib = if_le (is_displacement_alone B64 m sib) 4 _ 64 (omega arith) (if_le (m.mode3 == 1) 1 _ 64 (omega arith) (if_le (m.mode3 == 2) 4 0 64 (omega arith) (omega arith)))

-- two displacements beside the same ModRM and SIB
record Pair (asize : Bits) (a b : List ℕ) : Type 0 where
  len : length a ≡ length b
  fits : 8 * length a ≤ width asize
  first : are_bytes a ≡ true
  second : are_bytes b ≡ true

pair_of : (bits asize : Bits) (st : PrefixState) (m : ModRm) (sib : Option Sib) (a b : List ℕ) → Reading bits asize st m sib a → Reading bits asize st m sib b → Pair asize a b
pair_of bits asize st m sib a b g h = record {
  len = g.len ∙ sym h.len;
  fits = subst (λ (n : ℕ). 8 * n ≤ width asize) (sym g.len) (narrow asize m sib);
  first = g.bytes;
  second = h.bytes;
}

by_value : (asize : Bits) (a b : List ℕ) → Pair asize a b → displacement asize a ≡ displacement asize b → a ≡ b
by_value asize a b p e = extended_same (width asize) a b p.len p.fits (width-le asize) p.first p.second e

by_target : (asize : Bits) (next : ℕ) (a b : List ℕ) → Pair asize a b → target_of asize next a ≡ target_of asize next b → a ≡ b
by_target asize next a b p e = target_same asize next a b p.len p.fits (width-le asize) p.first p.second e

if_disp : (test : Bool) (a b : Mem) (d : ℕ) → a.disp ≡ d → b.disp ≡ d → (if test then a else b).disp ≡ d
if_disp true a b d h k = h
if_disp false a b d h k = k

disp_16 : (m : ModRm) (d : List ℕ) → (memory_16 m d).disp ≡ displacement B16 d
unfolding memory_16
disp_16 m d = if_disp (is_displacement_alone B16 m None) _ _ (displacement B16 d) refl refl

alone_same : (bits asize : Bits) (next : ℕ) (a b : List ℕ) → Pair asize a b → (ip_or_absolute bits asize next a).disp ≡ (ip_or_absolute bits asize next b).disp → a ≡ b
unfolding ip_or_absolute
alone_same B16 asize next a b p e = by_value asize a b p e
alone_same B32 asize next a b p e = by_value asize a b p e
alone_same B64 asize next a b p e = by_target asize next a b p e

wide_same : (bits asize : Bits) (st : PrefixState) (m : ModRm) (sib : Option Sib) (next : ℕ) (a b : List ℕ) → Pair asize a b → (memory_wide bits asize st m sib next a).disp ≡ (memory_wide bits asize st m sib next b).disp → a ≡ b
unfolding memory_wide memory_with_sib
wide_same bits asize st m (Some s) next a b p e = by_value asize a b p e
wide_same bits asize st m None next a b p e = elim (cases_Bool (m.mode3 == 0 && m.rm == 5)) [
  | inl alone ↦
      alone_same bits asize next a b p
      (sym (ap (λ (x : Mem). x.disp) (wide-alone bits asize st m next a alone)) ∙ e ∙ ap (λ (x : Mem). x.disp) (wide-alone bits asize st m next b alone))
  | inr beside ↦
      by_value asize a b p
      (sym (ap (λ (x : Mem). x.disp) (wide-register bits asize st m next a beside)) ∙ e ∙ ap (λ (x : Mem). x.disp) (wide-register bits asize st m next b beside))
]

memory_same : (bits asize : Bits) (st : PrefixState) (m : ModRm) (sib : Option Sib) (next : ℕ) (a b : List ℕ) → Reading bits asize st m sib a → Reading bits asize st m sib b → memory_of bits asize st m sib next a ≡ memory_of bits asize st m sib next b → a ≡ b
unfolding memory_of
memory_same bits B16 st m sib next a b g h e = by_value B16 a b (pair_of bits B16 st m sib a b g h) (sym (disp_16 m a) ∙ ap (λ (x : Mem). x.disp) e ∙ disp_16 m b)
memory_same bits B32 st m sib next a b g h e = wide_same bits B32 st m sib next a b (pair_of bits B32 st m sib a b g h) (ap (λ (x : Mem). x.disp) e)
memory_same bits B64 st m sib next a b g h e = wide_same bits B64 st m sib next a b (pair_of bits B64 st m sib a b g h) (ap (λ (x : Mem). x.disp) e)

-- ---- an operand

memory_inside : (m n : Mem) → MemOperand m ≡ MemOperand n → m ≡ n
memory_inside m n h = cc

is_memory_by : (o : Option ModRm) (m : ModRm) → o ≡ Some m → nat_lt m.mode3 3 ≡ true → is_memory_method method.RegisterOrMemory o ≡ true
unfolding is_memory_method
is_memory_by o m e k = rw e k

either_same : (bits : Bits) (row : Row) (st : PrefixState) (f : File) (o : Option ModRm) (sib : Option Sib) (next : ℕ) (a b : List ℕ) → TailReads bits row st (tail o sib a next) method.RegisterOrMemory → TailReads bits row st (tail o sib b next) method.RegisterOrMemory
    → is_memory (if has_modrm (λ m. nat_lt m.mode3 3) o then memory_operand bits st o sib a next else Reg (register_of bits row st f (rm_number bits st o))) ≡ true
    → (if has_modrm (λ m. nat_lt m.mode3 3) o then memory_operand bits st o sib a next else Reg (register_of bits row st f (rm_number bits st o))) ≡ (if has_modrm (λ m. nat_lt m.mode3 3) o then memory_operand bits st o sib b next else Reg (register_of bits row st f (rm_number bits st o)))
    → a ≡ b
unfolding memory_operand
either_same bits row st f None sib next a b g h is e = impossible (sym is)
either_same bits row st f (Some m) sib next a b g h is e = by_test (nat_lt m.mode3 3) refl is e
  where
    asize : Bits
    asize = state_address_size bits st

    by_test : (test : Bool) → nat_lt m.mode3 3 ≡ test → is_memory (if test then MemOperand (memory_of bits asize st m sib next a) else Reg (register_of bits row st f (rm_number bits st (Some m)))) ≡ true
        → (if test then MemOperand (memory_of bits asize st m sib next a) else Reg (register_of bits row st f (rm_number bits st (Some m)))) ≡ (if test then MemOperand (memory_of bits asize st m sib next b) else Reg (register_of bits row st f (rm_number bits st (Some m))))
        → a ≡ b
    by_test true k is e = memory_same bits asize st m sib next a b (g.reading (is_memory_by (Some m) m refl k) m refl) (h.reading (is_memory_by (Some m) m refl k) m refl) (memory_inside _ _ e)
    by_test false k is e = impossible (sym is)

only_same : (bits : Bits) (row : Row) (st : PrefixState) (o : Option ModRm) (sib : Option Sib) (next : ℕ) (a b : List ℕ) → TailReads bits row st (tail o sib a next) method.MemoryOnly → TailReads bits row st (tail o sib b next) method.MemoryOnly
    → is_memory (memory_operand bits st o sib a next) ≡ true → memory_operand bits st o sib a next ≡ memory_operand bits st o sib b next → a ≡ b
unfolding memory_operand is_memory_method
only_same bits row st None sib next a b g h is e = impossible (sym is)
only_same bits row st (Some m) sib next a b g h is e = memory_same bits (state_address_size bits st) st m sib next a b (g.reading refl m refl) (h.reading refl m refl) (memory_inside _ _ e)

gather_same : (bits : Bits) (row : Row) (st : PrefixState) (f : File) (o : Option ModRm) (sib : Option Sib) (next : ℕ) (a b : List ℕ) → TailReads bits row st (tail o sib a next) method.Gather → TailReads bits row st (tail o sib b next) method.Gather
    → is_memory (with_modrm (λ m. gather_memory bits row st f m sib a) o) ≡ true → with_modrm (λ m. gather_memory bits row st f m sib a) o ≡ with_modrm (λ m. gather_memory bits row st f m sib b) o → a ≡ b
unfolding gather_memory is_memory_method memory_with_sib
gather_same bits row st f None sib next a b g h is e = impossible (sym is)
gather_same bits row st f (Some m) None next a b g h is e = impossible (sym is)
gather_same bits row st f (Some m) (Some s) next a b g h is e =
    by_value (state_address_size bits st) a b (pair_of bits (state_address_size bits st) st m (Some s) a b (g.reading refl m refl) (h.reading refl m refl)) (ap (λ (x : Mem). x.disp) (memory_inside _ _ e))

size_fits : (asize : Bits) → 8 * size_bytes asize ≤ width asize
size_fits B16 = omega arith
size_fits B32 = omega arith
size_fits B64 = omega arith

absolute_same : (bits : Bits) (row : Row) (st : PrefixState) (o : Option ModRm) (sib : Option Sib) (next : ℕ) (a b : List ℕ) → TailReads bits row st (tail o sib a next) method.Offset → TailReads bits row st (tail o sib b next) method.Offset
    → MemOperand (memory_absolute (state_address_size bits st) a) ≡ MemOperand (memory_absolute (state_address_size bits st) b) → a ≡ b
unfolding memory_absolute
absolute_same bits row st o sib next a b g h e =
    let asize = state_address_size bits st in
    by_value asize a b (record {
      len = g.absolute refl ∙ sym (h.absolute refl);
      fits = subst (λ (n : ℕ). 8 * n ≤ width asize) (sym (g.absolute refl)) (size_fits asize);
      first = g.bytes;
      second = h.bytes;
    }) (ap (λ (x : Mem). x.disp) (memory_inside _ _ e))

-- **memory that is read alike has one displacement**
pub disp_same : (bits : Bits) (row : Row) (st : PrefixState) (o : Option ModRm) (sib : Option Sib) (next : ℕ) (a b : List ℕ) (kind : OpKind) (how : Method) (own other : List ℕ) → reads_address how ≡ true
    → TailReads bits row st (tail o sib a next) how → TailReads bits row st (tail o sib b next) how
    → is_memory (operand_by bits row st (tail o sib a next) kind how own) ≡ true → operand_by bits row st (tail o sib a next) kind how own ≡ operand_by bits row st (tail o sib b next) kind how other → a ≡ b
unfolding operand_by
disp_same bits row st o sib next a b kind method.RegisterOrMemory own other r g h is e = either_same bits row st (file_of kind) o sib next a b g h is e
disp_same bits row st o sib next a b kind method.MemoryOnly own other r g h is e = only_same bits row st o sib next a b g h is e
disp_same bits row st o sib next a b kind method.Gather own other r g h is e = gather_same bits row st (file_of kind) o sib next a b g h is e
disp_same bits row st o sib next a b kind method.Offset own other r g h is e = absolute_same bits row st o sib next a b g h e
disp_same bits row st o sib next a b kind method.RegisterOnly own other r g h is e = impossible (sym is)
disp_same bits row st o sib next a b kind method.AnyMode own other r g h is e = impossible (sym is)
disp_same bits row st o sib next a b kind _ own other r g h is e = impossible (sym r)
