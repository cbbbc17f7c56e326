-- An instruction comes back from its flat struct.
use Rattle.std.proofs.Common.{◌≡◌, ℕ, Bool, true, false, List, [], ◌∷◌, length, slice_set, Option, Some, None, refl, ap, ◌∙◌, sym, subst, arith}
use Rattle.x86_values.specs.declared.Bits.{Bits}
use Rattle.x86_values.specs.declared.Bits.TheVariants.{B16, B32, B64}
use Rattle.x86_values.specs.declared.Segment.{Segment}
use Rattle.x86_values.specs.declared.Segment.TheVariants.{Es, Cs, Ss, Ds, Fs, Gs}
use Rattle.x86_values.specs.declared.Register.{Register}
use Rattle.x86_values.specs.declared.Register.TheVariants.{Low8, High8, R16, R32, R64, Seg, Cr, Dr, St, Mm, Xmm, Ymm, Eip, Rip}
use Rattle.x86_values.specs.declared.DispSize.{DispSize}
use Rattle.x86_values.specs.declared.DispSize.TheVariants.{D0, D8, D16, D32, D64}
use Rattle.x86_values.specs.declared.Rep.{Rep}
use Rattle.x86_values.specs.declared.Rep.TheVariants.{None as NoRep, F2, F3}
use Rattle.x86_values.specs.declared.Mem.{Mem}
use Rattle.x86_values.specs.declared.Operand.{Operand}
use Rattle.x86_values.specs.declared.Operand.TheVariants.{Absent, Reg, Mem as Memory, Imm, Near, Far}
use Rattle.x86_values.specs.declared.Instr.{Instr}
use Rattle.x86_values.specs.Registers.{number}
use Rattle.plain_spelling.specs.Forms.{operand_at}
use Rattle.c_calls.specs.declared.flat.FlatInstr.{FlatInstr}
use Rattle.c_calls.specs.Numbers.{class_number, disp_number, lock_number, rep_number, prefix_number, asize_number, segment_register, register_numbered, base_numbered, disp_numbered, lock_numbered, rep_numbered, prefix_numbered, asize_numbered}
use Rattle.c_calls.specs.Flat.{base_class, base_number, flat_operand, flat_instr}
use Rattle.c_calls.specs.Back.{register_operand, memory_from_fields, operand_back, operands_of, operands_back, instr_from_fields, instr_back}

-- ---- words

register_back : (r : Register) → register_numbered (class_number r) (number r) ≡ Some r
unfolding register_numbered segment_register
register_back (Low8 n) = refl
register_back (High8 n) = refl
register_back (R16 n) = refl
register_back (R32 n) = refl
register_back (R64 n) = refl
register_back (Seg Es) = refl
register_back (Seg Cs) = refl
register_back (Seg Ss) = refl
register_back (Seg Ds) = refl
register_back (Seg Fs) = refl
register_back (Seg Gs) = refl
register_back (Cr n) = refl
register_back (Dr n) = refl
register_back (St n) = refl
register_back (Mm n) = refl
register_back (Xmm n) = refl
register_back (Ymm n) = refl
register_back Eip = refl
register_back Rip = refl

base_back : (r : Option Register) → base_numbered (base_class r) (base_number r) ≡ Some r
unfolding base_numbered register_numbered segment_register
base_back None = refl
base_back (Some (Low8 n)) = refl
base_back (Some (High8 n)) = refl
base_back (Some (R16 n)) = refl
base_back (Some (R32 n)) = refl
base_back (Some (R64 n)) = refl
base_back (Some (Seg Es)) = refl
base_back (Some (Seg Cs)) = refl
base_back (Some (Seg Ss)) = refl
base_back (Some (Seg Ds)) = refl
base_back (Some (Seg Fs)) = refl
base_back (Some (Seg Gs)) = refl
base_back (Some (Cr n)) = refl
base_back (Some (Dr n)) = refl
base_back (Some (St n)) = refl
base_back (Some (Mm n)) = refl
base_back (Some (Xmm n)) = refl
base_back (Some (Ymm n)) = refl
base_back (Some Eip) = refl
base_back (Some Rip) = refl

disp_back : (d : DispSize) → disp_numbered (disp_number d) ≡ Some d
unfolding disp_numbered
disp_back D0 = refl
disp_back D8 = refl
disp_back D16 = refl
disp_back D32 = refl
disp_back D64 = refl

lock_back : (b : Bool) → lock_numbered (lock_number b) ≡ Some b
unfolding lock_numbered
lock_back false = refl
lock_back true = refl

rep_back : (r : Rep) → rep_numbered (rep_number r) ≡ Some r
unfolding rep_numbered
rep_back NoRep = refl
rep_back F2 = refl
rep_back F3 = refl

prefix_back : (s : Option Segment) → prefix_numbered (prefix_number s) ≡ Some s
unfolding prefix_numbered
prefix_back None = refl
prefix_back (Some Es) = refl
prefix_back (Some Cs) = refl
prefix_back (Some Ss) = refl
prefix_back (Some Ds) = refl
prefix_back (Some Fs) = refl
prefix_back (Some Gs) = refl

asize_back : (a : Option Bits) → asize_numbered (asize_number a) ≡ Some a
unfolding asize_numbered
asize_back None = refl
asize_back (Some B16) = refl
asize_back (Some B32) = refl
asize_back (Some B64) = refl

-- ---- operands

memory_back : (m : Mem) →
    memory_from_fields m.scale m.disp (base_numbered (base_class m.base) (base_number m.base)) (base_numbered (base_class m.index) (base_number m.index))
    (disp_numbered (disp_number m.disp_size)) ≡ Some (Memory m)
memory_back m =
    let base = base_numbered (base_class m.base) (base_number m.base) in
    let index = base_numbered (base_class m.index) (base_number m.index) in
    let size = disp_numbered (disp_number m.disp_size) in
    ap (λ (b : Option (Option Register)). memory_from_fields m.scale m.disp b index size) (base_back m.base)
    ∙ (ap (λ (x : Option (Option Register)). memory_from_fields m.scale m.disp (Some m.base) x size) (base_back m.index)
    ∙ ap (λ (d : Option DispSize). memory_from_fields m.scale m.disp (Some m.base) (Some m.index) d) (disp_back m.disp_size))

-- an operand that was made flat is read back
pub operand_back_flat : (o : Operand) → operand_back (flat_operand o) ≡ Some o
unfolding operand_back flat_operand
operand_back_flat Absent = refl
operand_back_flat (Reg r) = ap register_operand (register_back r)
operand_back_flat (Memory m) = memory_back m
operand_back_flat (Imm x) = refl
operand_back_flat (Near x) = refl
operand_back_flat (Far s x) = refl

-- ---- instructions

-- four operands are those at the numbers 0 to 3
four : (ops : List Operand) → length ops ≡ 4 → (a b c d : Operand) × (ops ≡ a ∷ b ∷ c ∷ d ∷ [])
four (a ∷ b ∷ c ∷ d ∷ []) e = (a, b, c, d, refl)
four [] e = absurd (omega (arith, e))
four (a ∷ []) e = absurd (omega (arith, e))
four (a ∷ b ∷ []) e = absurd (omega (arith, e))
four (a ∷ b ∷ c ∷ []) e = absurd (omega (arith, e))
four (a ∷ b ∷ c ∷ d ∷ f ∷ ops) e = absurd (omega (arith, e))

-- four operands that are written one after another are all
four_set : (xs : List Operand) (a b c d : Operand) → length xs ≡ 4 → slice_set (slice_set (slice_set (slice_set xs 0 a) 1 b) 2 c) 3 d ≡ a ∷ b ∷ c ∷ d ∷ []
four_set xs a b c d h =
    let (p, q, r, s, is) = four xs h in
    let P : List Operand → Type 0 = λ ops. slice_set (slice_set (slice_set (slice_set ops 0 a) 1 b) 2 c) 3 d ≡ a ∷ b ∷ c ∷ d ∷ [] in
    subst P (sym is) refl

-- the instruction of a struct whose parts are each one
pub instr_back_parts : (f : FlatInstr) (xs : List Operand) (a b c d : Operand) (lock : Bool) (rep : Rep) (seg : Option Segment) (asize : Option Bits) → length xs ≡ 4
    → operand_back f.op0 ≡ Some a → operand_back f.op1 ≡ Some b → operand_back f.op2 ≡ Some c → operand_back f.op3 ≡ Some d
    → lock_numbered f.lock ≡ Some lock → rep_numbered f.rep ≡ Some rep → prefix_numbered f.segment ≡ Some seg → asize_numbered f.asize ≡ Some asize
    → instr_back f ≡ Some (record {
      code = record { 0 = f.code };
      lock = lock;
      rep = rep;
      seg = seg;
      asize = asize;
      ops = slice_set (slice_set (slice_set (slice_set xs 0 a) 1 b) 2 c) 3 d;
    })
unfolding instr_back operands_back
instr_back_parts f xs a b c d lock rep seg asize four_of o0 o1 o2 o3 l r s z =
    rw o0 (rw o1 (rw o2 (rw o3 (rw l (rw r (rw s (rw z (rw (four_set xs a b c d four_of) refl))))))))

operands_back_flat : (i : Instr) (len : ℕ) → operands_back (flat_instr i len) ≡ Some (operand_at i 0 ∷ operand_at i 1 ∷ operand_at i 2 ∷ operand_at i 3 ∷ [])
unfolding operands_back flat_instr
operands_back_flat i len =
    let a = operand_at i 0 in
    let b = operand_at i 1 in
    let c = operand_at i 2 in
    let d = operand_at i 3 in
    ap (λ (x : Option Operand). operands_of x (operand_back (flat_operand b)) (operand_back (flat_operand c)) (operand_back (flat_operand d))) (operand_back_flat a)
    ∙ (ap (λ (x : Option Operand). operands_of (Some a) x (operand_back (flat_operand c)) (operand_back (flat_operand d))) (operand_back_flat b)
    ∙ (ap (λ (x : Option Operand). operands_of (Some a) (Some b) x (operand_back (flat_operand d))) (operand_back_flat c)
    ∙ ap (λ (x : Option Operand). operands_of (Some a) (Some b) (Some c) x) (operand_back_flat d)))

-- the operands of an instruction that has four
operands_are : (i : Instr) → length i.ops ≡ 4 → operand_at i 0 ∷ operand_at i 1 ∷ operand_at i 2 ∷ operand_at i 3 ∷ [] ≡ i.ops
operands_are i e =
    let (a, b, c, d, is) = four i.ops e in
    let P : List Operand → Type 0 = λ ops. operand_at (record i { ops = ops }) 0 ∷ operand_at (record i { ops = ops }) 1 ∷ operand_at (record i { ops = ops }) 2 ∷ operand_at (record i { ops = ops }) 3 ∷ [] ≡ ops in
    subst P (sym is) refl

-- and so is an instruction
pub instr_back_flat : (i : Instr) (len : ℕ) → length i.ops ≡ 4 → instr_back (flat_instr i len) ≡ Some i
unfolding instr_back flat_instr
instr_back_flat i len e =
    let ops = operands_back (flat_instr i len) in
    let lock = lock_numbered (lock_number i.lock) in
    let rep = rep_numbered (rep_number i.rep) in
    let seg = prefix_numbered (prefix_number i.seg) in
    let asize = asize_numbered (asize_number i.asize) in
    let code = i.code.0 in
    ap (λ (x : Option (List Operand)). instr_from_fields code x lock rep seg asize) (operands_back_flat i len ∙ ap Some (operands_are i e))
    ∙ (ap (λ (x : Option Bool). instr_from_fields code (Some i.ops) x rep seg asize) (lock_back i.lock)
    ∙ (ap (λ (x : Option Rep). instr_from_fields code (Some i.ops) (Some i.lock) x seg asize) (rep_back i.rep)
    ∙ (ap (λ (x : Option (Option Segment)). instr_from_fields code (Some i.ops) (Some i.lock) (Some i.rep) x asize) (prefix_back i.seg)
    ∙ ap (λ (x : Option (Option Bits)). instr_from_fields code (Some i.ops) (Some i.lock) (Some i.rep) (Some i.seg) x) (asize_back i.asize))))
