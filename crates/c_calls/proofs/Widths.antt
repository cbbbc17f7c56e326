-- Structs none of whose displacements leaves its width to the library.
use Rattle.std.proofs.Common.{◌≡◌, ℕ, Bool, true, false, List, Option, Some, None, refl, ap, ◌∙◌, arith}
use Rattle.std.proofs.lemmas.Bool.{cond-false}
use Rattle.x86_values.specs.declared.Bits.{Bits}
use Rattle.x86_values.specs.declared.Segment.{Segment}
use Rattle.x86_values.specs.declared.Register.{Register}
use Rattle.x86_values.specs.declared.Rep.{Rep}
use Rattle.x86_values.specs.declared.Operand.{Operand}
use Rattle.x86_values.specs.declared.Instr.{Instr}
use Rattle.encoder.specs.Encoding.{encoding}
use Rattle.c_calls.specs.declared.flat.FlatOperand.{FlatOperand}
use Rattle.c_calls.specs.declared.flat.FlatInstr.{FlatInstr}
use Rattle.c_calls.specs.Numbers.{bits_numbered, disp_numbered, lock_numbered, rep_numbered, prefix_numbered, asize_numbered}
use Rattle.c_calls.specs.Back.{memory_from_fields, operand_back, operands_of, operands_back, instr_from_fields, instr_back}
use Rattle.c_calls.specs.Answers.{encoding_of, encoding_told, has_open_width, with_width, of_width, open_width, with_displacement_size, encode_answer}

closed : (w : ℕ) (op : FlatOperand) → has_open_width op ≡ false → with_width w op ≡ op
closed w op h = cond-false (has_open_width op) (record op { disp_bits = w }) op h

-- such a struct stays as it is, whatever the width
pub of_width_closed : (w : ℕ) (f : FlatInstr) → has_open_width f.op0 ≡ false → has_open_width f.op1 ≡ false → has_open_width f.op2 ≡ false → has_open_width f.op3 ≡ false → of_width w f ≡ f
unfolding of_width
of_width_closed w f a b c d =
    ap (λ (x : FlatOperand). record f { op0 = x; op1 = with_width w f.op1; op2 = with_width w f.op2; op3 = with_width w f.op3 }) (closed w f.op0 a)
    ∙ (ap (λ (x : FlatOperand). record f { op1 = x; op2 = with_width w f.op2; op3 = with_width w f.op3 }) (closed w f.op1 b)
    ∙ (ap (λ (x : FlatOperand). record f { op2 = x; op3 = with_width w f.op3 }) (closed w f.op2 c)
    ∙ ap (λ (x : FlatOperand). record f { op3 = x }) (closed w f.op3 d)))

-- ---- what stands for an instruction leaves no width

-- an address whose displacement has no width is none
no_width : (scale disp : ℕ) (base index : Option (Option Register)) → memory_from_fields scale disp base index None ≡ None
no_width scale disp None index = refl
no_width scale disp (Some base) None = refl
no_width scale disp (Some base) (Some index) = refl

at_255 : (op : FlatOperand) → op.kind ≡ 2 → op.disp_bits ≡ 255 → operand_back op ≡ None
unfolding operand_back disp_numbered
at_255 op kind bits = rw kind (rw bits (no_width op.scale op.value _ _))

-- an operand that leaves its width is none
open_is_none : (op : FlatOperand) → has_open_width op ≡ true → operand_back op ≡ None
open_is_none op h = at_255 op (grind arith) (grind arith)

not_open : (b : Bool) → (b ≡ true → ⊥) → b ≡ false
not_open false h = refl
not_open true h = absurd (h refl)

some_is_closed : (op : FlatOperand) (o : Operand) → operand_back op ≡ Some o → has_open_width op ≡ false
some_is_closed op o h = not_open (has_open_width op) (λ t. absurd (cc (h, open_is_none op t)))

-- four operands that are together are each one
record Each (a b c d : Option Operand) : Type 0 where
  o0 : Operand
  o1 : Operand
  o2 : Operand
  o3 : Operand
  is0 : a ≡ Some o0
  is1 : b ≡ Some o1
  is2 : c ≡ Some o2
  is3 : d ≡ Some o3

each : (a b c d : Option Operand) (ops : List Operand) → operands_of a b c d ≡ Some ops → Each a b c d
each (Some a) (Some b) (Some c) (Some d) ops h = record { o0 = a; o1 = b; o2 = c; o3 = d; is0 = refl; is1 = refl; is2 = refl; is3 = refl }
each None b c d ops h = cc
each (Some a) None c d ops h = cc
each (Some a) (Some b) None d ops h = cc
each (Some a) (Some b) (Some c) None ops h = cc

ops_of : (code : ℕ) (ops : Option (List Operand)) (lock : Option Bool) (rep : Option Rep) (seg : Option (Option Segment)) (asize : Option (Option Bits)) (i : Instr)
    → instr_from_fields code ops lock rep seg asize ≡ Some i → (xs : List Operand) × (ops ≡ Some xs)
ops_of code (Some xs) lock rep seg asize i h = (xs, refl)
ops_of code None lock rep seg asize i h = cc

each_back : (f : FlatInstr) (i : Instr) → instr_back f ≡ Some i → Each (operand_back f.op0) (operand_back f.op1) (operand_back f.op2) (operand_back f.op3)
unfolding instr_back operands_back
each_back f i h =
    let (xs, is) = ops_of f.code (operands_back f) (lock_numbered f.lock) (rep_numbered f.rep) (prefix_numbered f.segment) (asize_numbered f.asize) i h in
    each (operand_back f.op0) (operand_back f.op1) (operand_back f.op2) (operand_back f.op3) xs is

-- a struct that stands for an instruction has its widths already
sized_same : (bits ip : ℕ) (f : FlatInstr) (i : Instr) → instr_back f ≡ Some i → with_displacement_size bits ip f ≡ f
sized_same bits ip f i h =
    let e = each_back f i h in
    of_width_closed (open_width bits ip f) f (some_is_closed f.op0 e.o0 e.is0) (some_is_closed f.op1 e.o1 e.is1) (some_is_closed f.op2 e.o2 e.is2) (some_is_closed f.op3 e.o3 e.is3)

-- the bytes of such a struct are those of its instruction
pub encode_answer_is : (bits ip : ℕ) (f : FlatInstr) (mode : Bits) (i : Instr) → bits_numbered bits ≡ Some mode → instr_back f ≡ Some i
    → encode_answer bits ip f ≡ encoding_told i (encoding mode ip i)
unfolding encoding_of
encode_answer_is bits ip f mode i m h =
    ap (λ (s : FlatInstr). encoding_of (bits_numbered bits) ip (instr_back s)) (sized_same bits ip f i h)
    ∙ (ap (λ (b : Option Bits). encoding_of b ip (instr_back f)) m ∙ ap (λ (x : Option Instr). encoding_of (Some mode) ip x) h)

-- and with its widths it stands for that instruction too
pub instr_back_sized : (bits ip : ℕ) (f : FlatInstr) (i : Instr) → instr_back f ≡ Some i → instr_back (with_displacement_size bits ip f) ≡ Some i
instr_back_sized bits ip f i h = ap instr_back (sized_same bits ip f i h) ∙ h
