-- What the operands of an instruction need of the bits R, X, B and of a REX is what the plain front asks for by them.
use Rattle.std.proofs.Common.{◌≡◌, inl, inr, ℕ, ◌+◌, ◌≤◌, Bool, true, false, ◌&&◌, ◌||◌, nat_le, List, [], ◌∷◌, Option, Some, None, refl, ap, sym, ◌∙◌, subst, arith, if◌then◌else◌}
use Rattle.std.proofs.lemmas.Bool.{cases_Bool}
use Rattle.x86_values.specs.declared.Bits.{Bits}
use Rattle.x86_values.specs.declared.Code.{Code}
use Rattle.x86_values.specs.declared.Register.{Register}
use Rattle.x86_values.specs.declared.Operand.{Operand}
use Rattle.x86_values.specs.declared.Operand.TheVariants.{Absent as AbsentOperand, Reg, Mem as MemOperand, Imm, Near, Far}
use Rattle.x86_values.specs.declared.Instr.{Instr}
use Rattle.instruction_parts.specs.declared.row_types.Row.{Row}
use Rattle.instruction_parts.specs.declared.row_types.OpKind.{OpKind}
use Rattle.instruction_parts.specs.declared.kinds.Method.{Method}
use Rattle.instruction_parts.specs.declared.kinds.Method.TheVariants as method
use Rattle.instruction_parts.specs.declared.spelling.Spelling.{Spelling}
use Rattle.instruction_parts.specs.declared.spelling.PrefixState.{PrefixState}
use Rattle.instruction_parts.specs.Kinds.{method_of}
use Rattle.row_fit.specs.Sound.{Sound, reads_reg, reads_rm, reads_opcode}
use Rattle.row_meaning.specs.Meaning.{Tail, instr_of, meaning}
use Rattle.plain_spelling.specs.PlainFront.{register_number, number_or_zero, is_low_byte_of_rex, over_operands, base_or_register_number, number_in_reg, number_in_rm, number_in_index, asks_r, asks_x, asks_b, asks_low_byte}
use Rattle.row_relation.specs.GivenSpelling.{Given}
use Rattle.row_relation.proofs.NeedWalking.{Hold, readers, readers_yes, readers_no, Silent, asked_none}
use Rattle.row_relation.proofs.NeedAsks.{each_read, one_of_b, apart, placed, silent_reg, silent_rm, silent_index}
use Rattle.row_relation.proofs.NeedUsed.{read_is}
use Rattle.row_relation.specs.IsPlain.{meant_operands, any_operand, is_high_register, is_high, has_high_base, has_high_index, needs_r, needs_x, needs_b, names_low_byte}

-- ---- a number of 8 or more among operands of which at most one has a number

-- a test is that of a number
abbrev Tests : (Method → Operand → Bool) → (Method → Operand → ℕ) → Type 0
Tests p f = (how : Method) (op : Operand) → p how op ≡ nat_le 8 (f how op)

sum_left : (a b : ℕ) → a + b ≡ 0 → a ≡ 0
sum_left a b h = omega arith

sum_right : (a b : ℕ) → a + b ≡ 0 → b ≡ 0
sum_right a b h = omega arith

neither : (p q : Bool) (n : ℕ) → p ≡ nat_le 8 n → n ≡ 0 → q ≡ false → (p || q) ≡ false
neither p q n h e k = rw (h, e, k) refl

none_high : (p : Method → Operand → Bool) (f : Method → Operand → ℕ) (kinds : List OpKind) (ops : List Operand) → Tests p f → over_operands f kinds ops ≡ 0 → any_operand p kinds ops ≡ false
none_high p f [] ops t h = refl
none_high p f (kind ∷ kinds) [] t h = refl
none_high p f (kind ∷ kinds) (op ∷ ops) t h =
    neither _ _ (f (method_of kind) op) (t (method_of kind) op) (sum_left (f (method_of kind) op) _ h) (none_high p f kinds ops t (sum_right (f (method_of kind) op) _ h))

or_false : (b : Bool) → (b || false) ≡ b
or_false true = refl
or_false false = refl

this_one : (p q : Bool) (n m : ℕ) → p ≡ nat_le 8 n → m ≡ 0 → q ≡ false → (p || q) ≡ nat_le 8 (n + m)
this_one p q n m h e k =
    let s : n + m ≡ n = omega arith in ap (λ (x : Bool). p || x) k ∙ or_false p ∙ h ∙ ap (λ (x : ℕ). nat_le 8 x) (sym s)

another : (p q : Bool) (n m : ℕ) → p ≡ nat_le 8 n → n ≡ 0 → q ≡ nat_le 8 m → (p || q) ≡ nat_le 8 (n + m)
another p q n m h e k =
    let s : n + m ≡ m = omega arith in
    let z : p ≡ false = h ∙ ap (λ (x : ℕ). nat_le 8 x) e in
    ap (λ (x : Bool). x || q) z ∙ k ∙ ap (λ (x : ℕ). nat_le 8 x) (sym s)

-- **some operand passes exactly where the number that is asked of the field is 8 or more**
any_high : (p : Method → Operand → Bool) (q : Method → Bool) (f : Method → Operand → ℕ) (kinds : List OpKind) (ops : List Operand) → Tests p f → readers q kinds ≤ 1 → Hold (Silent q f) kinds ops → any_operand p kinds ops ≡ nat_le 8 (over_operands f kinds ops)
any_high p q f [] ops t n h = refl
any_high p q f (kind ∷ kinds) [] t n h = refl
any_high p q f (kind ∷ kinds) (op ∷ ops) t n h = elim (cases_Bool (q (method_of kind))) [
  | inl e ↦ (let rest = asked_none q f kinds ops (readers_yes q kind kinds e n) h.1 in
      this_one _ _ (f (method_of kind) op) _ (t (method_of kind) op) rest (none_high p f kinds ops t rest))
  | inr e ↦ another _ _ (f (method_of kind) op) _ (t (method_of kind) op) (h.0 e) (any_high p q f kinds ops t (readers_no q kind kinds 1 e n) h.1)
]

-- ---- the tests

tests_reg : Tests (λ how op. reads_reg how && is_high_register op) number_in_reg
unfolding number_in_reg
tests_reg method.ModRmReg AbsentOperand = refl
tests_reg method.ModRmReg (Reg r) = refl
tests_reg method.ModRmReg (MemOperand m) = refl
tests_reg method.ModRmReg (Imm x) = refl
tests_reg method.ModRmReg (Near x) = refl
tests_reg method.ModRmReg (Far a b) = refl
tests_reg _ op = refl

high_is : (o : Option Register) → is_high o ≡ nat_le 8 (number_or_zero o)
high_is None = refl
high_is (Some r) = refl

tests_index : Tests (λ how op. has_high_index op) number_in_index
unfolding number_in_index
tests_index how AbsentOperand = refl
tests_index how (Reg r) = refl
tests_index how (MemOperand m) = high_is m.index
tests_index how (Imm x) = refl
tests_index how (Near x) = refl
tests_index how (Far a b) = refl

tests_base : (op : Operand) → (is_high_register op || has_high_base op) ≡ nat_le 8 (base_or_register_number op)
tests_base AbsentOperand = refl
tests_base (Reg r) = or_false (nat_le 8 (register_number r))
tests_base (MemOperand m) = high_is m.base
tests_base (Imm x) = refl
tests_base (Near x) = refl
tests_base (Far a b) = refl

tests_rm : Tests (λ how op. (reads_rm how || reads_opcode how) && (is_high_register op || has_high_base op)) number_in_rm
unfolding number_in_rm
tests_rm method.RegisterOrMemory op = tests_base op
tests_rm method.RegisterOnly op = tests_base op
tests_rm method.MemoryOnly op = tests_base op
tests_rm method.AnyMode op = tests_base op
tests_rm method.Gather op = tests_base op
tests_rm method.OpcodeLow op = tests_base op
tests_rm _ op = refl

-- ---- what is needed is what is asked for

same_low : (ops : List Operand) → names_low_byte ops ≡ asks_low_byte ops
same_low [] = refl
same_low (op ∷ ops) = ap (λ (x : Bool). is_low_byte_of_rex op || x) (same_low ops)

pub record NeedsAre (row : Row) (i : Instr) : Type 0 where
  pub r : needs_r row i.ops ≡ asks_r row i
  pub x : needs_x row i.ops ≡ asks_x row i
  pub b : needs_b row i.ops ≡ asks_b row i
  pub low : names_low_byte i.ops ≡ asks_low_byte i.ops

needs_of_read : (bits : Bits) (code : Code) (row : Row) (st : PrefixState) (t : Tail) (imm : List ℕ) → Sound row → NeedsAre row (instr_of bits code row st t imm)
unfolding asks_r asks_x asks_b
needs_of_read bits code row st t imm sound =
    let i = instr_of bits code row st t imm in
    let a = apart row sound.apart in
    let p = placed row sound.operands sound.plus in
    record {
      r = any_high _ reads_reg number_in_reg row.ops i.ops tests_reg a.reg
          (each_read (Silent reads_reg number_in_reg) bits code row st t imm sound.four_operands (λ kind own. silent_reg _ (method_of kind)));
      x = any_high _ reads_rm number_in_index row.ops i.ops tests_index a.rm
          (each_read (Silent reads_rm number_in_index) bits code row st t imm sound.four_operands (λ kind own. silent_index bits row st t kind (method_of kind) own));
      b = any_high _ (λ m. reads_rm m || reads_opcode m) number_in_rm row.ops i.ops tests_rm (one_of_b row a p)
          (each_read (Silent (λ m. reads_rm m || reads_opcode m) number_in_rm) bits code row st t imm sound.four_operands (λ kind own. silent_rm _ (method_of kind)));
      low = same_low i.ops;
    }

-- **of what a fitting spelling means**
pub needs_are : (bits : Bits) (ip : ℕ) (code : Code) (row : Row) (s : Spelling) (i : Instr) → Given bits ip code row s i → NeedsAre row i
needs_are bits ip code row s i g =
    subst (NeedsAre row) (read_is bits ip code row s i g) (needs_of_read bits code row _ _ _ g.is_sound)

same_ops : (bits : Bits) (ip : ℕ) (code : Code) (row : Row) (s : Spelling) → meant_operands bits ip row s ≡ (meaning bits ip code row s).ops
unfolding meaning instr_of
same_ops bits ip code row s = refl

-- the operands that a spelling means are those of the instruction
pub meant_are : (bits : Bits) (ip : ℕ) (code : Code) (row : Row) (s : Spelling) (i : Instr) → Given bits ip code row s i → meant_operands bits ip row s ≡ i.ops
meant_are bits ip code row s i g = same_ops bits ip code row s ∙ ap (λ (x : Instr). x.ops) g.means
