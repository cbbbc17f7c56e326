-- What an instruction is aimed at, before and after it is aimed elsewhere.
use Rattle.std.proofs.Common.{◌≡◌, ℕ, List, [], ◌∷◌, length, map, Option, Some, None, refl, ap, ◌∙◌, slice_index_or, arith}
use Rattle.std.specs.Option.{option_or}
use Rattle.x86_values.specs.declared.Register.{Register}
use Rattle.x86_values.specs.declared.Register.TheVariants.{Eip, Rip}
use Rattle.x86_values.specs.declared.Mem.{Mem}
use Rattle.x86_values.specs.declared.Operand.{Operand}
use Rattle.x86_values.specs.declared.Operand.TheVariants.{Absent, Reg, Mem as Memory, Imm, Near, Far}
use Rattle.x86_values.specs.declared.Instr.{Instr}
use Rattle.plain_spelling.specs.Forms.{operand_at}
use Rattle.operand_info.specs.Operands.{near_value, ip_value, first_value}
use Rattle.move_goals.specs.MovedTargets.Targets.{target_of, aimed_operand, aimed_base, with_target}
use Rattle.move_goals.proofs.MovedTargets.Ignored.{with_target-memory, operand_at-with_target}

-- ---- the target is the other one

-- another value where there is one
abbrev pub instead : ℕ → Option ℕ → Option ℕ
instead t None = None
instead t (Some x) = Some t

instead-or : (t : ℕ) (a b : Option ℕ) → option_or (instead t a) (instead t b) ≡ instead t (option_or a b)
instead-or t None b = refl
instead-or t (Some x) b = refl

near_instead : (t : ℕ) (op : Operand) → near_value (aimed_operand t op) ≡ instead t (near_value op)
unfolding near_value aimed_operand
near_instead t Absent = refl
near_instead t (Reg r) = refl
near_instead t (Memory m) = ap near_value (with_target-memory t m)
near_instead t (Imm x) = refl
near_instead t (Near x) = refl
near_instead t (Far a b) = refl

-- the value at a base
abbrev pub value_at : Option Register → ℕ → Option ℕ
value_at base disp = elim base [ None ↦ None | Some r ↦ elim r [ Rip ↦ Some disp | Eip ↦ Some disp | _ ↦ None ] ]

ip_base : (t : ℕ) (m : Mem) (base : Option Register) → m.base ≡ base → ip_value (aimed_base t (Memory m) base) ≡ instead t (value_at base m.disp)
unfolding ip_value aimed_base
ip_base t m None e = rw e refl
ip_base t m (Some Rip) e = rw e refl
ip_base t m (Some Eip) e = rw e refl
ip_base t m (Some _) e = rw e refl

ip_instead : (t : ℕ) (op : Operand) → ip_value (aimed_operand t op) ≡ instead t (ip_value op)
unfolding ip_value aimed_operand
ip_instead t Absent = refl
ip_instead t (Reg r) = refl
ip_instead t (Memory m) = ip_base t m m.base refl
ip_instead t (Imm x) = refl
ip_instead t (Near x) = refl
ip_instead t (Far a b) = refl

first-instead : (value : Operand → Option ℕ) (t : ℕ) → ((op : Operand) → value (aimed_operand t op) ≡ instead t (value op)) → (i : Instr) → first_value value (with_target t i) ≡ instead t (first_value value i)
first-instead value t h i =
    let at = λ (n : ℕ). ap value (operand_at-with_target t i n) ∙ h (operand_at i n) in
    let v = λ (n : ℕ). value (operand_at i n) in
    rw (at 0, at 1, at 2, at 3, instead-or t (v 2) (v 3), instead-or t (v 1) (option_or (v 2) (v 3)), instead-or t (v 0) (option_or (v 1) (option_or (v 2) (v 3)))) refl

-- **the target is the other one, where there is one**
pub target-with_target : (t : ℕ) (i : Instr) → target_of (with_target t i) ≡ instead t (target_of i)
unfolding target_of
target-with_target t i =
    rw (first-instead near_value t (near_instead t) i, first-instead ip_value t (ip_instead t) i) (instead-or t (first_value near_value i) (first_value ip_value i))

-- an instruction that is aimed at a target has that target
pub with_target-target : (t old : ℕ) (i : Instr) → target_of i ≡ Some old → target_of (with_target t i) ≡ Some t
with_target-target t old i h = target-with_target t i ∙ ap (instead t) h

-- ---- nothing is aimed without a target

-- neither of two is there where the first that is, is not
pub or_none : (a b : Option ℕ) → option_or a b ≡ None → (a ≡ None) × (b ≡ None)
or_none None b h = (refl, h)
or_none (Some x) b h = cc

same_base : (t : ℕ) (m : Mem) (base : Option Register) → value_at base m.disp ≡ None → aimed_base t (Memory m) base ≡ Memory m
unfolding aimed_base
same_base t m None h = refl
same_base t m (Some Rip) h = cc
same_base t m (Some Eip) h = cc
same_base t m (Some _) h = refl

-- an operand without a target stays as it is when it is aimed
pub operand-untargeted : (t : ℕ) (op : Operand) → near_value op ≡ None → ip_value op ≡ None → aimed_operand t op ≡ op
unfolding near_value ip_value aimed_operand
operand-untargeted t Absent a b = refl
operand-untargeted t (Reg r) a b = refl
operand-untargeted t (Memory m) a b = same_base t m m.base b
operand-untargeted t (Imm x) a b = refl
operand-untargeted t (Near x) a b = cc
operand-untargeted t (Far x y) a b = refl

-- what holds of no value of an instruction holds of none of its operands
pub record NoValue (value : Operand → Option ℕ) (i : Instr) : Type 0 where
  pub first : value (operand_at i 0) ≡ None
  pub second : value (operand_at i 1) ≡ None
  pub third : value (operand_at i 2) ≡ None
  pub fourth : value (operand_at i 3) ≡ None

-- without a first value no operand has one
pub no_value : (value : Operand → Option ℕ) (i : Instr) → first_value value i ≡ None → NoValue value i
no_value value i h =
    let v = λ (n : ℕ). value (operand_at i n) in
    let a = or_none (v 0) (option_or (v 1) (option_or (v 2) (v 3))) h in
    let b = or_none (v 1) (option_or (v 2) (v 3)) a.1 in
    let c = or_none (v 2) (v 3) b.1 in
    record { first = a.0; second = b.0; third = c.0; fourth = c.1 }

four_same : (g : Operand → Operand) (ops : List Operand) → length ops ≡ 4 → g (slice_index_or ops 0 Absent) ≡ slice_index_or ops 0 Absent → g (slice_index_or ops 1 Absent) ≡ slice_index_or ops 1 Absent → g (slice_index_or ops 2 Absent) ≡ slice_index_or ops 2 Absent → g (slice_index_or ops 3 Absent) ≡ slice_index_or ops 3 Absent → map g ops ≡ ops
four_same g [] four a b c d = absurd (omega arith)
four_same g (x ∷ []) four a b c d = absurd (omega arith)
four_same g (x ∷ y ∷ []) four a b c d = absurd (omega arith)
four_same g (x ∷ y ∷ z ∷ []) four a b c d = absurd (omega arith)
four_same g (x ∷ y ∷ z ∷ w ∷ []) four a b c d = rw (a, b, c, d) refl
four_same g (x ∷ y ∷ z ∷ w ∷ v ∷ more) four a b c d = absurd (omega arith)

-- **what has no target stays as it is**
pub untargeted-with_target : (t : ℕ) (i : Instr) → length i.ops ≡ 4 → target_of i ≡ None → with_target t i ≡ i
unfolding target_of with_target
untargeted-with_target t i four h =
    let none = or_none (first_value near_value i) (first_value ip_value i) h in
    let near = no_value near_value i none.0 in
    let ip = no_value ip_value i none.1 in
    ap (λ (ops : List Operand). record i { ops = ops }) (four_same (aimed_operand t) i.ops four
    (operand-untargeted t (operand_at i 0) near.first ip.first)
    (operand-untargeted t (operand_at i 1) near.second ip.second)
    (operand-untargeted t (operand_at i 2) near.third ip.third)
    (operand-untargeted t (operand_at i 3) near.fourth ip.fourth))
