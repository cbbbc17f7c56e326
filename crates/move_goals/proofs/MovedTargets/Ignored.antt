-- What does not look at the target of an operand gives the same of an operand that is aimed elsewhere.
use Rattle.std.proofs.Common.{◌≡◌, ℕ, Bool, true, false, List, [], ◌∷◌, map, Option, Some, None, zero, suc, refl, ap, ◌∙◌, slice_index_or}
use Rattle.std.specs.Prelude.{if◌then◌else◌}
use Rattle.x86_values.specs.declared.Register.{Register}
use Rattle.x86_values.specs.declared.Register.TheVariants.{Eip, Rip}
use Rattle.x86_values.specs.declared.Mem.{Mem}
use Rattle.x86_values.specs.declared.Operand.{Operand}
use Rattle.x86_values.specs.declared.Operand.TheVariants.{Absent, Reg, Mem as Memory, Imm, Near, Far}
use Rattle.x86_values.specs.declared.Instr.{Instr}
use Rattle.instruction_parts.specs.declared.row_types.OpKind.{OpKind}
use Rattle.instruction_parts.specs.declared.kinds.Method.{Method}
use Rattle.instruction_parts.specs.Kinds.{method_of}
use Rattle.plain_spelling.specs.Forms.{operand_at}
use Rattle.plain_spelling.specs.PlainFront.{over_operands, asks_low_byte, is_low_byte_of_rex}
use Rattle.plain_spelling.specs.PlainTail.{operand_where}
use Rattle.move_goals.specs.MovedTargets.Targets.{aimed_base, aimed_operand, with_target}

-- ---- one operand

-- the displacement of an address that is aimed at t, by its base
abbrev pub aimed_disp : ℕ → Option Register → ℕ → ℕ
aimed_disp t (Some Rip) disp = t
aimed_disp t (Some Eip) disp = t
aimed_disp t base disp = disp

by_base : (t : ℕ) (m : Mem) (base : Option Register) → aimed_base t (Memory m) base ≡ Memory (record m { disp = aimed_disp t base m.disp })
unfolding aimed_base
by_base t m None = refl
by_base t m (Some Rip) = refl
by_base t m (Some Eip) = refl
by_base t m (Some _) = refl

-- an aimed memory operand differs in its displacement alone
pub with_target-memory : (t : ℕ) (m : Mem) → aimed_operand t (Memory m) ≡ Memory (record m { disp = aimed_disp t m.base m.disp })
unfolding aimed_operand
with_target-memory t m = by_base t m m.base

-- what looks neither at a displacement nor at a near target
pub record IgnoresTarget {T : Type 0} (f : Operand → T) : Type 0 where
  pub memory : (m : Mem) (disp : ℕ) → f (Memory (record m { disp = disp })) ≡ f (Memory m)
  pub near : (x y : ℕ) → f (Near x) ≡ f (Near y)

-- what ignores the target of an operand is the same of the aimed operand
pub ignored : {T : Type 0} (f : Operand → T) → IgnoresTarget f → (t : ℕ) (op : Operand) → f (aimed_operand t op) ≡ f op
unfolding aimed_operand
ignored f h t Absent = refl
ignored f h t (Reg r) = refl
ignored f h t (Memory m) = ap f (by_base t m m.base) ∙ h.memory m (aimed_disp t m.base m.disp)
ignored f h t (Imm x) = refl
ignored f h t (Near x) = h.near t x
ignored f h t (Far a b) = refl

-- ---- the operands of an instruction

at_mapped : (t : ℕ) (ops : List Operand) (n : ℕ) → slice_index_or (map (aimed_operand t) ops) n Absent ≡ aimed_operand t (slice_index_or ops n Absent)
unfolding aimed_operand
at_mapped t [] n = refl
at_mapped t (op ∷ ops) zero = refl
at_mapped t (op ∷ ops) (suc n) = at_mapped t ops n

-- operand n of the aimed instruction is operand n, aimed
pub operand_at-with_target : (t : ℕ) (i : Instr) (n : ℕ) → operand_at (with_target t i) n ≡ aimed_operand t (operand_at i n)
unfolding with_target
operand_at-with_target t i n = at_mapped t i.ops n

-- the same at each place of an instruction
pub at-with_target : {T : Type 0} (f : Operand → T) → IgnoresTarget f → (t : ℕ) (i : Instr) (n : ℕ) → f (operand_at (with_target t i) n) ≡ f (operand_at i n)
at-with_target f h t i n = ap f (operand_at-with_target t i n) ∙ ignored f h t (operand_at i n)

-- a sum over operands that ignores targets is that over the aimed operands
pub over_operands-map : (f : Method → Operand → ℕ) → ((how : Method) → IgnoresTarget (f how)) → (t : ℕ) (kinds : List OpKind) (ops : List Operand) → over_operands f kinds (map (aimed_operand t) ops) ≡ over_operands f kinds ops
over_operands-map f h t [] ops = refl
over_operands-map f h t (kind ∷ kinds) [] = refl
over_operands-map f h t (kind ∷ kinds) (op ∷ ops) =
    let a = ignored (f (method_of kind)) (h (method_of kind)) t op in
    let b = over_operands-map f h t kinds ops in
    rw (a, b) refl

chosen : (b : Bool) (t : ℕ) (op x y : Operand) → x ≡ aimed_operand t y → (if b then aimed_operand t op else x) ≡ aimed_operand t (if b then op else y)
chosen true t op x y e = refl
chosen false t op x y e = e

-- the first operand that is read by a method is aimed with the others
pub operand_where-map : (p : Method → Bool) (t : ℕ) (kinds : List OpKind) (ops : List Operand) → operand_where p kinds (map (aimed_operand t) ops) ≡ aimed_operand t (operand_where p kinds ops)
unfolding aimed_operand
operand_where-map p t [] ops = refl
operand_where-map p t (kind ∷ kinds) [] = refl
operand_where-map p t (kind ∷ kinds) (op ∷ ops) =
    chosen (p (method_of kind)) t op (operand_where p kinds (map (aimed_operand t) ops)) (operand_where p kinds ops) (operand_where-map p t kinds ops)

low_byte : IgnoresTarget is_low_byte_of_rex
unfolding is_low_byte_of_rex
low_byte = record { memory = λ m disp. refl; near = λ x y. refl }

-- whether an operand is a low byte register that needs a REX ignores targets
pub asks_low_byte-map : (t : ℕ) (ops : List Operand) → asks_low_byte (map (aimed_operand t) ops) ≡ asks_low_byte ops
asks_low_byte-map t [] = refl
asks_low_byte-map t (op ∷ ops) =
    let a = ignored is_low_byte_of_rex low_byte t op in
    let b = asks_low_byte-map t ops in
    rw (a, b) refl
