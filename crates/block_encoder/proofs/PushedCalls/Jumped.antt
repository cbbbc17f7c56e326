-- The jump goes where the CALL goes.
use Rattle.std.proofs.Common.{◌≡◌, ℕ, ◌+◌, ◌*◌, ◌%◌, ◌^◌, ◌<◌, ◌≤◌, Bool, true, false, [], ◌∷◌, Option, Some, None, refl, subst, arith}
use Rattle.std.specs.Prelude.{◌==◌, if◌then◌else◌}
use Rattle.std.proofs.lemmas.Bool.{leb-false}
use Rattle.x86_values.specs.declared.Bits.{Bits}
use Rattle.x86_values.specs.declared.Bits.TheVariants.{B16, B32, B64}
use Rattle.x86_values.specs.declared.Register.{Register}
use Rattle.x86_values.specs.declared.Register.TheVariants.{R32, R64, Eip, Rip}
use Rattle.x86_values.specs.declared.Mem.{Mem}
use Rattle.x86_values.specs.declared.Operand.{Operand}
use Rattle.x86_values.specs.declared.Operand.TheVariants.{Absent, Reg, Mem as Memory, Near}
use Rattle.x86_values.specs.declared.Instr.{Instr}
use Rattle.x86_values.specs.Wrapping.{width, modulo_width}
use Rattle.instruction_parts.specs.Sizes.{size_bytes}
use Rattle.plain_spelling.specs.Forms.{operand_at}
use Rattle.operand_info.specs.Operands.{near_value, ip_value}
use Rattle.move_goals.specs.declared.branch_forms.branch.Action.TheVariants.{Jump, Call}
use Rattle.move_goals.specs.BranchForms.Branches.{near_code}
use Rattle.move_goals.specs.BranchForms.Images.{branch_to}
use Rattle.block_encoder.specs.PushedCalls.Rows.{call_code, jump_code}
use Rattle.block_encoder.specs.PushedCalls.Jumps.{is_stack_pointer, register_behind, stack_size, is_below, raised_to, raised, memory_behind, operand_behind, jump_to, direct_jump, indirect_jump, jump_of}
use Rattle.block_encoder.specs.PushedCalls.Facts.{HasSameTarget, IsRaised, JumpedFacts}

-- ---- a register, or an address

operand-is : (a b : Operand) → Some a ≡ Some b → a ≡ b
operand-is a b e = cc

jump-is : (a b : Instr) → Some a ≡ Some b → a ≡ b
jump-is a b e = cc

-- an operand that there may be has the target of another
abbrev KeepsTarget : Option Operand → Operand → Type 0
KeepsTarget o op = (new : Operand) → o ≡ Some new → HasSameTarget new op

no-operand : (op : Operand) → KeepsTarget None op
no-operand op new e = absurd cc

one-operand : (a op : Operand) → HasSameTarget a op → KeepsTarget (Some a) op
one-operand a op same new e = subst (λ (o : Operand). HasSameTarget o op) (operand-is a new e) same

same-operand : (op : Operand) → KeepsTarget (Some op) op
same-operand op = one-operand op op (record { near = refl; ip = refl })

by-test : (t : Bool) (o : Option Operand) (op : Operand) → KeepsTarget o op → KeepsTarget (if t then None else o) op
by-test true o op keeps = no-operand op
by-test false o op keeps = keeps

-- an address at another base than RIP and EIP has no target, whatever its displacement is
plain-base : (base : Option Register) (size : Bits) → stack_size base ≡ Some size → (m : Mem) → m.base ≡ base → (disp : ℕ)
    → HasSameTarget (Memory (raised_to m disp)) (Memory m)
unfolding near_value ip_value
plain-base None size e m is disp = absurd cc
plain-base (Some (R32 k)) size e m is disp = record { near = refl; ip = rw is refl }
plain-base (Some (R64 k)) size e m is disp = record { near = refl; ip = rw is refl }
plain-base (Some _) size e m is disp = absurd cc

raised-keeps : (bits asize : Bits) (m : Mem) → stack_size m.base ≡ Some asize → KeepsTarget (raised bits asize m) (Memory m)
unfolding raised
raised-keeps bits asize m e =
    let up : Operand = Memory (raised_to m (modulo_width asize (m.disp + size_bytes bits))) in
    by-test (is_below asize m) (Some up) (Memory m) (one-operand up (Memory m) (plain-base m.base asize e m refl (modulo_width asize (m.disp + size_bytes bits))))

memory-keeps : (bits : Bits) (m : Mem) (size : Option Bits) → stack_size m.base ≡ size → KeepsTarget (memory_behind bits m size) (Memory m)
memory-keeps bits m None e = same-operand (Memory m)
memory-keeps bits m (Some asize) e = raised-keeps bits asize m e

behind-keeps : (bits : Bits) (op : Operand) → KeepsTarget (operand_behind bits op) op
unfolding operand_behind
behind-keeps bits (Reg r) = by-test (is_stack_pointer r) (Some (Reg r)) (Reg r) (same-operand (Reg r))
behind-keeps bits (Memory m) = memory-keeps bits m (stack_size m.base) refl
behind-keeps bits op = no-operand op

-- ---- the jump

-- a jump that there may be has the target of an operand
abbrev GoesThere : Option Instr → Operand → Type 0
GoesThere o op = (j : Instr) → o ≡ Some j → HasSameTarget (operand_at j 0) op

no-jump : (op : Operand) → GoesThere None op
no-jump op j e = absurd cc

one-jump : (a : Instr) (op : Operand) → HasSameTarget (operand_at a 0) op → GoesThere (Some a) op
one-jump a op same j e = subst (λ (i : Instr). HasSameTarget (operand_at i 0) op) (jump-is a j e) same

direct-goes : (bits : Bits) (op : Operand) → GoesThere (direct_jump bits op) op
unfolding jump_to branch_to
direct-goes bits (Near t) = one-jump (jump_to bits t) (Near t) (record { near = refl; ip = refl })
direct-goes bits op = no-jump op

indirect-goes : (bits : Bits) (i : Instr) (o : Option Operand) (op : Operand) → KeepsTarget o op → GoesThere (indirect_jump bits i o) op
indirect-goes bits i None op keeps = no-jump op
indirect-goes bits i (Some new) op keeps =
    one-jump (record i { code = record { 0 = jump_code bits }; ops = new ∷ Absent ∷ Absent ∷ Absent ∷ [] }) op (keeps new refl)

goes-by : (t u : Bool) (a b : Option Instr) (op : Operand) → GoesThere a op → GoesThere b op → GoesThere (if t then a else (if u then b else None)) op
goes-by true u a b op p q = p
goes-by false true a b op p q = q
goes-by false false a b op p q = no-jump op

-- **the jump has the target of the CALL**
same-target : (bits : Bits) (i j : Instr) → jump_of bits i ≡ Some j → HasSameTarget (operand_at j 0) (operand_at i 0)
unfolding jump_of
same-target bits i =
    goes-by (i.code.0 == near_code Call bits) (i.code.0 == call_code bits) (direct_jump bits (operand_at i 0))
    (indirect_jump bits i (operand_behind bits (operand_at i 0))) (operand_at i 0) (direct-goes bits (operand_at i 0))
    (indirect-goes bits i (operand_behind bits (operand_at i 0)) (operand_at i 0) (behind-keeps bits (operand_at i 0)))

-- ---- an address at the stack pointer

same-address : (bits asize : Bits) (pointer disp : ℕ)
    → modulo_width asize (pointer + modulo_width asize (disp + size_bytes bits)) ≡ modulo_width asize (pointer + size_bytes bits + disp)
same-address bits B16 pointer disp = omega arith
same-address bits B32 pointer disp = omega arith
same-address bits B64 pointer disp = omega arith

-- a displacement that is not negative stays positive
stays-above : (bits asize : Bits) (disp : ℕ) → 2 * disp < 2 ^ width asize → size_bytes bits ≤ modulo_width asize (disp + size_bytes bits)
stays-above B16 B16 disp lt = omega (arith, lt)
stays-above B16 B32 disp lt = omega (arith, lt)
stays-above B16 B64 disp lt = omega (arith, lt)
stays-above B32 B16 disp lt = omega (arith, lt)
stays-above B32 B32 disp lt = omega (arith, lt)
stays-above B32 B64 disp lt = omega (arith, lt)
stays-above B64 B16 disp lt = omega (arith, lt)
stays-above B64 B32 disp lt = omega (arith, lt)
stays-above B64 B64 disp lt = omega (arith, lt)

raised-by : (bits asize : Bits) (m : Mem) (t : Bool) → is_below asize m ≡ t → (n : Mem)
    → (if t then None else Some (Memory (raised_to m (modulo_width asize (m.disp + size_bytes bits))))) ≡ Some (Memory n) → IsRaised bits asize m n
raised-by bits asize m true below n e = absurd cc
raised-by bits asize m false below n e =
    let h : raised_to m (modulo_width asize (m.disp + size_bytes bits)) ≡ n = cc in
    subst (IsRaised bits asize m) h (record {
      base = refl;
      index = refl;
      scale = refl;
      address = λ pointer. same-address bits asize pointer m.disp;
      above = λ none. stays-above bits asize m.disp (lower none);
    })
  where
    lower : m.index ≡ None → 2 * m.disp < 2 ^ width asize
    lower none = leb-false (2 ^ width asize) (2 * m.disp) (rw none at below)

-- **an address at the stack pointer is raised to the one that the CALL names**
raised-is : (bits asize : Bits) (m n : Mem) → raised bits asize m ≡ Some (Memory n) → IsRaised bits asize m n
unfolding raised
raised-is bits asize m n e = raised-by bits asize m (is_below asize m) refl n e

-- what holds of the jump
pub jumped_facts : JumpedFacts
jumped_facts = record { same-target = same-target; raised-is = raised-is }
