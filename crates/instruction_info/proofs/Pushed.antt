-- Lists of uses to which the uses of one operand after another are appended.
use Rattle.std.proofs.Common.{◌≡◌, ◌+◌, Bool, true, false, List, [], ◌∷◌, ◌++◌, length, refl, ap, sym, ◌∙◌, arith, append_assoc, length-append}
use Rattle.std.specs.Prelude.{Option, Some, None, is_some}
use Rattle.std.specs.Option.{option_or}
use Rattle.std.proofs.lemmas.List.{append-nil}
use Rattle.x86_values.specs.declared.Instr.{Instr}
use Rattle.operand_info.specs.declared.registers.RegUse.{RegUse}
use Rattle.operand_info.specs.Operands.{uses_at, uses}
use Rattle.instruction_info.specs.declared.memory.MemoryUse.{MemoryUse}
use Rattle.instruction_info.specs.declared.registers.RegisterUse.{RegisterUse}
use Rattle.instruction_info.specs.Memory.{use_list}
use Rattle.instruction_info.specs.Registers.{operand_access, named_uses}

-- ---- memory

-- what is appended of an operand that has a use is what is appended of the first of two that has one
pub first_used : (old new : List MemoryUse) (a b : Option MemoryUse) (used : Bool) → new ≡ old ++ use_list a → used ≡ is_some a → used ≡ true →
    new ≡ old ++ use_list (option_or a b)
first_used old new None b used e is there = cc
first_used old new (Some m) b used e is there = e

-- where the first operand has none, what is appended of the second is what is appended of the first that has one
pub next_used : (old new next : List MemoryUse) (a b : Option MemoryUse) (used : Bool) → new ≡ old ++ use_list a → used ≡ is_some a → used ≡ false →
    next ≡ new ++ use_list b → next ≡ old ++ use_list (option_or a b)
next_used old new next None b used e is none f = f ∙ ap (λ (l : List MemoryUse). l ++ use_list b) (e ∙ append-nil old)
next_used old new next (Some m) b used e is none f = cc

-- ---- registers

abbrev used_as : Bool → RegUse → RegisterUse
used_as replaced u = record { reg = u.reg; access = operand_access replaced u.access }

named-append : (replaced : Bool) (a b : List RegUse) → named_uses replaced (a ++ b) ≡ named_uses replaced a ++ named_uses replaced b
unfolding named_uses
named-append replaced [] b = refl
named-append replaced (u ∷ a) b = ap (λ (l : List RegisterUse). used_as replaced u ∷ l) (named-append replaced a b)

-- the uses of two parts of an operand, one after the other
pub two_named : (replaced : Bool) (a b : List RegUse) (old now next : List RegisterUse) → now ≡ old ++ named_uses replaced a →
    next ≡ now ++ named_uses replaced b → next ≡ old ++ named_uses replaced (a ++ b)
two_named replaced a b old now next e f =
    f ∙ (ap (λ (l : List RegisterUse). l ++ named_uses replaced b) e
    ∙ (append_assoc old (named_uses replaced a) (named_uses replaced b)
    ∙ ap (λ (l : List RegisterUse). old ++ l) (sym (named-append replaced a b))))

-- the uses of the four operands, one after another
pub four_named : (replaced : Bool) (i : Instr) (old first second third fourth : List RegisterUse) → first ≡ old ++ named_uses replaced (uses_at i 0) →
    second ≡ first ++ named_uses replaced (uses_at i 1) → third ≡ second ++ named_uses replaced (uses_at i 2) →
    fourth ≡ third ++ named_uses replaced (uses_at i 3) → fourth ≡ old ++ named_uses replaced (uses i)
unfolding uses
four_named replaced i old first second third fourth e0 e1 e2 e3 =
    let behind = two_named replaced (uses_at i 2) (uses_at i 3) second third fourth e2 e3 in
    let last = two_named replaced (uses_at i 1) (uses_at i 2 ++ uses_at i 3) first second fourth e1 behind in
    two_named replaced (uses_at i 0) (uses_at i 1 ++ (uses_at i 2 ++ uses_at i 3)) old first fourth e0 last

-- how many registers the four operands name
pub length_four : (i : Instr) → length (uses i) ≡ length (uses_at i 0) + (length (uses_at i 1) + (length (uses_at i 2) + length (uses_at i 3)))
unfolding uses
length_four i =
    let a = uses_at i 0 in
    let b = uses_at i 1 in
    let c = uses_at i 2 in
    let d = uses_at i 3 in
    omega (arith, length-append a (b ++ (c ++ d)), length-append b (c ++ d), length-append c d)
