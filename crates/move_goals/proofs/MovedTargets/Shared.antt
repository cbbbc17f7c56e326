-- All operands of an instruction at RIP or EIP reach alike, since they agree on the address size.
use Rattle.std.proofs.Common.{◌≡◌, ℕ, Bool, true, false, ◌&&◌, ◌||◌, not, Option, Some, None, is_none, refl, ◌⊎◌, inl, inr}
use Rattle.std.specs.Prelude.{if◌then◌else◌}
use Rattle.std.specs.Option.{option_or}
use Rattle.std.proofs.lemmas.Bool.{and_parts}
use Rattle.x86_values.specs.declared.Bits.{Bits}
use Rattle.x86_values.specs.declared.Bits.TheVariants.{B16, B32, B64}
use Rattle.x86_values.specs.declared.Register.{Register}
use Rattle.x86_values.specs.declared.Register.TheVariants.{Eip, Rip}
use Rattle.x86_values.specs.declared.Mem.{Mem}
use Rattle.x86_values.specs.declared.Operand.{Operand}
use Rattle.x86_values.specs.declared.Operand.TheVariants.{Mem as Memory}
use Rattle.x86_values.specs.declared.Instr.{Instr}
use Rattle.instruction_parts.specs.declared.row_types.Row.{Row}
use Rattle.instruction_parts.specs.Sizes.{has_address_mark}
use Rattle.instruction_parts.specs.Counting.{is_16}
use Rattle.row_fit.specs.Fits.{reads_by, is_gather}
use Rattle.x86_values.specs.Operands.{is_memory}
use Rattle.plain_spelling.specs.Forms.{operand_at}
use Rattle.plain_spelling.specs.Addresses.{has_address_size, pointer_size}
use Rattle.plain_spelling.specs.Expressible.{has_memory_operand, told_size, size_agrees, is_size_of, address_size_suits}
use Rattle.branch_sizes.specs.declared.plan.Reach.{Reach}
use Rattle.branch_sizes.specs.declared.plan.Reach.TheVariants.{Signed32, Below}
use Rattle.branch_sizes.specs.Layout.{Reaches}
use Rattle.move_goals.specs.MovedTargets.Targets.{base_reach, operand_reach, target_reach}
use Rattle.move_goals.proofs.MovedTargets.Reaches.{Reached}

-- ---- one address size

-- all operands agree on it
record AllAgree (i : Instr) : Type 0 where
  asize : Bits
  first : size_agrees asize (operand_at i 0) ≡ true
  second : size_agrees asize (operand_at i 1) ≡ true
  third : size_agrees asize (operand_at i 2) ≡ true
  fourth : size_agrees asize (operand_at i 3) ≡ true

agree_said : (bits : Bits) (row : Row) (i : Instr) (asize : Bits) → is_size_of bits row i asize ≡ true → AllAgree i
unfolding is_size_of
agree_said bits row i asize h =
    let p = λ (n : ℕ). size_agrees asize (operand_at i n) in
    let gather = not (is_16 asize && reads_by is_gather row) in
    let a = (and_parts (p 0 && (p 1 && (p 2 && p 3))) gather (and_parts (has_address_size bits asize) ((p 0 && (p 1 && (p 2 && p 3))) && gather) h).1).0 in
    let b = (and_parts (p 0) (p 1 && (p 2 && p 3)) a).1 in
    let c = (and_parts (p 1) (p 2 && p 3) b).1 in
    record {
      asize = asize;
      first = (and_parts (p 0) (p 1 && (p 2 && p 3)) a).0;
      second = (and_parts (p 1) (p 2 && p 3) b).0;
      third = (and_parts (p 2) (p 3) c).0;
      fourth = (and_parts (p 2) (p 3) c).1;
    }

no_memory : (op : Operand) → is_memory op ≡ false → size_agrees B64 op ≡ true
unfolding size_agrees
no_memory (Memory m) h = cc
no_memory _ h = refl

or_left : (a b : Bool) → (a || b) ≡ false → a ≡ false
or_left true b h = h
or_left false b h = refl

or_right : (a b : Bool) → (a || b) ≡ false → b ≡ false
or_right true b h = cc
or_right false b h = h

agree_without : (i : Instr) → has_memory_operand i ≡ false → AllAgree i
unfolding has_memory_operand
agree_without i h =
    let p = λ (n : ℕ). is_memory (operand_at i n) in
    let a = or_right (p 0) (p 1 || (p 2 || p 3)) h in
    let b = or_right (p 1) (p 2 || p 3) a in
    record {
      asize = B64;
      first = no_memory (operand_at i 0) (or_left (p 0) (p 1 || (p 2 || p 3)) h);
      second = no_memory (operand_at i 1) (or_left (p 1) (p 2 || p 3) a);
      third = no_memory (operand_at i 2) (or_left (p 2) (p 3) b);
      fourth = no_memory (operand_at i 3) (or_right (p 2) (p 3) b);
    }

agree_by : (bits : Bits) (row : Row) (i : Instr) (memory mark : Bool) (asize : Option Bits) → has_memory_operand i ≡ memory → (if memory || mark then (elim asize as (λ (o : Option Bits). Bool) [ None ↦ false | Some asize ↦ is_size_of bits row i asize ]) else is_none asize) ≡ true → AllAgree i
agree_by bits row i false mark asize e h = agree_without i e
agree_by bits row i true mark None e h = cc
agree_by bits row i true mark (Some asize) e h = agree_said bits row i asize h

all_agree : (bits : Bits) (row : Row) (i : Instr) → address_size_suits bits row i ≡ true → AllAgree i
unfolding address_size_suits
all_agree bits row i h = agree_by bits row i (has_memory_operand i) (has_address_mark row) i.asize refl h

-- ---- one reach

-- what an operand at an instruction pointer of an address size reaches
abbrev reach_of : Bits → Reach
reach_of B64 = Signed32
reach_of _ = Below 32

-- nothing, or this
abbrev IsReach : Reach → Option Reach → Type 0
IsReach r x = (x ≡ None) ⊎ (x ≡ Some r)

agreed_base : (asize : Bits) (m : Mem) (base : Option Register) → m.base ≡ base → size_agrees asize (Memory m) ≡ true → IsReach (reach_of asize) (base_reach base)
unfolding base_reach size_agrees told_size pointer_size
agreed_base asize m None e h = inl refl
agreed_base B64 m (Some Rip) e h = inr refl
agreed_base B32 m (Some Rip) e h = let k = rw e at h in cc
agreed_base B16 m (Some Rip) e h = let k = rw e at h in cc
agreed_base B64 m (Some Eip) e h = let k = rw e at h in cc
agreed_base B32 m (Some Eip) e h = inr refl
agreed_base B16 m (Some Eip) e h = inr refl
agreed_base asize m (Some _) e h = inl refl

agreed : (asize : Bits) (op : Operand) → size_agrees asize op ≡ true → IsReach (reach_of asize) (operand_reach op)
unfolding operand_reach
agreed asize (Memory m) h = agreed_base asize m m.base refl h
agreed asize _ h = inl refl

or_is : (r : Reach) (a b : Option Reach) → IsReach r a → IsReach r b → IsReach r (option_or a b)
or_is r None b x y = y
or_is r (Some s) b x y = x

from_or : (r : Reach) (a b : Option Reach) (len place t : ℕ) → IsReach r a → IsReach r b → Reached (option_or a b) len place t → Reached a len place t × Reached b len place t
from_or r None b len place t x y h = (tt, h)
from_or r (Some s) None len place t x y h = (h, tt)
from_or r (Some s) (Some u) len place t (inl x) y h = cc
from_or r (Some s) (Some u) len place t (inr x) (inl y) h = cc
from_or r (Some s) (Some u) len place t (inr x) (inr y) h = (h, same s u (cc) h)
  where
    same : (s u : Reach) → s ≡ u → Reaches s len place t → Reaches u len place t
    same s u e h = rw (← e) h

-- **what the instruction reaches, each of its operands reaches**
pub record AllReached (i : Instr) (len place t : ℕ) : Type 0 where
  pub first : Reached (operand_reach (operand_at i 0)) len place t
  pub second : Reached (operand_reach (operand_at i 1)) len place t
  pub third : Reached (operand_reach (operand_at i 2)) len place t
  pub fourth : Reached (operand_reach (operand_at i 3)) len place t

-- if the reach of an instruction takes in the target, each operand with a target reaches it
pub all_reached : (bits : Bits) (row : Row) (i : Instr) (len place t : ℕ) → address_size_suits bits row i ≡ true → Reaches (target_reach i) len place t → AllReached i len place t
unfolding target_reach
all_reached bits row i len place t suits h =
    let agree = all_agree bits row i suits in
    let r = reach_of agree.asize in
    let x = λ (n : ℕ). operand_reach (operand_at i n) in
    let a : IsReach r (x 0) = agreed agree.asize (operand_at i 0) agree.first in
    let b : IsReach r (x 1) = agreed agree.asize (operand_at i 1) agree.second in
    let c : IsReach r (x 2) = agreed agree.asize (operand_at i 2) agree.third in
    let d : IsReach r (x 3) = agreed agree.asize (operand_at i 3) agree.fourth in
    let cd = or_is r (x 2) (x 3) c d in
    let bcd = or_is r (x 1) (option_or (x 2) (x 3)) b cd in
    let k = from_or r (x 0) (option_or (x 1) (option_or (x 2) (x 3))) len place t a bcd h in
    let l = from_or r (x 1) (option_or (x 2) (x 3)) len place t b cd k.1 in
    let m = from_or r (x 2) (x 3) len place t c d l.1 in
    record { first = k.0; second = l.0; third = m.0; fourth = m.1 }
