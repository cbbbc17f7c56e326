-- How many bytes the forms of a relative branch have.
use Rattle.std.proofs.Common.{◌≡◌, ℕ, ◌+◌, Bool, true, refl, sym, ap, ◌∙◌, arith}
use Rattle.std.specs.Prelude.{Option, Some, None}
use Rattle.std.proofs.lemmas.Bool.{and_parts, ltb-true}
use Rattle.x86_values.specs.declared.Bits.{Bits}
use Rattle.x86_values.specs.declared.Bits.TheVariants.{B16, B32, B64}
use Rattle.x86_values.specs.declared.Instr.{Instr}
use Rattle.branch_sizes.specs.declared.plan.Form.{Form}
use Rattle.branch_sizes.specs.declared.plan.Form.TheVariants.{Itself, Short, Near, Far, Bridge, FarBridge}
use Rattle.move_goals.specs.MovedTargets.Targets.{plain_length}
use Rattle.move_goals.specs.declared.branch_forms.branch.Action.{Action}
use Rattle.move_goals.specs.declared.branch_forms.branch.Action.TheVariants.{Jump, Call, Condition, Count}
use Rattle.move_goals.specs.declared.branch_forms.branch.RelativeBranch.{RelativeBranch}
use Rattle.move_goals.specs.BranchForms.Branches.{branch_of, in_range, short_code, near_code, far_code, opposite_condition}
use Rattle.move_goals.specs.BranchForms.Images.{branch_to, through_slot, counter_size, short_branch, skip, bridge_jump, bridge_inner, form_length}
use Rattle.move_goals.specs.BranchForms.LawsBelow.{FormLawsBelow}
use Rattle.move_goals.specs.BranchForms.Lengths.{near_bytes, short_bytes, slot_bytes}
use Rattle.move_goals.proofs.BranchForms.Lengths.{far_size, form_size, branch-length}
use Rattle.move_goals.proofs.BranchForms.Offsets.{row-of-branch, branch-range}
use Rattle.move_goals.proofs.BranchForms.Pieces.{short_jump-length, short_condition-length, short_count-length, near_jump-length, near_call-length, near_condition-length, slot_call-length, slot_jump-length, opposite_condition-small}

-- a branch has one of the conditions and counters
pub is-in-range : FormLawsBelow → (i : Instr) (b : RelativeBranch) → branch_of i ≡ Some b → in_range b.action b.is_short ≡ true
is-in-range laws i b h = let r = row-of-branch i b h in branch-range laws i r.0 b r.1 h

-- ---- the codes that stand for others

call-short : (bits size : Bits) → plain_length bits (branch_to (short_code Call size) None 0) ≡ near_bytes bits Call size
unfolding short_code near_code
call-short bits size = near_call-length bits size 0

count-near : (bits size : Bits) (n : ℕ) → plain_length bits (branch_to (near_code (Count n) size) None 0) ≡ near_bytes bits (Count n) size
unfolding near_code
count-near bits size n = near_jump-length bits size 0

count-slot : (bits : Bits) (n : ℕ) → plain_length bits (through_slot (far_code (Count n)) 0) ≡ slot_bytes bits
unfolding far_code
count-slot bits n = slot_jump-length bits 0

-- ---- single instructions

short_branch-size : (bits : Bits) (asize : Option Bits) (action : Action) (s : Bool) (size : Bits) → in_range action s ≡ true
    → plain_length bits (short_branch (record { action = action; is_short = s; size = size }) asize 0) ≡ short_bytes bits action size (counter_size action asize)
unfolding short_branch counter_size
short_branch-size bits asize Jump s size range = omega (arith, short_jump-length bits size 0)
short_branch-size bits asize Call s size range = call-short bits size
short_branch-size bits asize (Condition n) s size range = omega (arith, short_condition-length bits size n (ltb-true n 16 range) 0)
short_branch-size bits asize (Count n) s size range = short_count-length bits size n (ltb-true n 4 (and_parts s _ range).1) asize 0

skip-size : (bits : Bits) → plain_length bits (skip bits 0) ≡ 2
unfolding skip
skip-size B16 = short_jump-length B16 B16 0
skip-size B32 = short_jump-length B32 B32 0
skip-size B64 = short_jump-length B64 B64 0

near-size : (bits : Bits) (action : Action) (s : Bool) (size : Bits) → in_range action s ≡ true
    → plain_length bits (branch_to (near_code action size) None 0) ≡ near_bytes bits action size
near-size bits Jump s size range = near_jump-length bits size 0
near-size bits Call s size range = near_call-length bits size 0
near-size bits (Condition n) s size range = near_condition-length bits size n (ltb-true n 16 range) 0
near-size bits (Count n) s size range = count-near bits size n

-- ---- forms

module _ (bits : Bits) (i : Instr) where
  -- the size of the present form is the plain length
  pub itself-form : (b : RelativeBranch) → form_size bits i b Itself ≡ plain_length bits i
  unfolding form_size
  itself-form b = refl

  -- the size of the short form is that of the short branch
  pub short-form : (b : RelativeBranch) → in_range b.action b.is_short ≡ true → form_size bits i b Short ≡ short_bytes bits b.action b.size (counter_size b.action i.asize)
  unfolding form_size
  short-form b range = short_branch-size bits i.asize b.action b.is_short b.size range

  -- the size of the near form is that of the near branch
  pub near-form : (b : RelativeBranch) → in_range b.action b.is_short ≡ true → form_size bits i b Near ≡ near_bytes bits b.action b.size
  unfolding form_size
  near-form b range = near-size bits b.action b.is_short b.size range

  inner-size : (b : RelativeBranch) → in_range b.action b.is_short ≡ true → bridge_inner bits b i.asize ≡ short_bytes bits b.action b.size (counter_size b.action i.asize) + 2
  unfolding bridge_inner
  inner-size b range = omega (arith, short_branch-size bits i.asize b.action b.is_short b.size range, skip-size bits)

  -- a bridge has the short branch, a skip and the near jump
  pub bridge-form : (b : RelativeBranch) → in_range b.action b.is_short ≡ true
      → form_size bits i b Bridge ≡ short_bytes bits b.action b.size (counter_size b.action i.asize) + 2 + near_bytes bits Jump b.size
  unfolding form_size bridge_jump
  bridge-form b range = omega (arith, inner-size b range, near_jump-length bits b.size 0)

  -- a far bridge has the short branch, a skip and the jump through a slot
  pub far_bridge-form : (b : RelativeBranch) → in_range b.action b.is_short ≡ true
      → form_size bits i b FarBridge ≡ short_bytes bits b.action b.size (counter_size b.action i.asize) + 2 + slot_bytes bits
  unfolding form_size
  far_bridge-form b range = omega (arith, inner-size b range, slot_jump-length bits 0)

  -- a branch on a condition goes over the jump through the slot
  pub far_condition-form : (n : ℕ) (b : RelativeBranch) → b.action ≡ Condition n → in_range b.action b.is_short ≡ true
      → form_size bits i b Far ≡ short_bytes bits b.action b.size (counter_size b.action i.asize) + slot_bytes bits
  unfolding form_size far_size counter_size
  far_condition-form n b is range =
      rw is
      (omega (
        arith,
        short_condition-length bits b.size (opposite_condition n) (opposite_condition-small n (ltb-true n 16 (rw is at range))) 0,
        slot_jump-length bits 0,
      ))

  far_action-size : (b : RelativeBranch) (action : Action) → ((n : ℕ) → action ≡ Condition n → ⊥) → far_size bits b action ≡ slot_bytes bits
  unfolding far_size
  far_action-size b Jump other = slot_jump-length bits 0
  far_action-size b Call other = slot_call-length bits 0
  far_action-size b (Condition n) other = absurd (other n refl)
  far_action-size b (Count n) other = count-slot bits n

  -- any other goes through the slot itself
  pub far_other-form : (b : RelativeBranch) → ((n : ℕ) → b.action ≡ Condition n → ⊥) → form_size bits i b Far ≡ slot_bytes bits
  unfolding form_size
  far_other-form b other = far_action-size b b.action other

-- the length of the short form, as it is told
pub short-told : (bits : Bits) (i : Instr) (b : RelativeBranch) (asize : Option Bits) (n : ℕ) → asize ≡ counter_size b.action i.asize
    → n ≡ short_bytes bits b.action b.size asize → n ≡ short_bytes bits b.action b.size (counter_size b.action i.asize)
short-told bits i b asize n e is = is ∙ ap (λ x. short_bytes bits b.action b.size x) e

-- a length that is that of a form
pub sized : FormLawsBelow → (bits : Bits) (i : Instr) (b : RelativeBranch) (form given : Form) (n : ℕ) → branch_of i ≡ Some b → form ≡ given → n ≡ form_size bits i b given
    → n ≡ form_length bits i form
sized laws bits i b form given n h e s = s ∙ (ap (λ f. form_size bits i b f) (sym e) ∙ sym (branch-length laws bits i b form h))
