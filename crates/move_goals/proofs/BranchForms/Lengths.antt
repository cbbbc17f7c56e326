-- The length of an image rests neither on its place nor on its goal.
use Rattle.std.proofs.Common.{◌≡◌, ℕ, ◌+◌, ap, sym, ◌∙◌, arith}
use Rattle.std.specs.Prelude.{Option, Some, None}
use Rattle.x86_values.specs.declared.Bits.{Bits}
use Rattle.x86_values.specs.declared.Instr.{Instr}
use Rattle.x86_values.specs.Wrapping.{modulo_width}
use Rattle.branch_sizes.specs.declared.plan.Form.{Form}
use Rattle.branch_sizes.specs.declared.plan.Form.TheVariants.{Itself, Short, Near as NearForm, Far, Bridge, FarBridge}
use Rattle.move_goals.specs.MovedTargets.Targets.{with_target, aimed_operand, aimed_base, plain_length}
use Rattle.move_goals.specs.declared.branch_forms.branch.Action.{Action}
use Rattle.move_goals.specs.declared.branch_forms.branch.Action.TheVariants.{Jump, Call, Condition, Count}
use Rattle.move_goals.specs.declared.branch_forms.branch.RelativeBranch.{RelativeBranch}
use Rattle.move_goals.specs.BranchForms.Branches.{branch_of, short_code, near_code, far_code, opposite_condition}
use Rattle.move_goals.specs.BranchForms.LawsBelow.{FormLawsBelow}
use Rattle.move_goals.specs.BranchForms.Images.{branch_to, through_slot, counter_size, short_branch, skip, bridge_jump, bridge_inner, bridge, far_image, branch_image, image_by, image_of, pieces_length, form_length}

-- the length of the far image of a branch
unfoldable pub far_size : Bits → RelativeBranch → Action → ℕ
far_size bits b (Condition n) = plain_length bits (branch_to (short_code (Condition (opposite_condition n)) b.size) None 0) + plain_length bits (through_slot (far_code Jump) 0)
far_size bits b action = plain_length bits (through_slot (far_code action) 0)

-- the length of an image of a branch
unfoldable pub form_size : Bits → Instr → RelativeBranch → Form → ℕ
form_size bits i b Itself = plain_length bits i
form_size bits i b Short = plain_length bits (short_branch b i.asize 0)
form_size bits i b NearForm = plain_length bits (branch_to (near_code b.action b.size) None 0)
form_size bits i b Far = far_size bits b b.action
form_size bits i b Bridge = bridge_inner bits b i.asize + plain_length bits (bridge_jump b 0)
form_size bits i b FarBridge = bridge_inner bits b i.asize + plain_length bits (through_slot (far_code Jump) 0)

module _ (laws : FormLawsBelow) where
  -- ---- single instructions

  -- the length of a branch does not depend on its target
  pub branch_to-length : (bits : Bits) (code : ℕ) (asize : Option Bits) (t : ℕ) → plain_length bits (branch_to code asize t) ≡ plain_length bits (branch_to code asize 0)
  unfolding branch_to with_target aimed_operand
  branch_to-length bits code asize t = laws.targets.with_target-length bits t (branch_to code asize 0)

  slot-length : (bits : Bits) (code slot : ℕ) → plain_length bits (through_slot code slot) ≡ plain_length bits (through_slot code 0)
  unfolding through_slot with_target aimed_operand aimed_base
  slot-length bits code slot = laws.targets.with_target-length bits slot (through_slot code 0)

  -- the length of a short branch does not depend on its target
  pub short-length : (bits : Bits) (b : RelativeBranch) (asize : Option Bits) (t : ℕ) → plain_length bits (short_branch b asize t) ≡ plain_length bits (short_branch b asize 0)
  unfolding short_branch
  short-length bits b asize t = branch_to-length bits (short_code b.action b.size) (counter_size b.action asize) t

  -- the length of a skip does not depend on its target
  pub skip-length : (bits : Bits) (t : ℕ) → plain_length bits (skip bits t) ≡ plain_length bits (skip bits 0)
  unfolding skip
  skip-length bits t = branch_to-length bits (short_code Jump bits) None t

  jump-length : (bits : Bits) (b : RelativeBranch) (t : ℕ) → plain_length bits (bridge_jump b t) ≡ plain_length bits (bridge_jump b 0)
  unfolding bridge_jump
  jump-length bits b t = branch_to-length bits (near_code Jump b.size) None t

  -- ---- images

  bridge-length : (bits : Bits) (b : RelativeBranch) (asize : Option Bits) (place : ℕ) (last : Instr) → pieces_length bits (bridge bits b asize place last) ≡ bridge_inner bits b asize + plain_length bits last
  unfolding bridge bridge_inner
  bridge-length bits b asize place last =
      let inner = plain_length bits (short_branch b asize 0) + plain_length bits (skip bits 0) in
      omega (
        arith,
        short-length bits b asize (modulo_width bits (place + inner)),
        skip-length bits (modulo_width bits (place + inner + plain_length bits last)),
      )

  far-length : (bits : Bits) (b : RelativeBranch) (place slot : ℕ) (action : Action) → pieces_length bits (far_image bits b place action slot) ≡ far_size bits b action
  unfolding far_image far_size
  far-length bits b place slot Jump = omega (arith, slot-length bits (far_code Jump) slot)
  far-length bits b place slot Call = omega (arith, slot-length bits (far_code Call) slot)
  far-length bits b place slot (Condition n) =
      let over = short_code (Condition (opposite_condition n)) b.size in
      let last = plain_length bits (through_slot (far_code Jump) slot) in
      omega (
        arith,
        slot-length bits (far_code Jump) slot,
        branch_to-length bits over None (modulo_width bits (place + plain_length bits (branch_to over None 0) + last)),
      )
  far-length bits b place slot (Count n) = omega (arith, slot-length bits (far_code (Count n)) slot)

  image-length : (bits : Bits) (i : Instr) (b : RelativeBranch) (form : Form) (place goal slot : ℕ) → pieces_length bits (branch_image bits i b form place goal slot) ≡ form_size bits i b form
  unfolding branch_image form_size
  image-length bits i b Itself place goal slot = omega (arith, laws.targets.with_target-length bits goal i)
  image-length bits i b Short place goal slot = omega (arith, short-length bits b i.asize goal)
  image-length bits i b NearForm place goal slot = omega (arith, branch_to-length bits (near_code b.action b.size) None goal)
  image-length bits i b Far place goal slot = far-length bits b place slot b.action
  image-length bits i b Bridge place goal slot =
      bridge-length bits b i.asize place (bridge_jump b goal) ∙ ap (λ n. bridge_inner bits b i.asize + n) (jump-length bits b goal)
  image-length bits i b FarBridge place goal slot =
      bridge-length bits b i.asize place (through_slot (far_code Jump) slot) ∙ ap (λ n. bridge_inner bits b i.asize + n) (slot-length bits (far_code Jump) slot)

  by-length : (bits : Bits) (i : Instr) (b : Option RelativeBranch) (form : Form) (place goal slot : ℕ)
      → pieces_length bits (image_by bits i b form place goal slot) ≡ pieces_length bits (image_by bits i b form 0 0 0)
  by-length bits i None form place goal slot = omega (arith, laws.targets.with_target-length bits goal i, laws.targets.with_target-length bits 0 i)
  by-length bits i (Some b) form place goal slot = image-length bits i b form place goal slot ∙ sym (image-length bits i b form 0 0 0)

  -- **the length rests neither on the place nor on the goal**
  pub image_of-length : (bits : Bits) (i : Instr) (form : Form) (place goal slot : ℕ) → pieces_length bits (image_of bits i form place goal slot) ≡ form_length bits i form
  unfolding image_of form_length
  image_of-length bits i form place goal slot = by-length bits i (branch_of i) form place goal slot

  -- what is no branch is as long as its plain spelling
  pub other-length : (bits : Bits) (i : Instr) (form : Form) → branch_of i ≡ None → form_length bits i form ≡ plain_length bits i
  unfolding form_length image_of
  other-length bits i form none = ap (λ b. pieces_length bits (image_by bits i b form 0 0 0)) none ∙ omega (arith, laws.targets.with_target-length bits 0 i)

  -- the length of a branch in a form is the computed size
  pub branch-length : (bits : Bits) (i : Instr) (b : RelativeBranch) (form : Form) → branch_of i ≡ Some b → form_length bits i form ≡ form_size bits i b form
  unfolding form_length image_of
  branch-length bits i b form some = ap (λ x. pieces_length bits (image_by bits i x form 0 0 0)) some ∙ image-length bits i b form 0 0 0
