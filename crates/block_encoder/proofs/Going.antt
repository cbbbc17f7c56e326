-- Where the instructions of an image go.
use Rattle.std.proofs.Common.{◌≡◌, ℕ, zero, suc, ◌+◌, ◌<◌, true, false, List, [], ◌∷◌, length, get_or, take, Option, Some, None, refl, ap, ◌∙◌, arith}
use Rattle.std.specs.Option.{option_or}
use Rattle.std.proofs.lemmas.Bool.{cond-true}
use Rattle.x86_values.specs.declared.Bits.{Bits}
use Rattle.x86_values.specs.declared.Instr.{Instr}
use Rattle.x86_values.specs.Wrapping.{modulo_width}
use Rattle.row_relation.specs.Spells.{Spells}
use Rattle.opcode_rows.specs.Table.{table}
use Rattle.operand_info.specs.Operands.{near_value, ip_value, first_value}
use Rattle.branch_sizes.specs.declared.plan.BlockSpan.{BlockSpan}
use Rattle.branch_sizes.specs.declared.plan.Form.{Form}
use Rattle.branch_sizes.specs.declared.plan.Form.TheVariants.{Itself, Short, Near as NearForm, Far, Bridge, FarBridge}
use Rattle.branch_sizes.specs.declared.plan.Goal.{Goal}
use Rattle.branch_sizes.specs.Plan.{BlockPlan}
use Rattle.branch_sizes.specs.Layout.{IsLayout, block_number, item_choice, place}
use Rattle.move_goals.specs.MovedTargets.Targets.{target_of, with_target, plain_length}
use Rattle.move_goals.specs.declared.branch_forms.branch.Action.{Action}
use Rattle.move_goals.specs.declared.branch_forms.branch.Action.TheVariants.{Jump, Call, Condition, Count}
use Rattle.move_goals.specs.declared.branch_forms.branch.RelativeBranch.{RelativeBranch}
use Rattle.move_goals.specs.BranchForms.Branches.{branch_of, short_code, near_code, far_code, opposite_condition}
use Rattle.move_goals.specs.BranchForms.Images.{branch_to, through_slot, counter_size, short_branch, skip, bridge_jump, bridge_inner, bridge, far_image, branch_image, image_by, image_of, pieces_length}
use Rattle.move_goals.specs.declared.items.Placed.{Placed}
use Rattle.move_goals.specs.Items.{ArePlaced, no_instr, item_at}
use Rattle.move_goals.specs.Plan.{plan_with}
use Rattle.branch_sizes.specs.MoveLayout.Laid.{has_far_form, is_far_at, goal_address, slot_address, fragment_at}
use Rattle.block_encoder.specs.Bytes.{image_at}
use Rattle.block_encoder.specs.Aims.{last_instr}
use Rattle.block_encoder.specs.LawsBelow.{MovedLawsBelow}
use Rattle.block_encoder.proofs.Pieces.{spelled-four}
use Rattle.block_encoder.proofs.Chosen.{is_own, fragment-own}

-- ---- single instructions

near-branch_to : (code : ℕ) (asize : Option Bits) (t : ℕ) → first_value near_value (branch_to code asize t) ≡ Some t
unfolding branch_to near_value
near-branch_to code asize t = refl

near-short : (b : RelativeBranch) (asize : Option Bits) (t : ℕ) → first_value near_value (short_branch b asize t) ≡ Some t
unfolding short_branch
near-short b asize t = near-branch_to (short_code b.action b.size) (counter_size b.action asize) t

near-skip : (bits : Bits) (t : ℕ) → first_value near_value (skip bits t) ≡ Some t
unfolding skip
near-skip bits t = near-branch_to (short_code Jump bits) None t

near-jump : (b : RelativeBranch) (t : ℕ) → first_value near_value (bridge_jump b t) ≡ Some t
unfolding bridge_jump
near-jump b t = near-branch_to (near_code Jump b.size) None t

ip-slot : (code slot : ℕ) → first_value ip_value (through_slot code slot) ≡ Some slot
unfolding through_slot ip_value
ip-slot code slot = refl

-- ---- the last instruction

bridge-last : (bits : Bits) (b : RelativeBranch) (asize : Option Bits) (at : ℕ) (last : Instr) → last_instr (bridge bits b asize at last) ≡ last
unfolding bridge
bridge-last bits b asize at last = refl

-- a branch of a form that is not far goes to the goal
branch-near : (bits : Bits) (i : Instr) (b : RelativeBranch) (form : Form) (at goal slot : ℕ) → is_own form ≡ false → has_far_form form ≡ false → first_value near_value (last_instr (branch_image bits i b form at goal slot)) ≡ Some goal
unfolding branch_image
branch-near bits i b Itself at goal slot h far = cc
branch-near bits i b Short at goal slot h far = near-short b i.asize goal
branch-near bits i b NearForm at goal slot h far = near-branch_to (near_code b.action b.size) None goal
branch-near bits i b Far at goal slot h far = cc
branch-near bits i b Bridge at goal slot h far = ap (first_value near_value) (bridge-last bits b i.asize at (bridge_jump b goal)) ∙ near-jump b goal
branch-near bits i b FarBridge at goal slot h far = cc

far-slot : (bits : Bits) (b : RelativeBranch) (at : ℕ) (action : Action) (slot : ℕ) → first_value ip_value (last_instr (far_image bits b at action slot)) ≡ Some slot
unfolding far_image
far-slot bits b at Jump slot = ip-slot (far_code Jump) slot
far-slot bits b at Call slot = ip-slot (far_code Call) slot
far-slot bits b at (Condition n) slot = ip-slot (far_code Jump) slot
far-slot bits b at (Count n) slot = ip-slot (far_code (Count n)) slot

-- one of a far form goes through the slot
branch-far : (bits : Bits) (i : Instr) (b : RelativeBranch) (form : Form) (at goal slot : ℕ) → has_far_form form ≡ true → first_value ip_value (last_instr (branch_image bits i b form at goal slot)) ≡ Some slot
unfolding branch_image
branch-far bits i b Far at goal slot far = far-slot bits b at b.action slot
branch-far bits i b FarBridge at goal slot far = ap (first_value ip_value) (bridge-last bits b i.asize at (through_slot (far_code Jump) slot)) ∙ ip-slot (far_code Jump) slot
branch-far bits i b _ at goal slot far = cc

-- ---- the others

-- the n-th instruction goes to the place behind the next one
abbrev GoesOver : Bits → ℕ → List Instr → ℕ → Type 0
GoesOver bits at is n = first_value near_value (get_or is n no_instr) ≡ Some (modulo_width bits (at + pieces_length bits (take (n + 2) is)))

-- ---- the image of an instruction

-- without a near target it is no relative branch
unbranched : (i : Instr) → first_value near_value i ≡ None → branch_of i ≡ None
unfolding branch_of
unbranched i h = rw h refl

image-address : (bits : Bits) (i : Instr) (form : Form) (at goal slot : ℕ) → first_value near_value i ≡ None → image_of bits i form at goal slot ≡ with_target goal i ∷ []
unfolding image_of
image-address bits i form at goal slot h = ap (λ (b : Option RelativeBranch). image_by bits i b form at goal slot) (unbranched i h)

or_none : (a b : Option ℕ) → option_or a b ≡ None → a ≡ None
or_none None b h = refl
or_none (Some x) b h = cc

no_near : (i : Instr) → target_of i ≡ None → first_value near_value i ≡ None
unfolding target_of
no_near i h = or_none (first_value near_value i) (first_value ip_value i) h

-- **what stays as it is when it is aimed elsewhere, since it has no target, is its own image**
pub untargeted-image : (bits : Bits) (i : Instr) (form : Form) (place goal slot : ℕ) → with_target goal i ≡ i → target_of i ≡ None
    → image_of bits i form place goal slot ≡ i ∷ []
untargeted-image bits i form place goal slot stays none =
    image-address bits i form place goal slot (no_near i none) ∙ ap (λ (x : Instr). x ∷ []) stays

-- ---- items

-- a far form has the slot of its goal
pub slot-is : (p : BlockPlan) (layout : List ℕ) (k : ℕ) → is_far_at p layout k ≡ true
    → (fragment_at p layout k).slot ≡ slot_address p layout (block_number p.spans k) (goal_address p layout k)
unfolding fragment_at
slot-is p layout k far = cond-true (is_far_at p layout k) (slot_address p layout (block_number p.spans k) (goal_address p layout k)) 0 far

module _ (laws : MovedLawsBelow) where
  -- ---- over the next one

  bridge-over : (bits : Bits) (b : RelativeBranch) (asize : Option Bits) (at : ℕ) (last : Instr) (n : ℕ) → n + 1 < length (bridge bits b asize at last) → GoesOver bits at (bridge bits b asize at last) n
  unfolding bridge bridge_inner
  bridge-over bits b asize at last zero lt =
      let inner = plain_length bits (short_branch b asize 0) + plain_length bits (skip bits 0) in
      let onto = modulo_width bits (at + inner) in
      let over = modulo_width bits (at + inner + plain_length bits last) in
      near-short b asize onto
      ∙ ap (λ (m : ℕ). Some (modulo_width bits m)) (omega (arith, laws.pieces.short-length bits b asize onto, laws.pieces.skip-length bits over))
  bridge-over bits b asize at last (suc zero) lt =
      let inner = plain_length bits (short_branch b asize 0) + plain_length bits (skip bits 0) in
      let onto = modulo_width bits (at + inner) in
      let over = modulo_width bits (at + inner + plain_length bits last) in
      near-skip bits over
      ∙ ap (λ (m : ℕ). Some (modulo_width bits m)) (omega (arith, laws.pieces.short-length bits b asize onto, laws.pieces.skip-length bits over))
  bridge-over bits b asize at last (suc (suc n)) lt = absurd (omega arith)

  far-over : (bits : Bits) (b : RelativeBranch) (at : ℕ) (action : Action) (slot n : ℕ) → n + 1 < length (far_image bits b at action slot) → GoesOver bits at (far_image bits b at action slot) n
  unfolding far_image
  far-over bits b at Jump slot n lt = absurd (omega arith)
  far-over bits b at Call slot n lt = absurd (omega arith)
  far-over bits b at (Count c) slot n lt = absurd (omega arith)
  far-over bits b at (Condition c) slot zero lt =
      let code = short_code (Condition (opposite_condition c)) b.size in
      let over = modulo_width bits (at + plain_length bits (branch_to code None 0) + plain_length bits (through_slot (far_code Jump) slot)) in
      near-branch_to code None over
      ∙ ap (λ (m : ℕ). Some (modulo_width bits m)) (omega (arith, laws.pieces.branch_to-length bits code None over))
  far-over bits b at (Condition c) slot (suc n) lt = absurd (omega arith)

  branch-over : (bits : Bits) (i : Instr) (b : RelativeBranch) (form : Form) (at goal slot n : ℕ) → n + 1 < length (branch_image bits i b form at goal slot) → GoesOver bits at (branch_image bits i b form at goal slot) n
  unfolding branch_image
  branch-over bits i b Itself at goal slot n lt = absurd (omega arith)
  branch-over bits i b Short at goal slot n lt = absurd (omega arith)
  branch-over bits i b NearForm at goal slot n lt = absurd (omega arith)
  branch-over bits i b Far at goal slot n lt = far-over bits b at b.action slot n lt
  branch-over bits i b Bridge at goal slot n lt = bridge-over bits b i.asize at (bridge_jump b goal) n lt
  branch-over bits i b FarBridge at goal slot n lt = bridge-over bits b i.asize at (through_slot (far_code Jump) slot) n lt

  by-over : (bits : Bits) (i : Instr) (b : Option RelativeBranch) (form : Form) (at goal slot n : ℕ) → n + 1 < length (image_by bits i b form at goal slot) → GoesOver bits at (image_by bits i b form at goal slot) n
  by-over bits i None form at goal slot n lt = absurd (omega arith)
  by-over bits i (Some b) form at goal slot n lt = branch-over bits i b form at goal slot n lt

  image-over : (bits : Bits) (i : Instr) (form : Form) (at goal slot n : ℕ) → n + 1 < length (image_of bits i form at goal slot) → GoesOver bits at (image_of bits i form at goal slot) n
  unfolding image_of
  image-over bits i form at goal slot n lt = by-over bits i (branch_of i) form at goal slot n lt

  -- ---- what is spelled

  -- with a near target what is spelled is one
  pub branched : (bits : Bits) (ip : ℕ) (bytes : List ℕ) (i : Instr) (t : ℕ) → Spells table bits ip bytes i → first_value near_value i ≡ Some t → (b : RelativeBranch) × (branch_of i ≡ Some b)
  branched bits ip bytes i t s h = by_branch (branch_of i) refl
    where
      by_branch : (o : Option RelativeBranch) → branch_of i ≡ o → (b : RelativeBranch) × (branch_of i ≡ Some b)
      by_branch None e = let k = laws.forms.no_branch-no_near bits ip bytes i s e in cc
      by_branch (Some b) e = (b, e)

  -- ---- moved items

  module _ (bits : Bits) (items : List Placed) (spans : List BlockSpan) (goals : ℕ → Goal) (layout : List ℕ) (k : ℕ) where
    -- the image, by the parts of the fragment
    image-is : image_at bits items (plan_with bits spans items goals) layout k
        ≡ image_of bits (item_at items k).instr (item_choice (plan_with bits spans items goals) layout k).form (place (plan_with bits spans items goals) layout k)
        (goal_address (plan_with bits spans items goals) layout k) (fragment_at (plan_with bits spans items goals) layout k).slot
    unfolding fragment_at
    image-is = refl

    -- **each instruction of an image but the last goes over the next one**
    pub goes-over : (n : ℕ) → n + 1 < length (image_at bits items (plan_with bits spans items goals) layout k)
        → first_value near_value (get_or (image_at bits items (plan_with bits spans items goals) layout k) n no_instr)
        ≡ Some (modulo_width bits (place (plan_with bits spans items goals) layout k + pieces_length bits (take (n + 2) (image_at bits items (plan_with bits spans items goals) layout k))))
    unfolding fragment_at
    goes-over n lt =
        image-over bits (item_at items k).instr (item_choice (plan_with bits spans items goals) layout k).form (place (plan_with bits spans items goals) layout k)
        (goal_address (plan_with bits spans items goals) layout k) (fragment_at (plan_with bits spans items goals) layout k).slot n lt

    -- **what has no near target is aimed at the goal**
    pub goes-address : first_value near_value (item_at items k).instr ≡ None
        → image_at bits items (plan_with bits spans items goals) layout k ≡ with_target (goal_address (plan_with bits spans items goals) layout k) (item_at items k).instr ∷ []
    goes-address none =
        image-is
        ∙ image-address bits (item_at items k).instr (item_choice (plan_with bits spans items goals) layout k).form (place (plan_with bits spans items goals) layout k)
        (goal_address (plan_with bits spans items goals) layout k) (fragment_at (plan_with bits spans items goals) layout k).slot none

    module _ (placed : ArePlaced bits items) (lt : k < length items) where
      -- **what has no target stays as it is**
      pub goes-nowhere : target_of (item_at items k).instr ≡ None → image_at bits items (plan_with bits spans items goals) layout k ≡ (item_at items k).instr ∷ []
      goes-nowhere none =
          let i = placed k lt in
          let four = spelled-four bits (modulo_width bits (item_at items k).ip) i.bytes (item_at items k).instr i.spelled in
          image-is
          ∙ untargeted-image bits (item_at items k).instr (item_choice (plan_with bits spans items goals) layout k).form (place (plan_with bits spans items goals) layout k)
          (goal_address (plan_with bits spans items goals) layout k) (fragment_at (plan_with bits spans items goals) layout k).slot
          (laws.targets.untargeted-with_target (goal_address (plan_with bits spans items goals) layout k) (item_at items k).instr four none) none

      -- the image of a branch
      image-branch : (t : ℕ) → first_value near_value (item_at items k).instr ≡ Some t
          → (b : RelativeBranch) × (branch_of (item_at items k).instr ≡ Some b) × (image_at bits items (plan_with bits spans items goals) layout k
          ≡ branch_image bits (item_at items k).instr b (item_choice (plan_with bits spans items goals) layout k).form (place (plan_with bits spans items goals) layout k)
          (goal_address (plan_with bits spans items goals) layout k) (fragment_at (plan_with bits spans items goals) layout k).slot)
      unfolding image_of
      image-branch t some =
          let i = placed k lt in
          let b = branched bits (modulo_width bits (item_at items k).ip) i.bytes (item_at items k).instr t i.spelled some in (
            b.0,
            b.1,
            image-is ∙ ap (λ (o : Option RelativeBranch). image_by bits (item_at items k).instr o (item_choice (plan_with bits spans items goals) layout k).form (place (plan_with bits spans items goals) layout k)
                (goal_address (plan_with bits spans items goals) layout k) (fragment_at (plan_with bits spans items goals) layout k).slot) b.1,
          )

      -- **a branch goes to its goal**
      pub goes-near : IsLayout (plan_with bits spans items goals) layout → (t : ℕ) → first_value near_value (item_at items k).instr ≡ Some t
          → is_far_at (plan_with bits spans items goals) layout k ≡ false
          → first_value near_value (last_instr (image_at bits items (plan_with bits spans items goals) layout k)) ≡ Some (goal_address (plan_with bits spans items goals) layout k)
      goes-near l t some far =
          let b = image-branch t some in
          let moved = fragment-own bits spans items goals layout l k lt b.0 b.1 in
          ap (λ (is : List Instr). first_value near_value (last_instr is)) b.2
          ∙ branch-near bits (item_at items k).instr b.0 (item_choice (plan_with bits spans items goals) layout k).form (place (plan_with bits spans items goals) layout k)
          (goal_address (plan_with bits spans items goals) layout k) (fragment_at (plan_with bits spans items goals) layout k).slot moved far

      -- **or through its slot**
      pub goes-slot : (t : ℕ) → first_value near_value (item_at items k).instr ≡ Some t
          → is_far_at (plan_with bits spans items goals) layout k ≡ true
          → first_value ip_value (last_instr (image_at bits items (plan_with bits spans items goals) layout k)) ≡ Some (fragment_at (plan_with bits spans items goals) layout k).slot
      goes-slot t some far =
          let b = image-branch t some in
          ap (λ (is : List Instr). first_value ip_value (last_instr is)) b.2
          ∙ branch-far bits (item_at items k).instr b.0 (item_choice (plan_with bits spans items goals) layout k).form (place (plan_with bits spans items goals) layout k)
          (goal_address (plan_with bits spans items goals) layout k) (fragment_at (plan_with bits spans items goals) layout k).slot far

      -- **which is that of its goal**
      pub goes-far : (t : ℕ) → first_value near_value (item_at items k).instr ≡ Some t
          → is_far_at (plan_with bits spans items goals) layout k ≡ true
          → first_value ip_value (last_instr (image_at bits items (plan_with bits spans items goals) layout k))
          ≡ Some (slot_address (plan_with bits spans items goals) layout (block_number spans k) (goal_address (plan_with bits spans items goals) layout k))
      unfolding plan_with
      goes-far t some far = goes-slot t some far ∙ ap Some (slot-is (plan_with bits spans items goals) layout k far)
