-- The jump back of a step block has its bytes wherever the block stands.
use Rattle.std.proofs.Common.{◌≡◌, ℕ, zero, suc, ◌-◌, ◌^◌, ◌≤◌, ◌<◌, false, List, [], ◌∷◌, length, get_or, Option, Some, None, Result, Ok, Err, slice_get, refl, ap, sym, ◌∙◌, subst, arith}
use Rattle.std.specs.Prelude.{IsSome, is_some, if◌then◌else◌, unwrap_or}
use Rattle.std.specs.Option.{option_or}
use Rattle.x86_values.specs.declared.Bits.{Bits}
use Rattle.x86_values.specs.declared.Bits.TheVariants.{B16, B32, B64}
use Rattle.x86_values.specs.declared.Instr.{Instr}
use Rattle.x86_values.specs.Wrapping.{width}
use Rattle.instruction_parts.specs.declared.row_types.Map.TheVariants.{One}
use Rattle.instruction_parts.specs.declared.row_types.OpKind.TheVariants.{Jz}
use Rattle.plain_spelling.specs.declared.NoSpelling.{NoSpelling}
use Rattle.opcode_rows.specs.Table.{table}
use Rattle.operand_info.specs.Operands.{near_value, ip_value, first_value}
use Rattle.encoder.specs.Encoding.{encoding}
use Rattle.branch_sizes.specs.declared.plan.Choice.{Choice}
use Rattle.branch_sizes.specs.declared.plan.Form.TheVariants.{Near as NearForm}
use Rattle.branch_sizes.specs.declared.plan.Goal.{Goal}
use Rattle.branch_sizes.specs.declared.plan.Goal.TheVariants.{Outside}
use Rattle.branch_sizes.specs.Plan.{no_choice}
use Rattle.branch_sizes.specs.Layout.{IsLayout, IsLeast, Reaches, ReachesGoal, item_choice, place}
use Rattle.move_goals.specs.MovedTargets.Targets.{target_of, plain_length}
use Rattle.move_goals.specs.declared.branch_forms.branch.Action.TheVariants.{Jump}
use Rattle.move_goals.specs.declared.branch_forms.branch.RelativeBranch.{RelativeBranch}
use Rattle.move_goals.specs.BranchForms.Branches.{size_of, near_action, branch_in, branch_by, branch_of, near_code}
use Rattle.move_goals.specs.BranchForms.Images.{branch_to, branch_image, image_by, image_of}
use Rattle.move_goals.specs.BranchForms.Choices.{branch_forms, near_reach, form_reach, branch_choice, choices_by, choices_of}
use Rattle.move_goals.specs.BranchForms.Rows.{offset_row}
use Rattle.move_goals.specs.declared.items.Placed.{Placed}
use Rattle.move_goals.specs.Items.{IsPlaced, ArePlaced, item_at, one_span}
use Rattle.move_goals.specs.Plan.{kept_goal, kept_goals, plan_outside}
use Rattle.branch_sizes.specs.MoveLayout.Laid.{goal_value, goal_address, fragment_at}
use Rattle.block_encoder.specs.Bytes.{in_front, bytes_from}
use Rattle.block_encoder.specs.Moved.{fragment_reach, IsReached, first_new_pass}
use Rattle.step_slots.specs.Block.{jump_to}
use Rattle.step_slots.specs.LawsBelow.{StepLawsBelow}

-- an instruction has an encoding at an address
abbrev IsEncodedIn : Bits → ℕ → Instr → Type 0
IsEncodedIn bits at i = (bytes : List ℕ) × (encoding bits at i ≡ Ok bytes)

branch_to-code : (bits : Bits) (t : ℕ) → (branch_to (near_code Jump bits) None t).code.0 ≡ near_code Jump bits
unfolding branch_to
branch_to-code bits t = refl

-- ---- the jump

abbrev back_branch : Bits → RelativeBranch
back_branch bits = record { action = Jump; is_short = false; size = bits }

jump-near : (bits : Bits) (t : ℕ) → first_value near_value (jump_to bits t) ≡ Some t
unfolding jump_to branch_to near_value
jump-near bits t = refl

jump-target : (bits : Bits) (t : ℕ) → target_of (jump_to bits t) ≡ Some t
unfolding target_of
jump-target bits t = ap (λ (o : Option ℕ). option_or o (first_value ip_value (jump_to bits t))) (jump-near bits t)

in_row : (size : Bits) → branch_in (offset_row One 0xE9 Jz 20 size) ≡ Some (back_branch size)
unfolding branch_in near_action size_of
in_row B16 = refl
in_row B32 = refl
in_row B64 = refl

branch_to-near : (bits : Bits) (t : ℕ) → first_value near_value (branch_to (near_code Jump bits) None t) ≡ Some t
unfolding branch_to near_value
branch_to-near bits t = refl

one-some : (bits : Bits) (at : ℕ) (i : Instr) → IsEncodedIn bits at i → IsSome (bytes_from bits at (i ∷ []))
unfolding bytes_from
one-some bits at i (bytes, h) =
    ap (λ (r : Result (List ℕ) NoSpelling). is_some (elim r as (λ (x : Result (List ℕ) NoSpelling). Option (List ℕ)) [ Ok b ↦ in_front b (Some []) | Err why ↦ None ])) h

-- ---- outside 64-bit mode it has one form

first_of_one : (c : Choice) (f : ℕ) → f < length (c ∷ []) → get_or (c ∷ []) f no_choice ≡ c
first_of_one c zero lt = refl
first_of_one c (suc f) lt = absurd (omega arith)

module _ (laws : StepLawsBelow) where
  -- **outside 64-bit mode the jump is encoded at every address**
  jump-encoded : (bits : Bits) (at t : ℕ) → (bits ≡ B64 → ⊥) → t < 2 ^ width bits → IsEncodedIn bits at (jump_to bits t)
  unfolding jump_to
  jump-encoded bits at t other below = laws.jumps.jump-encoded bits at t other below

  -- ---- the jump as one that stands at its target

  -- **it is well placed**
  pub jump-placed : (bits : Bits) (t len : ℕ) → t < 2 ^ width bits → len ≡ plain_length bits (jump_to bits t) → IsPlaced bits (record { ip = t; len = len; instr = jump_to bits t })
  unfolding jump_to
  jump-placed bits t len below is = laws.jumps.jump-placed bits t len below is

  branch_by-row : (bits : Bits) → branch_by (slice_get table (near_code Jump bits)) ≡ Some (back_branch bits)
  branch_by-row bits = ap branch_by (laws.codes.near-jump bits) ∙ in_row bits

  branch_to-branch : (bits : Bits) (t : ℕ) → branch_of (branch_to (near_code Jump bits) None t) ≡ Some (back_branch bits)
  unfolding branch_of
  branch_to-branch bits t =
      ap (λ (o : Option ℕ). if is_some o then branch_by (slice_get table (branch_to (near_code Jump bits) None t).code.0) else None) (branch_to-near bits t)
      ∙ (ap (λ (c : ℕ). branch_by (slice_get table c)) (branch_to-code bits t) ∙ branch_by-row bits)

  jump-branch : (bits : Bits) (t : ℕ) → branch_of (jump_to bits t) ≡ Some (back_branch bits)
  unfolding jump_to
  jump-branch bits t = branch_to-branch bits t

  -- in its near form it is itself
  jump-image : (bits : Bits) (t at goal slot : ℕ) → image_of bits (jump_to bits t) NearForm at goal slot ≡ jump_to bits goal ∷ []
  unfolding image_of branch_image jump_to
  jump-image bits t at goal slot = ap (λ (b : Option RelativeBranch). image_by bits (branch_to (near_code Jump bits) None t) b NearForm at goal slot) (branch_to-branch bits t)

  -- ---- the jump in a step block

  module _ (bits : Bits) (items : List Placed) (new_base : ℕ) (layout : List ℕ) (l : IsLayout (plan_outside bits items new_base) layout)
      (k : ℕ) (lt : k < length items) (t : ℕ) (is : (item_at items k).instr ≡ jump_to bits t) where
    jump-goal : goal_address (plan_outside bits items new_base) layout k ≡ t
    jump-goal =
        laws.last.kept-address bits items new_base k lt layout
        ∙ (ap (λ (i : Instr). unwrap_or (target_of i) 0) is ∙ ap (λ (o : Option ℕ). unwrap_or o 0) (jump-target bits t))

    one-reached : choices_of bits (jump_to bits t) ≡ branch_choice bits (jump_to bits t) (back_branch bits) NearForm ∷ []
        → ((len at : ℕ) → Reaches (form_reach bits (back_branch bits) (jump_to bits t).asize NearForm) len at t)
        → IsEncodedIn bits (place (plan_outside bits items new_base) layout k) (jump_to bits t)
        → IsReached bits items (plan_outside bits items new_base) layout k
    unfolding fragment_at
    one-reached choices reaches encoded =
        let p = plan_outside bits items new_base in
        let at = place p layout k in
        let goal = goal_address p layout k in
        let slot = (fragment_at p layout k).slot in
        let c = branch_choice bits (jump_to bits t) (back_branch bits) NearForm in
        let all : choices_of bits (item_at items k).instr ≡ c ∷ [] = ap (choices_of bits) is ∙ choices in
        let below : get_or layout k 0 < length (c ∷ []) =
        subst (λ (cs : List Choice). get_or layout k 0 < length cs) all (laws.fragments.choice-below bits (one_span items new_base) items (kept_goals items) layout l k lt) in
        let chosen_is : item_choice p layout k ≡ c =
        laws.fragments.choice-is bits (one_span items new_base) items (kept_goals items) layout l k lt
        ∙ (ap (λ (cs : List Choice). get_or cs (get_or layout k 0) no_choice) all ∙ first_of_one c (get_or layout k 0) below) in
        let there : Reaches c.reach c.len at goal = subst (λ (g : ℕ). Reaches c.reach c.len at g) (sym jump-goal) (reaches c.len at) in
        let image : image_of bits (item_at items k).instr NearForm at goal slot ≡ jump_to bits t ∷ [] =
        ap (λ (i : Instr). image_of bits i NearForm at goal slot) is
        ∙ (jump-image bits t at goal slot ∙ ap (λ (g : ℕ). jump_to bits g ∷ []) jump-goal) in
        let written : IsSome (bytes_from bits at (image_of bits (item_at items k).instr NearForm at goal slot)) =
        subst (λ (is : List Instr). IsSome (bytes_from bits at is)) (sym image) (one-some bits at (jump_to bits t) encoded) in
        subst (λ (d : Choice). Reaches (fragment_reach (item_at items k).instr d.form d.reach) d.len at goal
        × IsSome (bytes_from bits at (image_of bits (item_at items k).instr d.form at goal slot))) (sym chosen_is) (there, written)

  jump-choices-16 : (t : ℕ) → choices_of B16 (jump_to B16 t) ≡ branch_choice B16 (jump_to B16 t) (back_branch B16) NearForm ∷ []
  unfolding choices_of branch_forms
  jump-choices-16 t = ap (choices_by B16 (jump_to B16 t)) (jump-branch B16 t)

  jump-choices-32 : (t : ℕ) → choices_of B32 (jump_to B32 t) ≡ branch_choice B32 (jump_to B32 t) (back_branch B32) NearForm ∷ []
  unfolding choices_of branch_forms
  jump-choices-32 t = ap (choices_by B32 (jump_to B32 t)) (jump-branch B32 t)

  -- **the jump back reaches from every place at which its block ends inside the address space**
  pub jump-reached : (bits : Bits) (items : List Placed) (new_base : ℕ) (placed : ArePlaced bits items) (few : length items ≤ 65536) (layout : List ℕ)
      → IsLeast (plan_outside bits items new_base) layout → first_new_pass bits (plan_outside bits items new_base) layout ≡ None
      → (k : ℕ) → k < length items → (t : ℕ) → (item_at items k).instr ≡ jump_to bits t → t < 2 ^ width bits
      → IsReached bits items (plan_outside bits items new_base) layout k
  unfolding form_reach near_reach
  jump-reached B16 items new_base placed few layout least inside k lt t is below =
      one-reached B16 items new_base layout least.closed.is_layout k lt t is (jump-choices-16 t) (λ len at. below)
      (jump-encoded B16 (place (plan_outside B16 items new_base) layout k) t (λ e. cc) below)
  jump-reached B32 items new_base placed few layout least inside k lt t is below =
      one-reached B32 items new_base layout least.closed.is_layout k lt t is (jump-choices-32 t) (λ len at. below)
      (jump-encoded B32 (place (plan_outside B32 items new_base) layout k) t (λ e. cc) below)
  jump-reached B64 items new_base placed few layout least inside k lt t is below =
      let p = plan_outside B64 items new_base in
      let goal : goal_address p layout k ≡ t = jump-goal B64 items new_base layout least.closed.is_layout k lt t is in
      let stays : kept_goals items k ≡ Outside t = ap (λ (i : Instr). kept_goal (target_of i)) is ∙ ap kept_goal (jump-target B64 t) in
      laws.reach.branch-reached-in_64 items (one_span items new_base) (kept_goals items) (laws.plans.one_span-of items new_base) placed few (laws.plans.outside-fit B64 items new_base placed few)
      layout least inside k lt
      (λ c h. subst (λ (g : Goal). Reaches c.reach c.len (place p layout k) (goal_value p layout g)) (sym stays)
      (subst (λ (g : Goal). ReachesGoal p layout k c g) stays h).0)
      (omega (arith, goal, below)) t (ap (first_value near_value) is ∙ jump-near B64 t)
