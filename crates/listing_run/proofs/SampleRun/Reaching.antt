-- Made code that was moved: its new places are low, and each instruction reaches its goal.
use Rattle.std.proofs.Common.{◌≡◌, ℕ, zero, suc, ◌+◌, ◌-◌, ◌*◌, ◌^◌, ◌<◌, ◌≤◌, Bool, ◌&&◌, List, [], length, get_or, Option, Some, None, refl, sym, ap, ◌∙◌, subst, arith}
use Rattle.std.specs.Prelude.{not, is_some, nat_lt, ◌==◌, if◌then◌else◌, slice_get}
use Rattle.std.proofs.lemmas.Bool.{cond_both, cond-true, lt-ltb, le-ltb}
use Rattle.x86_values.specs.declared.Bits.TheVariants.{B64}
use Rattle.x86_values.specs.declared.Instr.{Instr}
use Rattle.operand_info.specs.Operands.{near_value, first_value}
use Rattle.opcode_rows.specs.Table.{table}
use Rattle.branch_sizes.specs.declared.plan.Choice.{Choice}
use Rattle.branch_sizes.specs.declared.plan.Form.{Form}
use Rattle.branch_sizes.specs.declared.plan.Form.TheVariants.{Itself}
use Rattle.branch_sizes.specs.declared.plan.Reach.{Reach}
use Rattle.branch_sizes.specs.declared.plan.Reach.TheVariants.{Always, Signed32}
use Rattle.branch_sizes.specs.Plan.{IsWellFormed, no_choice}
use Rattle.branch_sizes.specs.Layout.{IsLeast, Reaches, total, block_number, span_at, image_length, place}
use Rattle.branch_sizes.specs.Facts.{LengthFacts, TotalFacts}
use Rattle.move_goals.specs.MovedTargets.Targets.{target_of, target_reach}
use Rattle.move_goals.specs.declared.branch_forms.branch.RelativeBranch.{RelativeBranch}
use Rattle.move_goals.specs.BranchForms.Branches.{branch_by, branch_of}
use Rattle.move_goals.specs.BranchForms.Choices.{choices_by, choices_of}
use Rattle.move_goals.specs.declared.items.Placed.{Placed}
use Rattle.move_goals.specs.Items.{AreSpansOf, ArePlaced, item_at, one_span, first_passing}
use Rattle.move_goals.specs.Goals.{is_in_block_of, begins_at, own_item, other_item, goal_among, goal_of_target, goal_of, goal_at}
use Rattle.move_goals.specs.Plan.{plan_with, plan_for}
use Rattle.move_goals.specs.Facts.{FirstFacts, PlanFacts}
use Rattle.branch_sizes.specs.MoveLayout.Laid.{goal_value, goal_address, slots_of, images_end, slots_start, new_end, fragment_at}
use Rattle.branch_sizes.specs.MoveLayout.Facts.{SlotFacts}
use Rattle.block_encoder.specs.Moved.{IsReached, fragment_reach, first_new_pass}
use Rattle.block_encoder.specs.Facts.{FragmentFacts, ReachFacts}
use Rattle.listing_run.specs.SampleRun.Made.{IsAimedLow, nowhere, near, by_rip}
use Rattle.listing_run.specs.SampleRun.Sample.{moved_base}

-- ---- forms

own_choice : (i : Instr) (f : ℕ) → (get_or (choices_by B64 i None) f no_choice).form ≡ Itself
own_choice i zero = refl
own_choice i (suc f) = refl

no_branch : (i : Instr) → first_value near_value i ≡ None → branch_of i ≡ None
unfolding branch_of
no_branch i none = ap (λ (o : Option ℕ). if is_some o then branch_by (slice_get table i.code.0) else None) none

-- what has no near target keeps its form
own_form : (i : Instr) (f : ℕ) → first_value near_value i ≡ None → (get_or (choices_of B64 i) f no_choice).form ≡ Itself
unfolding choices_of
own_form i f none = ap (λ (b : Option RelativeBranch). (get_or (choices_by B64 i b) f no_choice).form) (no_branch i none) ∙ own_choice i f

-- ---- one block of few items

one_end : (end : ℕ → ℕ) → end 0 ≤ 2 ^ 64 → first_passing B64 end 1 ≡ None
one_end end le =
    ap (λ (b : Bool). elim (if◌then◌else◌ {A = Option ℕ} b (Some 0) None) as (λ (o : Option ℕ). Option ℕ) [ Some b ↦ Some (end b) | None ↦ None ]) (le-ltb (2 ^ 64) (end 0) le)

module _ (totals : TotalFacts) (lengths : LengthFacts) (first : FirstFacts) (plans : PlanFacts) (slots : SlotFacts) (fragments : FragmentFacts) (reach : ReachFacts)
    (items : List Placed) (few : length items ≤ 65536) (placed : ArePlaced B64 items) where
  -- the block takes all items
  takes-all : AreSpansOf items (one_span items moved_base)
  takes-all = plans.one_span-of items moved_base

  well : IsWellFormed (plan_for B64 (one_span items moved_base) items)
  well = plans.well_formed B64 (one_span items moved_base) items placed few takes-all

  module _ (layout : List ℕ) where
    short : (k : ℕ) → total (image_length (plan_for B64 (one_span items moved_base) items) layout) k ≤ k * 15
    short k =
        let p = plan_for B64 (one_span items moved_base) items in
        totals.total_small (image_length p layout) 15 (lengths.image_short p well layout) k

    block_is : (k : ℕ) → k < length items → block_number (one_span items moved_base) k ≡ 0
    block_is k lt = cond-true (nat_lt k (length items)) 0 (suc (block_number [] (k - length items))) (lt-ltb k (length items) lt)

    base_is : (k : ℕ) → k < length items
        → (span_at (plan_for B64 (one_span items moved_base) items).spans (block_number (plan_for B64 (one_span items moved_base) items).spans k)).new_base ≡ moved_base
    unfolding plan_with
    base_is k lt = ap (λ (b : ℕ). (span_at (one_span items moved_base) b).new_base) (block_is k lt)

    -- **each image ends at a low address**
    pub place-low : (k : ℕ) → k < length items
        → place (plan_for B64 (one_span items moved_base) items) layout k + image_length (plan_for B64 (one_span items moved_base) items) layout k ≤ 2 ^ 30
    place-low k lt =
        let p = plan_for B64 (one_span items moved_base) items in
        omega (arith, base_is k lt, short k, lengths.image_short p well layout k)

    count_is : (span_at (plan_for B64 (one_span items moved_base) items).spans 0).count ≡ length items
    unfolding plan_with
    count_is = refl

    new_base_is : (span_at (plan_for B64 (one_span items moved_base) items).spans 0).new_base ≡ moved_base
    unfolding plan_with
    new_base_is = refl

    images-low : images_end (plan_for B64 (one_span items moved_base) items) layout 0 ≤ 2 ^ 30
    unfolding images_end
    images-low =
        let p = plan_for B64 (one_span items moved_base) items in
        omega (arith, count_is, new_base_is, short (0 + (span_at p.spans 0).count))

    end-low : new_end (plan_for B64 (one_span items moved_base) items) layout 0 ≤ 2 ^ 64
    unfolding new_end
    end-low =
        let p = plan_for B64 (one_span items moved_base) items in
        cond_both (length (slots_of p layout 0) == 0) (images_end p layout 0) (slots_start p layout 0 + 8 * length (slots_of p layout 0))
        (λ (e : ℕ). e ≤ 2 ^ 64) (λ e. omega (arith, images-low)) (λ e. omega (arith, images-low, slots.few-slots p layout 0, count_is))

    -- **it ends inside the address space**
    pub ends-inside : first_new_pass B64 (plan_for B64 (one_span items moved_base) items) layout ≡ None
    unfolding plan_with
    ends-inside = one_end (new_end (plan_for B64 (one_span items moved_base) items) layout) end-low

    -- ---- goals

    among_low : (own other : Option ℕ) (t : ℕ) → ((j : ℕ) → own ≡ Some j → j < length items) → ((j : ℕ) → other ≡ Some j → j < length items) → t < 2 ^ 24
        → goal_value (plan_for B64 (one_span items moved_base) items) layout (goal_among own other t) ≤ 2 ^ 30
    among_low (Some j) other t a b low = omega (arith, place-low j (a j refl))
    among_low None (Some j) t a b low = omega (arith, place-low j (b j refl))
    among_low None None t a b low = omega arith

    target_low : (k t : ℕ) → t < 2 ^ 24 → goal_value (plan_for B64 (one_span items moved_base) items) layout (goal_of_target (one_span items moved_base) items k t) ≤ 2 ^ 30
    unfolding goal_of_target own_item other_item
    target_low k t low =
        let spans = one_span items moved_base in
        among_low (own_item spans items k t) (other_item spans items k t) t
        (λ j e. (first.some_below (λ n. is_in_block_of spans k n && begins_at items t n) (length items) j e).0)
        (λ j e. (first.some_below (λ n. not (is_in_block_of spans k n) && begins_at items t n) (length items) j e).0)
        low

    module _ (k : ℕ) (lt : k < length items) where
      goal-low : (t : ℕ) → t < 2 ^ 24 → target_of (item_at items k).instr ≡ Some t → goal_address (plan_for B64 (one_span items moved_base) items) layout k ≤ 2 ^ 30
      goal-low t low target =
          let p = plan_for B64 (one_span items moved_base) items in
          let spans = one_span items moved_base in
          let G : Option ℕ → Type 0 = λ o. goal_value p layout (goal_of spans items k o) ≤ 2 ^ 30 in
          subst (λ b. goal_value p layout b.goal ≤ 2 ^ 30) (sym (fragments.plan-item B64 spans items (goal_at spans items) k lt))
          (subst G (sym target) (target_low k t low))

      fragment_goal : (fragment_at (plan_for B64 (one_span items moved_base) items) layout k).goal ≡ goal_address (plan_for B64 (one_span items moved_base) items) layout k
      unfolding fragment_at
      fragment_goal = refl

      module _ (least : IsLeast (plan_for B64 (one_span items moved_base) items) layout) where
        fragment_own : first_value near_value (item_at items k).instr ≡ None → (fragment_at (plan_for B64 (one_span items moved_base) items) layout k).form ≡ Itself
        unfolding fragment_at
        fragment_own none =
            let spans = one_span items moved_base in
            ap (λ (c : Choice). c.form) (fragments.choice-is B64 spans items (goal_at spans items) layout least.closed.is_layout k lt)
            ∙ own_form (item_at items k).instr (get_or layout k 0) none

        -- what is no branch is reached where its operand is
        by_operand : (by : Reach) → first_value near_value (item_at items k).instr ≡ None → target_reach (item_at items k).instr ≡ by
            → Reaches by (fragment_at (plan_for B64 (one_span items moved_base) items) layout k).len (fragment_at (plan_for B64 (one_span items moved_base) items) layout k).place
            (fragment_at (plan_for B64 (one_span items moved_base) items) layout k).goal
            → IsReached B64 items (plan_for B64 (one_span items moved_base) items) layout k
        by_operand by none is h =
            let spans = one_span items moved_base in
            let fragment = fragment_at (plan_for B64 spans items) layout k in
            let own = fragment_own none in
            let R : Reach → Type 0 = λ r. Reaches r fragment.len fragment.place fragment.goal in
            let F : Form → Type 0 = λ f. Reaches (fragment_reach (item_at items k).instr f fragment.reach) fragment.len fragment.place fragment.goal in
            reach.other-reached B64 items spans takes-all placed few layout least ends-inside k lt own (subst F (sym own) (subst R (sym is) h))

        -- **an item that is aimed low is reached**
        pub with_target-reached : IsAimedLow (item_at items k).instr → IsReached B64 items (plan_for B64 (one_span items moved_base) items) layout k
        with_target-reached (nowhere none target is) = by_operand Always none is tt
        with_target-reached (near t e) = reach.reached-in_64 items (one_span items moved_base) takes-all placed few layout least ends-inside k t lt e
        with_target-reached (by_rip t low none target is) =
            let spans = one_span items moved_base in
            let goal = goal-low t low target in
            let end = place-low k lt in
            let at = fragments.fragment-place B64 spans items (goal_at spans items) layout least.closed.is_layout k lt in
            let len = fragments.fragment-image_length B64 spans items (goal_at spans items) layout least.closed.is_layout k lt in
            by_operand Signed32 none is (omega (arith, at, len, fragment_goal), omega (arith, at, len, fragment_goal))
