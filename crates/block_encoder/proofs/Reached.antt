-- What is no relative branch has its bytes wherever it reaches its goal.
use Rattle.std.proofs.Common.{◌≡◌, ℕ, ◌+◌, ◌^◌, ◌<◌, ◌≤◌, List, [], ◌∷◌, length, get_or, Option, Some, None, refl, ap, sym, ◌∙◌, subst, arith}
use Rattle.std.specs.Prelude.{IsSome, not, ◌&&◌}
use Rattle.x86_values.specs.declared.Bits.{Bits}
use Rattle.x86_values.specs.declared.Instr.{Instr}
use Rattle.x86_values.specs.Wrapping.{width, modulo_width}
use Rattle.branch_sizes.specs.declared.plan.BlockSpan.{BlockSpan}
use Rattle.branch_sizes.specs.declared.plan.Form.{Form}
use Rattle.branch_sizes.specs.declared.plan.Form.TheVariants.{Itself}
use Rattle.branch_sizes.specs.Layout.{IsLayout, Reaches, place, image_length}
use Rattle.move_goals.specs.MovedTargets.Targets.{target_of, target_reach, with_target, plain_length}
use Rattle.move_goals.specs.declared.branch_forms.branch.RelativeBranch.{RelativeBranch}
use Rattle.move_goals.specs.BranchForms.Branches.{branch_of}
use Rattle.move_goals.specs.BranchForms.Images.{image_by, image_of}
use Rattle.move_goals.specs.BranchForms.Choices.{choices_of}
use Rattle.move_goals.specs.declared.items.Placed.{Placed}
use Rattle.move_goals.specs.Items.{AreSpansOf, ArePlaced, item_at}
use Rattle.move_goals.specs.Goals.{is_in_block_of, begins_at, own_item, other_item, goal_among, goal_of_target, goal_of, goal_at}
use Rattle.move_goals.specs.Plan.{plan_with, plan_for}
use Rattle.branch_sizes.specs.MoveLayout.Laid.{goal_value, goal_address, fragment_at}
use Rattle.block_encoder.specs.Bytes.{bytes_from}
use Rattle.block_encoder.specs.Moved.{fragment_reach, IsReached, first_new_pass}
use Rattle.block_encoder.specs.LawsBelow.{MovedLawsBelow}
use Rattle.block_encoder.proofs.Sweeping.{one_spelled}
use Rattle.block_encoder.proofs.Inside.{width-most, image-within}
use Rattle.block_encoder.proofs.Chosen.{plan-item, choice-is, choice-below, fragment-length, fragment-no_branch, fragment-place, fragment-image_length}

-- what is no relative branch is itself in each form, aimed at its goal
other_image : (bits : Bits) (i : Instr) (form : Form) (at goal slot : ℕ) → branch_of i ≡ None → image_of bits i form at goal slot ≡ with_target goal i ∷ []
unfolding image_of
other_image bits i form at goal slot none = ap (λ (b : Option RelativeBranch). image_by bits i b form at goal slot) none

module _ (laws : MovedLawsBelow) where
  -- ---- goals

  module _ (bits : Bits) (items : List Placed) (spans : List BlockSpan) (s : AreSpansOf items spans) (placed : ArePlaced bits items)
      (layout : List ℕ) (l : IsLayout (plan_for bits spans items) layout) (inside : first_new_pass bits (plan_for bits spans items) layout ≡ None) where
    -- an image has a byte
    some_byte : (k : ℕ) → k < length items → 1 ≤ image_length (plan_for bits spans items) layout k
    some_byte k lt =
        let i = placed k lt in
        let fit = laws.forms.spelled-fit bits (modulo_width bits (item_at items k).ip) i.bytes (item_at items k).instr i.spelled in
        let low = laws.lengths.length_at_least 1 (choices_of bits (item_at items k).instr) (get_or layout k 0) fit.2 (choice-below bits spans items (goal_at spans items) layout l k lt) in
        omega (arith, low, ap (λ c. c.len) (choice-is bits spans items (goal_at spans items) layout l k lt))

    -- an image ends inside the address space
    ends : (k : ℕ) → k < length items → place (plan_for bits spans items) layout k + image_length (plan_for bits spans items) layout k ≤ 2 ^ width bits
    unfolding plan_with
    ends k lt = image-within laws bits (plan_for bits spans items) layout inside k (omega (arith, lt, s.counts))

    place_below : (k : ℕ) → k < length items → place (plan_for bits spans items) layout k < 2 ^ 64
    place_below k lt = omega (arith, some_byte k lt, ends k lt, width-most bits)

    -- an item or an address is below 2 to the power of 64
    among_below : (own other : Option ℕ) (t : ℕ) → ((j : ℕ) → own ≡ Some j → j < length items) → ((j : ℕ) → other ≡ Some j → j < length items) → t < 2 ^ 64 → goal_value (plan_for bits spans items) layout (goal_among own other t) < 2 ^ 64
    among_below (Some j) other t a b below = place_below j (a j refl)
    among_below None (Some j) t a b below = place_below j (b j refl)
    among_below None None t a b below = below

    target_below : (k t : ℕ) → t < 2 ^ 64 → goal_value (plan_for bits spans items) layout (goal_of_target spans items k t) < 2 ^ 64
    unfolding goal_of_target own_item other_item
    target_below k t below =
        among_below (own_item spans items k t) (other_item spans items k t) t
        (λ j e. (laws.firsts.some_below (λ n. is_in_block_of spans k n && begins_at items t n) (length items) j e).0)
        (λ j e. (laws.firsts.some_below (λ n. not (is_in_block_of spans k n) && begins_at items t n) (length items) j e).0)
        below

    module _ (k : ℕ) (lt : k < length items) where
      by_target : (o : Option ℕ) → ((t : ℕ) → o ≡ Some t → t < 2 ^ 64) → goal_value (plan_for bits spans items) layout (goal_of spans items k o) < 2 ^ 64
      by_target None h = omega arith
      by_target (Some t) h = target_below k t (h t refl)

      -- **its goal is an address**
      pub goal-below : goal_address (plan_for bits spans items) layout k < 2 ^ 64
      goal-below =
          let i = placed k lt in
          subst (λ b. goal_value (plan_for bits spans items) layout b.goal < 2 ^ 64) (sym (plan-item bits spans items (goal_at spans items) k lt))
          (by_target (target_of (item_at items k).instr)
          (λ t e. laws.targets.target-below bits (modulo_width bits (item_at items k).ip) i.bytes (item_at items k).instr t i.spelled e))

      fragment_goal : (fragment_at (plan_for bits spans items) layout k).goal ≡ goal_address (plan_for bits spans items) layout k
      unfolding fragment_at
      fragment_goal = refl

      -- **it has its bytes where it reaches its goal**
      pub other-reached : (fragment_at (plan_for bits spans items) layout k).form ≡ Itself
          → Reaches (fragment_reach (item_at items k).instr (fragment_at (plan_for bits spans items) layout k).form (fragment_at (plan_for bits spans items) layout k).reach) (fragment_at (plan_for bits spans items) layout k).len (fragment_at (plan_for bits spans items) layout k).place (fragment_at (plan_for bits spans items) layout k).goal
          → IsReached bits items (plan_for bits spans items) layout k
      other-reached own reaches =
          let fragment = fragment_at (plan_for bits spans items) layout k in
          let instr = (item_at items k).instr in
          let i = placed k lt in
          let old = modulo_width bits (item_at items k).ip in
          let no_branch = fragment-no_branch bits spans items (goal_at spans items) layout l k lt own in
          let none = laws.forms.no_branch-no_near bits old i.bytes instr i.spelled no_branch in
          let len : fragment.len ≡ plain_length bits instr = fragment-length bits spans items (goal_at spans items) layout l k lt ∙ laws.forms.other-length bits instr fragment.form no_branch in
          let target : Reaches (target_reach instr) fragment.len fragment.place fragment.goal =
          subst (λ (form : Form). Reaches (fragment_reach instr form fragment.reach) fragment.len fragment.place fragment.goal) own reaches in
          let there : Reaches (target_reach instr) (plain_length bits instr) fragment.place fragment.goal =
          subst (λ (n : ℕ). Reaches (target_reach instr) n fragment.place fragment.goal) len target in
          let within : fragment.place + plain_length bits instr ≤ 2 ^ width bits =
          omega (arith, len, ends k lt, fragment-place bits spans items (goal_at spans items) layout l k lt, fragment-image_length bits spans items (goal_at spans items) layout l k lt) in
          let below : fragment.goal < 2 ^ 64 = omega (arith, fragment_goal, goal-below) in
          let e = laws.targets.encoded-elsewhere bits old fragment.place fragment.goal i.bytes instr i.spelled none there within below in (
            reaches,
            subst (λ (is : List Instr). IsSome (bytes_from bits fragment.place is)) (sym (other_image bits instr fragment.form fragment.place fragment.goal fragment.slot no_branch))
                (one_spelled bits fragment.place (with_target fragment.goal instr) e.0 e.1),
          )
