-- What holds of the first number that passes a test, and of the plans of moved blocks.
use Rattle.std.specs.Prelude.{◌≡◌, ℕ, ◌+◌, ◌<◌, ◌≤◌, Bool, true, false, List, [], ◌∷◌, ◌++◌, length, map, Option, None, Some}
use Rattle.std.specs.List.{range_with_len}
use Rattle.x86_values.specs.declared.Bits.{Bits}
use Rattle.x86_values.specs.declared.Instr.{Instr}
use Rattle.branch_sizes.specs.declared.plan.BlockSpan.{BlockSpan}
use Rattle.branch_sizes.specs.declared.plan.Branch.{Branch}
use Rattle.branch_sizes.specs.declared.plan.Goal.{Goal}
use Rattle.branch_sizes.specs.Plan.{is_fit_goal, IsWellFormed}
use Rattle.move_goals.specs.MovedTargets.Targets.{target_of}
use Rattle.move_goals.specs.BranchForms.Choices.{choices_of}
use Rattle.move_goals.specs.declared.items.Placed.{Placed}
use Rattle.move_goals.specs.Items.{AreSpansOf, ArePlaced, item_at, first_below, one_span}
use Rattle.move_goals.specs.Plan.{plan_with, plan_for, kept_goal, plan_outside}

-- the first number below a bound that passes a test
pub record FirstFacts : Type 0 where
  -- none passes where there is none, and otherwise it is the one before which none does
  pub first_below_none : (p : ℕ → Bool) (n : ℕ) → ((j : ℕ) → j < n → p j ≡ false) → first_below p n ≡ None
  pub first_below_hit : (p : ℕ → Bool) (n k : ℕ) → k < n → p k ≡ true → ((j : ℕ) → j < k → p j ≡ false) → first_below p n ≡ Some k
  pub none_below : (p : ℕ → Bool) (n : ℕ) → first_below p n ≡ None → (j : ℕ) → j < n → p j ≡ false
  pub some_below : (p : ℕ → Bool) (n k : ℕ) → first_below p n ≡ Some k → (k < n) × (p k ≡ true)
  -- tests that agree have the same one
  pub first_below_congr : (p q : ℕ → Bool) (n : ℕ) → ((j : ℕ) → j < n → p j ≡ q j) → first_below p n ≡ first_below q n

-- the plans of items that were well placed
pub record PlanFacts : Type 0 where
  pub well_formed : (bits : Bits) (spans : List BlockSpan) (items : List Placed) → ArePlaced bits items → length items ≤ 65536 → AreSpansOf items spans
      → IsWellFormed (plan_for bits spans items)
  -- one block takes all items
  pub one_span-of : (items : List Placed) (new_base : ℕ) → AreSpansOf items (one_span items new_base)
  pub outside-fit : (bits : Bits) (items : List Placed) (new_base : ℕ) → ArePlaced bits items → length items ≤ 65536
      → IsWellFormed (plan_outside bits items new_base)
  -- so is any plan of them whose goals are fit
  pub well_formed_with : (bits : Bits) (spans : List BlockSpan) (items : List Placed) → ArePlaced bits items → (goals : ℕ → Goal)
      → ((k : ℕ) → is_fit_goal (length items) (length (choices_of bits (item_at items k).instr)) (goals k) ≡ true)
      → length items ≤ 65536 → AreSpansOf items spans → IsWellFormed (plan_with bits spans items goals)
  -- a goal that stays is fit
  pub kept-fit : (bits : Bits) (count : ℕ) (i : Instr) (target : Option ℕ) → target_of i ≡ target
      → is_fit_goal count (length (choices_of bits i)) (kept_goal target) ≡ true
  -- the items of a plan with one more
  pub one_more : (f : ℕ → Branch) (before after : List Branch) (k : ℕ) (item : Branch) → before ≡ map f (range_with_len 0 k) → after ≡ before ++ item ∷ []
      → item ≡ f k → after ≡ map f (range_with_len 0 (k + 1))
