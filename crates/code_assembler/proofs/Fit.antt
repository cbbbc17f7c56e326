-- The plan of a routine is well formed: the goal of each instruction is an instruction or an address.
use Rattle.std.proofs.Common.{◌≡◌, ℕ, ◌≤◌, inl, inr, true, List, length, map, Option, Some, None, refl, subst, sym}
use Rattle.std.specs.Prelude.{nat_lt, IsTrue}
use Rattle.std.specs.List.{list_all, range_with_len}
use Rattle.std.proofs.lemmas.Bool.{cases_Bool}
use Rattle.x86_values.specs.declared.Bits.{Bits}
use Rattle.branch_sizes.specs.declared.plan.Branch.{Branch}
use Rattle.branch_sizes.specs.declared.plan.Goal.{Goal}
use Rattle.branch_sizes.specs.Plan.{is_fit_goal, is_fit_branch}
use Rattle.move_goals.specs.MovedTargets.Targets.{target_of}
use Rattle.move_goals.specs.BranchForms.Choices.{choices_of}
use Rattle.move_goals.specs.declared.items.Placed.{Placed}
use Rattle.move_goals.specs.Items.{ArePlaced, item_at, one_span}
use Rattle.move_goals.specs.Plan.{branch_with, plan_with, kept_goal}
use Rattle.code_assembler.specs.LawsBelow.{AssemblerLawsBelow}
use Rattle.code_assembler.specs.Routine.{label_place, aim_at, stand_goal, aim_goal, routine_goals}

stand_fit : (count n : ℕ) (place : Option ℕ) (other : Goal) → is_fit_goal count n other ≡ true → is_fit_goal count n (stand_goal count place other) ≡ true
stand_fit count n None other fit = fit
stand_fit count n (Some k) other fit =
    elim (cases_Bool (nat_lt k count)) [
      | inl before ↦ rw before before
      | inr behind ↦ rw behind fit
    ]

module _ (laws : AssemblerLawsBelow) (bits : Bits) (labels aims : List (Option ℕ)) (items : List Placed) where
  aim_fit : (item : Placed) (aim : Option ℕ) → is_fit_goal (length items) (length (choices_of bits item.instr)) (aim_goal labels (length items) item aim) ≡ true
  aim_fit item None = laws.plans.kept-fit bits (length items) item.instr (target_of item.instr) refl
  aim_fit item (Some label) =
      stand_fit (length items) (length (choices_of bits item.instr)) (label_place labels label) (kept_goal (target_of item.instr))
      (laws.plans.kept-fit bits (length items) item.instr (target_of item.instr) refl)

  -- **the items of the plan are fit**
  pub items_fit : ArePlaced bits items → length items ≤ 65536 → (branches : List Branch)
      → branches ≡ map (branch_with bits items (routine_goals labels aims items)) (range_with_len 0 (length items))
      → IsTrue (list_all (is_fit_branch (length branches)) branches)
  unfolding plan_with
  items_fit placed few branches are =
      let plan = laws.plans.well_formed_with bits (one_span items 0) items placed (routine_goals labels aims items)
      (λ k. aim_fit (item_at items k) (aim_at aims k)) few (laws.plans.one_span-of items 0) in
      subst (λ (bs : List Branch). IsTrue (list_all (is_fit_branch (length bs)) bs)) (sym are) plan.fit
