-- A routine without far forms has no slots, and the goal of a far form is the address to which its item goes.
use Rattle.std.proofs.Common.{◌≡◌, ℕ, zero, suc, ◌+◌, ◌<◌, ◌≤◌, Bool, true, false, List, [], ◌∷◌, ◌++◌, length, get_or, Option, Some, None, refl, sym, subst, ap, ◌∙◌, arith}
use Rattle.std.specs.Prelude.{position, unwrap_or, if◌then◌else◌, Ok}
use Rattle.std.specs.List.{range_with_len, position_or_len}
use Rattle.std.proofs.lemmas.Grind.{common_steps}
use Rattle.std.proofs.lemmas.Option.{slice_get-get_or}
use Rattle.std.proofs.lemmas.List.FromFn.{length-map-range_with_len, get_or-map-range_with_len}
use Rattle.std.proofs.lemmas.List.Quantifiers.{position-Some}
use Rattle.std.proofs.lemmas.List.Sums.{fails_before_first}
use Rattle.x86_values.specs.declared.Bits.{Bits}
use Rattle.branch_sizes.specs.declared.plan.Branch.{Branch}
use Rattle.branch_sizes.specs.declared.plan.Form.{Form}
use Rattle.branch_sizes.specs.declared.plan.Form.TheVariants.{Itself}
use Rattle.operand_info.specs.Operands.{near_value, ip_value}
use Rattle.branch_sizes.specs.Plan.{BlockPlan, plan_of}
use Rattle.branch_sizes.specs.Layout.{item_choice}
use Rattle.branch_sizes.specs.MoveLayout.Laid.{has_far_form, is_far_at, with_goal, far_goals, slots_of, all_slots, goal_value, goal_address}
use Rattle.move_goals.specs.MovedTargets.Targets.{target_of}
use Rattle.move_goals.specs.declared.items.Placed.{Placed}
use Rattle.move_goals.specs.Items.{item_at, no_item, one_span}
use Rattle.move_goals.specs.Plan.{plan_with, kept_goal}
use Rattle.block_encoder.specs.Moved.{MovedLists}
use Rattle.block_encoder.specs.ByPlan.{IsMovedBy}
use Rattle.code_assembler.specs.LawsBelow.{AssemblerLawsBelow}
use Rattle.code_assembler.specs.StandIn.{stand_in, nop}
use Rattle.code_assembler.specs.Routine.{RoutineState, has_end_label, aim_at, aim_goal, routine_goals, routine_plan, with_byte, ended}
use Rattle.code_assembler.specs.Finished.{AssembledState, IsFinished, IsLaidOut}
use Rattle.code_assembler.specs.Near.{first_far, target_in, own_target, aimed_address, address_aimed, IsNear, IsFarAt}
use Rattle.code_assembler.proofs.AtLabels.{aim-end}

-- ---- no slots

-- without a first far form no form is far
none_far : (forms : List Form) → first_far forms ≡ None → (k : ℕ) → k < length forms → has_far_form (get_or forms k Itself) ≡ false
none_far forms none k lt =
    let past : length forms ≤ position_or_len has_far_form forms = grind (arith, common_steps) in
    fails_before_first has_far_form forms k Itself (omega (arith, lt, past))

-- items without far forms have no goals in slots
no_goals : (p : BlockPlan) (layout : List ℕ) (first n : ℕ) → ((k : ℕ) → k < n → is_far_at p layout (first + k) ≡ false) → far_goals p layout first n ≡ []
no_goals p layout first zero none = refl
no_goals p layout first (suc n) none =
    ap (λ (far : Bool). with_goal (far_goals p layout first n) far (goal_address p layout (first + n))) (none n (omega arith))
    ∙ no_goals p layout first n (λ k lt. none k (omega (arith, lt)))

-- so one block of such items has no slots
one_without : (branches : List Branch) (layout : List ℕ) (n base : ℕ) → let p = plan_of (record { count = n; new_base = base } ∷ []) branches in
    ((k : ℕ) → k < n → is_far_at p layout k ≡ false) → all_slots p layout 1 ≡ []
unfolding slots_of
one_without branches layout n base none =
    let p = plan_of (record { count = n; new_base = base } ∷ []) branches in
    let from : (k : ℕ) → k < n → is_far_at p layout (0 + k) ≡ false =
    λ k lt. let same : k ≡ 0 + k = omega arith in subst (λ (j : ℕ). is_far_at p layout j ≡ false) same (none k lt) in
    ap (λ (xs : List ℕ). xs ++ []) (no_goals p layout 0 n from)

module _ (laws : AssemblerLawsBelow) (s : RoutineState) (base : ℕ) (m : MovedLists) (moved : IsMovedBy s.bits s.items (routine_plan s base) m) where
  -- form k is that of the choice of item k
  form_is : (k : ℕ) → k < length s.items → get_or m.forms k Itself ≡ (item_choice (routine_plan s base) moved.layout k).form
  form_is k lt =
      let form : ℕ → Form = λ k. (item_choice (routine_plan s base) moved.layout k).form in
      ap (λ (forms : List Form). get_or forms k Itself) moved.lists.forms
      ∙ get_or-map-range_with_len form 0 (length s.items) k k Itself lt (omega arith)

  -- there are as many forms as items
  form_count : length m.forms ≡ length s.items
  form_count =
      ap (λ (forms : List Form). length forms) moved.lists.forms
      ∙ length-map-range_with_len (λ k. (item_choice (routine_plan s base) moved.layout k).form) 0 (length s.items)

  -- without far forms there are no slots
  slots_none : first_far m.forms ≡ None → m.slots ≡ []
  unfolding routine_plan plan_with
  slots_none none =
      moved.lists.slots
      ∙ one_without (routine_plan s base).items moved.layout (length s.items) base
      (λ k lt. ap has_far_form (sym (form_is k lt)) ∙ none_far m.forms none k (omega (arith, lt, form_count)))

-- ---- where a far form goes

-- a target that stays, as an address
kept_is : (p : BlockPlan) (layout : List ℕ) (target : Option ℕ) → goal_value p layout (kept_goal target) ≡ unwrap_or target 0
kept_is p layout None = refl
kept_is p layout (Some t) = refl

-- the goal of an item is the address to which it goes
aimed_is : AssemblerLawsBelow → (t : RoutineState) (base count : ℕ) (a : AssembledState) (laid : IsLaidOut t base count a) (k : ℕ) → k < length t.items
    → (aim : Option ℕ) → aim_at t.aims k ≡ aim → aimed_address a (own_target t.items k) aim ≡ goal_address (routine_plan t base) laid.moved.layout k
unfolding routine_plan
aimed_is laws t base count a laid k lt None is =
    let goals = routine_goals t.labels t.aims t.items in
    let p = plan_with t.bits (one_span t.items base) t.items goals in
    sym (ap (λ (b : Branch). goal_value p laid.moved.layout b.goal) (laws.fragments.plan-item t.bits (one_span t.items base) t.items goals k lt)
    ∙ (ap (λ (aim : Option ℕ). goal_value p laid.moved.layout (aim_goal t.labels (length t.items) (item_at t.items k) aim)) is
    ∙ (kept_is p laid.moved.layout (target_of (item_at t.items k).instr) ∙ sym (ap target_in (slice_get-get_or t.items k no_item lt)))))
aimed_is laws t base count a laid k lt (Some label) is =
    let to = laid.to_labels k label lt is in
    ap (λ (o : Option ℕ). unwrap_or o 0) to.address ∙ sym to.goal

-- the byte that may be added at the end goes nowhere, as no item does
own-end : (bits : Bits) (items : List Placed) (k : ℕ) → own_target (items ++ stand_in bits ∷ []) k ≡ own_target items k
unfolding nop target_of near_value ip_value
own-end bits [] zero = refl
own-end bits [] (suc k) = refl
own-end bits (item ∷ items) zero = refl
own-end bits (item ∷ items) (suc k) = own-end bits items k

-- an item goes to the same address with such a byte behind it
aimed-end : (s : RoutineState) (a : AssembledState) (k : ℕ) (b : Bool) → let t = if b then with_byte s 0xCC else s in
    address_aimed t.aims t.items a k ≡ address_aimed s.aims s.items a k
aimed-end s a k true =
    ap (λ (own : ℕ). aimed_address a own (aim_at (with_byte s 0xCC).aims k)) (own-end s.bits s.items k)
    ∙ ap (aimed_address a (own_target s.items k)) (aim-end s.aims k)
aimed-end s a k false = refl

-- ---- the answer

module _ (laws : AssemblerLawsBelow) (s : RoutineState) (base : ℕ) (a : AssembledState) (finished : IsFinished s base (Ok a)) where
  -- **without far forms the bytes have no slots**
  pub near_is : first_far a.moved.forms ≡ None → IsNear s base a
  near_is none = record { finished = finished; near = none; slots = slots_none laws (ended s) base a.moved finished.moved none }

  -- **the first far form goes to this address**
  pub far_is : (at target : ℕ) → first_far a.moved.forms ≡ Some at → target ≡ address_aimed s.aims s.items a at → IsFarAt s base at target
  far_is at target first is =
      let there = position-Some has_far_form a.moved.forms at Itself first in
      let inside : at < length (ended s).items = omega (arith, there.0, form_count laws (ended s) base a.moved finished.moved) in
      record {
        made = a;
        finished = finished;
        first = first;
        target_is =
            is
            ∙ (sym (aimed-end s a at (has_end_label s.labels (length s.items)))
            ∙ aimed_is laws (ended s) base (length s.items) a finished at inside (aim_at (ended s).aims at) refl);
      }
