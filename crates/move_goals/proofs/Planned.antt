-- The items of a plan of moved blocks: each is fit.
use Rattle.std.proofs.Common.{◌≡◌, ℕ, zero, suc, ◌+◌, ◌<◌, ◌≤◌, Bool, true, List, [], ◌∷◌, ◌++◌, length, map, Option, Some, None, arith, zero-add, refl, sym, subst, ap, ◌∙◌}
use Rattle.std.proofs.lemmas.Bool.{and_from, lt-ltb, le-leb, eq-eqb}
use Rattle.std.proofs.lemmas.List.FromFn.{length-map-range_with_len, map-range_with_len_more}
use Rattle.std.specs.Prelude.{if◌then◌else◌, is_some, slice_get}
use Rattle.std.specs.Option.{option_or}
use Rattle.std.specs.List.{list_all, range_with_len}
use Rattle.x86_values.specs.declared.Bits.{Bits}
use Rattle.x86_values.specs.declared.Instr.{Instr}
use Rattle.x86_values.specs.Wrapping.{modulo_width}
use Rattle.opcode_rows.specs.Table.{table}
use Rattle.operand_info.specs.Operands.{near_value, ip_value, first_value}
use Rattle.branch_sizes.specs.declared.plan.BlockSpan.{BlockSpan}
use Rattle.branch_sizes.specs.declared.plan.Branch.{Branch}
use Rattle.branch_sizes.specs.declared.plan.Choice.{Choice}
use Rattle.branch_sizes.specs.declared.plan.Goal.{Goal}
use Rattle.branch_sizes.specs.Facts.{BlockFacts}
use Rattle.branch_sizes.specs.Layout.{span_at, first_of_block}
use Rattle.branch_sizes.specs.Plan.{is_fit_goal, is_fit_branch, IsWellFormed}
use Rattle.move_goals.specs.MovedTargets.Targets.{target_of}
use Rattle.move_goals.specs.BranchForms.Branches.{branch_of, branch_by}
use Rattle.move_goals.specs.BranchForms.Choices.{choices_of, choices_by}
use Rattle.move_goals.specs.BranchForms.Facts.{FormFacts}
use Rattle.move_goals.specs.declared.items.Placed.{Placed}
use Rattle.move_goals.specs.Items.{AreSpansOf, ArePlaced, item_at, one_span}
use Rattle.move_goals.specs.Goals.{own_item, other_item, goal_among, goal_of_target, goal_of, goal_at}
use Rattle.move_goals.specs.Plan.{branch_with, plan_with, plan_for, branch_at, branch_between, kept_goal, kept_goals, plan_outside}
use Rattle.move_goals.proofs.First.{some_below}
use Rattle.move_goals.proofs.Aims.{goal_at_is}

-- ---- lists made from a function of the index

-- what holds of each value of a stretch holds of the list of them
all_of_range : {X : Type 0} (test : X → Bool) (f : ℕ → X) (a n : ℕ) → ((k : ℕ) → a ≤ k → k < a + n → test (f k) ≡ true)
    → list_all test (map f (range_with_len a n)) ≡ true
all_of_range test f a zero h = refl
all_of_range test f a (suc n) h =
    and_from (test (f a)) (list_all test (map f (range_with_len (a + 1) n))) (h a (omega arith) (omega arith))
    (all_of_range test f (a + 1) n (λ k le lt. h k (omega arith) (omega arith)))

-- one more value
pub one_more : {X : Type 0} (f : ℕ → X) (xs ys : List X) (k : ℕ) (x : X) → xs ≡ map f (range_with_len 0 k) → ys ≡ xs ++ x ∷ [] → x ≡ f k
    → ys ≡ map f (range_with_len 0 (k + 1))
one_more f xs ys k x old last is =
    last ∙ ap (λ zs. zs ++ x ∷ []) old ∙ ap (λ y. map f (range_with_len 0 k) ++ y ∷ []) is ∙ sym (map-range_with_len_more f 0 k k (omega arith))

-- ---- the goals

among_below : (count : ℕ) (n : ℕ) (own other : Option ℕ) (t : ℕ) → ((j : ℕ) → own ≡ Some j → j < count) → ((j : ℕ) → other ≡ Some j → j < count)
    → is_fit_goal count n (goal_among own other t) ≡ true
among_below count n (Some j) other t a b = lt-ltb j count (a j refl)
among_below count n None (Some j) t a b = lt-ltb j count (b j refl)
among_below count n None None t a b = refl

-- the goal of a target is an item, or an address
target_below : (spans : List BlockSpan) (items : List Placed) (k t n : ℕ) → is_fit_goal (length items) n (goal_of_target spans items k t) ≡ true
unfolding goal_of_target own_item other_item
target_below spans items k t n =
    among_below (length items) n (own_item spans items k t) (other_item spans items k t) t
    (λ j e. (some_below _ (length items) j e).0) (λ j e. (some_below _ (length items) j e).0)

-- without a target an instruction is no relative branch
neither : (near ip : Option ℕ) → option_or near ip ≡ None → near ≡ None
neither (Some t) ip none = absurd (cc)
neither None ip none = refl

no_branch_without_target : (i : Instr) → target_of i ≡ None → branch_of i ≡ None
unfolding target_of branch_of
no_branch_without_target i none =
    ap (λ near. if is_some near then branch_by (slice_get table i.code.0) else None) (neither (first_value near_value i) (first_value ip_value i) none)

one_choice : (bits : Bits) (i : Instr) → target_of i ≡ None → length (choices_of bits i) ≡ 1
unfolding choices_of
one_choice bits i none = ap (λ b. length (choices_by bits i b)) (no_branch_without_target i none)

goal_fits : (bits : Bits) (spans : List BlockSpan) (items : List Placed) (k : ℕ) (i : Instr) (target : Option ℕ) → target_of i ≡ target
    → is_fit_goal (length items) (length (choices_of bits i)) (goal_of spans items k target) ≡ true
goal_fits bits spans items k i None is = eq-eqb (length (choices_of bits i)) 1 (one_choice bits i is)
goal_fits bits spans items k i (Some t) is = target_below spans items k t (length (choices_of bits i))

-- ---- the items

module _ (forms : FormFacts) (bits : Bits) (spans : List BlockSpan) (items : List Placed) (placed : ArePlaced bits items) (goals : ℕ → Goal)
    (fit : (k : ℕ) → is_fit_goal (length items) (length (choices_of bits (item_at items k).instr)) (goals k) ≡ true) where
  fit_item : (k : ℕ) → k < length items → is_fit_branch (length items) (branch_with bits items goals k) ≡ true
  fit_item k lt =
      let p = placed k lt in
      let i = (item_at items k).instr in
      let cs = choices_of bits i in
      let h = forms.spelled-fit bits (modulo_width bits (item_at items k).ip) p.bytes i p.spelled in
      and_from _ _ (and_from _ _ (lt-ltb 0 (length cs) h.0) (le-leb (length cs) 3 h.1))
      (and_from _ _ h.2 (and_from _ _ h.3 (and_from _ _ (fit k) h.4)))

  -- a plan whose goals are fit is well formed
  pub well_formed_with : length items ≤ 65536 → AreSpansOf items spans → IsWellFormed (plan_with bits spans items goals)
  unfolding plan_with
  well_formed_with few s =
      let len : length (map (branch_with bits items goals) (range_with_len 0 (length items))) ≡ length items =
      length-map-range_with_len (branch_with bits items goals) 0 (length items) in
      record {
        few_items = omega (arith, len, few);
        few_spans = s.few;
        counts = omega (arith, len, s.counts);
        fit = subst (λ n. list_all (is_fit_branch n) (map (branch_with bits items goals) (range_with_len 0 (length items))) ≡ true) (sym len)
            (all_of_range (is_fit_branch (length items)) (branch_with bits items goals) 0 (length items) (λ k le lt. fit_item k (omega (arith, lt))));
      }

-- the plan of placed items is well formed
pub well_formed : (forms : FormFacts) (bits : Bits) (spans : List BlockSpan) (items : List Placed) → ArePlaced bits items → length items ≤ 65536 → AreSpansOf items spans
    → IsWellFormed (plan_for bits spans items)
well_formed forms bits spans items placed few s =
    well_formed_with forms bits spans items placed (goal_at spans items)
    (λ k. goal_fits bits spans items k (item_at items k).instr (target_of (item_at items k).instr) refl) few s

-- ---- targets that stay

-- a goal that stays is fit
pub kept_fits : (bits : Bits) (count : ℕ) (i : Instr) (target : Option ℕ) → target_of i ≡ target → is_fit_goal count (length (choices_of bits i)) (kept_goal target) ≡ true
kept_fits bits count i None is = eq-eqb (length (choices_of bits i)) 1 (one_choice bits i is)
kept_fits bits count i (Some t) is = refl

-- one block takes all items
pub one_span-of : (items : List Placed) (new_base : ℕ) → AreSpansOf items (one_span items new_base)
one_span-of items new_base = record { few = omega arith; counts = zero-add (length items) }

-- and so is the plan from which every target stays
pub outside-fit : (forms : FormFacts) (bits : Bits) (items : List Placed) (new_base : ℕ) → ArePlaced bits items → length items ≤ 65536
    → IsWellFormed (plan_outside bits items new_base)
outside-fit forms bits items new_base placed few =
    well_formed_with forms bits (one_span items new_base) items placed (kept_goals items)
    (λ k. kept_fits bits (length items) (item_at items k).instr (target_of (item_at items k).instr) refl) few (one_span-of items new_base)

-- the item of a plan, found from the items of its block
pub planned_item : (blocks : BlockFacts) (bits : Bits) (items : List Placed) (spans : List BlockSpan) → AreSpansOf items spans → (b start : ℕ) → b < length spans
    → start ≡ first_of_block spans b → (k : ℕ) → start ≤ k → k < start + (span_at spans b).count
    → branch_between bits items start (start + (span_at spans b).count) k ≡ branch_at bits spans items k
planned_item blocks bits items spans s b start bl e k from below =
    ap (λ g. the_branch (choices_of bits (item_at items k).instr) g) (goal_at_is blocks items spans s b start bl e k from below)
  where
    the_branch : List Choice → Goal → Branch
    the_branch cs g = record { choices = record { items = cs }; goal = g }
