-- The plan of a trampoline is well formed.
use Rattle.std.proofs.Common.{◌≡◌, ℕ, zero, suc, ◌+◌, ◌-◌, ◌<◌, ◌≤◌, inl, inr, Bool, true, false, List, [], ◌∷◌, ◌++◌, length, map, Option, Some, None, arith, refl, sym, subst, ap, nat_lt, ◌&&◌, ◌^◌, take}
use Rattle.std.specs.Prelude.{if◌then◌else◌, not, is_some, is_none, slice_get, IfSome, IsTrue}
use Rattle.std.specs.List.{list_all, range_with_len}
use Rattle.std.proofs.lemmas.Bool.{cases_Bool, lt-ltb}
use Rattle.x86_values.specs.declared.Bits.{Bits}
use Rattle.x86_values.specs.declared.Bits.TheVariants.{B16, B32, B64}
use Rattle.x86_values.specs.declared.Instr.{Instr}
use Rattle.std.proofs.lemmas.List.{append-nil, length-append, length-take-le}
use Rattle.x86_values.specs.Wrapping.{width, modulo_width}
use Rattle.branch_sizes.specs.declared.plan.Branch.{Branch}
use Rattle.branch_sizes.specs.Plan.{is_fit_goal, is_fit_branch}
use Rattle.move_goals.specs.MovedTargets.Targets.{target_of}
use Rattle.move_goals.specs.BranchForms.Choices.{choices_of}
use Rattle.move_goals.specs.declared.items.Placed.{Placed}
use Rattle.move_goals.specs.Items.{IsPlaced, ArePlaced, item_at, first_below, one_span}
use Rattle.move_goals.specs.Goals.{begins_at}
use Rattle.move_goals.specs.Plan.{branch_with, plan_with}
use Rattle.block_encoder.specs.declared.pushed_calls.items.PushedCall.{PushedCall}
use Rattle.block_encoder.specs.PushedCalls.Jumps.{jump_of}
use Rattle.block_encoder.specs.PushedCalls.Items.{return_address, jump_item, with_jump, with_jump_if, pushed_items, items_in, items_if}
use Rattle.detour.specs.LawsBelow.{DetourLawsBelow}
use Rattle.detour.specs.declared.start.StartTarget.{StartTarget}
use Rattle.detour.specs.declared.start.StartTarget.TheVariants.{Moved, Hooked}
use Rattle.move_goals.specs.Facts.{FirstFacts}
use Rattle.detour.specs.declared.start.MoveRule.{MoveRule}
use Rattle.detour.specs.Trampoline.{address_behind_taken, jump_back, back_items, pushed_by, pushed_last, goes_back, block_by, block_items, trampoline_goal_among, moved_goal, target_stays, trampoline_goal_at, plan_at}
use Rattle.detour.specs.Taken.{taken_bytes, item_goes_on, first_end, count_to, moved_count}
use Rattle.detour.proofs.Front.{each_more}
use Rattle.detour.proofs.Jumping.{jump-placed}

-- ---- the goals are items or addresses

-- a goal among so many is one of them
pub among_fit : (start : StartTarget) (count n : ℕ) (own : Option ℕ) (t : ℕ) → ((j : ℕ) → own ≡ Some j → j < count) → is_fit_goal count n (trampoline_goal_among start own t) ≡ true
among_fit start count n None t below = refl
among_fit Moved count n (Some zero) t below = lt-ltb 0 count (below 0 refl)
among_fit Hooked count n (Some zero) t below = refl
among_fit start count n (Some (suc j)) t below = lt-ltb (suc j) count (below (suc j) refl)

module _ (laws : DetourLawsBelow) (bits : Bits) (items : List Placed) (count follow : ℕ) (rule : MoveRule) (within : count ≤ length items) where
  moved_fit : (i : Instr) (target : Option ℕ) → target_of i ≡ target
      → is_fit_goal (length items) (length (choices_of bits i)) (moved_goal rule.start items count target) ≡ true
  moved_fit i None is = laws.plans.kept-fit bits (length items) i None is
  moved_fit i (Some t) is =
      among_fit rule.start (length items) (length (choices_of bits i)) (first_below (begins_at items t) count) t
      (λ j e. let b = (laws.firsts.some_below (begins_at items t) count j e).0 in omega (arith, b, within))

  goal_fit : (k : ℕ) → is_fit_goal (length items) (length (choices_of bits (item_at items k).instr)) (trampoline_goal_at rule items count follow k) ≡ true
  goal_fit k =
      elim (cases_Bool (nat_lt k follow && not (target_stays rule (item_at items k).instr))) [
        | inl moved ↦ rw moved (moved_fit (item_at items k).instr (target_of (item_at items k).instr) refl)
        | inr back ↦ rw back (laws.plans.kept-fit bits (length items) (item_at items k).instr (target_of (item_at items k).instr) refl)
      ]

  -- **the items of the plan are fit**
  pub items_fit : ArePlaced bits items → length items ≤ 65536 → (branches : List Branch)
      → branches ≡ map (branch_with bits items (trampoline_goal_at rule items count follow)) (range_with_len 0 (length items))
      → IsTrue (list_all (is_fit_branch (length branches)) branches)
  unfolding plan_with
  items_fit placed few branches are =
      let goals = trampoline_goal_at rule items count follow in
      let plan = laws.plans.well_formed_with bits (one_span items 0) items placed goals goal_fit few (laws.plans.one_span-of items 0) in
      subst (λ (bs : List Branch). IsTrue (list_all (is_fit_branch (length bs)) bs)) (sym are) plan.fit

-- ---- what does a call at the end

jump_behind : (bits : Bits) (ip back : ℕ) (jump : Option Placed) (pushed : List Placed) → with_jump_if bits ip back jump ≡ Some pushed
    → (1 ≤ length pushed) × (length pushed ≤ 3)
jump_behind bits ip back None pushed e = absurd cc
jump_behind B16 ip back (Some jump) pushed e =
    let same : with_jump B16 ip back jump ≡ pushed = cc in let n = ap length same in (omega (arith, n), omega (arith, n))
jump_behind B32 ip back (Some jump) pushed e =
    let same : with_jump B32 ip back jump ≡ pushed = cc in let n = ap length same in (omega (arith, n), omega (arith, n))
jump_behind B64 ip back (Some jump) pushed e =
    let same : with_jump B64 ip back jump ≡ pushed = cc in let n = ap length same in (omega (arith, n), omega (arith, n))

pushed_length : (bits : Bits) (item : Placed) (pushed : List Placed) → pushed_items bits item ≡ Some pushed → (1 ≤ length pushed) × (length pushed ≤ 3)
unfolding pushed_items
pushed_length bits item pushed e =
    jump_behind bits item.ip (return_address bits item) (jump_item bits item.ip (jump_of bits item.instr)) pushed e

by_length : (asked : Bool) (bits : Bits) (item : Option Placed) (pushed : List Placed) → pushed_by asked bits item ≡ Some pushed
    → (1 ≤ length pushed) × (length pushed ≤ 3)
by_length false bits item pushed e = absurd cc
by_length true bits None pushed e = absurd cc
by_length true bits (Some item) pushed e = pushed_length bits item pushed e

-- there are one to three instructions
last_length : (rule : MoveRule) (bits : Bits) (items pushed : List Placed) → pushed_last rule bits items ≡ Some pushed
    → (1 ≤ length pushed) × (length pushed ≤ 3)
unfolding pushed_last
last_length rule bits items pushed e =
    by_length (rule.returns && is_none (first_end items)) bits (slice_get items (length items - 1)) pushed e

-- the items of a call are placed, as the call that makes them says
pub call_placed : (bits : Bits) (made : Option PushedCall) (called : Option (List Placed)) → items_if made ≡ called
    → IfSome made (λ call. ArePlaced bits (items_in call)) → (pushed : List Placed) → called ≡ Some pushed → ArePlaced bits pushed
call_placed bits None called e placed pushed is = absurd cc
call_placed bits (Some call) called e placed pushed is =
    let same : items_in call ≡ pushed = cc in subst (λ (xs : List Placed). ArePlaced bits xs) same placed

-- ---- the instructions of a trampoline

counted : (end : Option ℕ) (n : ℕ) → ((k : ℕ) → end ≡ Some k → k < n) → count_to end n ≤ n
counted None n below = omega arith
counted (Some k) n below = omega (arith, below k refl)

-- no more are moved than are taken
pub count_within : (firsts : FirstFacts) (items : List Placed) → moved_count items ≤ length items
unfolding first_end
count_within firsts items =
    counted (first_end items) (length items)
    (λ k e. (firsts.some_below (λ j. not (item_goes_on (item_at items j))) (length items) k e).0)

back_few : (bits : Bits) (ip : ℕ) (items : List Placed) → length (back_items bits ip items) ≤ 1
back_few bits ip items =
    elim (cases_Bool (is_some (first_end items))) [
      | inl ends ↦ rw ends (omega arith)
      | inr goes ↦ rw goes (omega arith)
    ]

long_by : (called : Option (List Placed)) (bits : Bits) (ip : ℕ) (items : List Placed)
    → ((pushed : List Placed) → called ≡ Some pushed → (1 ≤ length pushed) × (length pushed ≤ 3))
    → moved_count items ≤ length items → moved_count items ≤ length (block_by called bits ip items)
long_by None bits ip items lengths within =
    omega (arith, length-append (take (moved_count items) items) (back_items bits ip items), length-take-le (moved_count items) items within)
long_by (Some pushed) bits ip items lengths within =
    let some = (lengths pushed refl).0 in
    omega (arith, length-append (take (length items - 1) items) pushed, length-take-le (length items - 1) items (omega arith), some, within)

-- those that stand for moved ones are there
pub block_long : (rule : MoveRule) (bits : Bits) (ip : ℕ) (items : List Placed) → moved_count items ≤ length items
    → moved_count items ≤ length (block_items rule bits ip items)
unfolding block_items
block_long rule bits ip items within = long_by (pushed_last rule bits items) bits ip items (last_length rule bits items) within

few_by : (called : Option (List Placed)) (bits : Bits) (ip : ℕ) (items : List Placed)
    → ((pushed : List Placed) → called ≡ Some pushed → (1 ≤ length pushed) × (length pushed ≤ 3))
    → moved_count items ≤ length items → length (block_by called bits ip items) ≤ length items + 3
few_by None bits ip items lengths within =
    omega (arith, length-append (take (moved_count items) items) (back_items bits ip items), length-take-le (moved_count items) items within, back_few bits ip items)
few_by (Some pushed) bits ip items lengths within =
    let few = (lengths pushed refl).1 in
    omega (arith, length-append (take (length items - 1) items) pushed, length-take-le (length items - 1) items (omega arith), few)

-- the items of a trampoline are the taken instructions and at most three more
pub block_few : (rule : MoveRule) (bits : Bits) (ip : ℕ) (items : List Placed) → moved_count items ≤ length items
    → length (block_items rule bits ip items) ≤ length items + 3
unfolding block_items
block_few rule bits ip items within = few_by (pushed_last rule bits items) bits ip items (last_length rule bits items) within

none_only : (e : Option ℕ) → (is_none e && true) ≡ true → e ≡ None
none_only None h = refl
none_only (Some k) h = absurd cc

never : (b : Bool) → (b && false) ≡ true → ⊥
never true h = cc
never false h = cc

some_by : (called : Option (List Placed)) (bits : Bits) (ip : ℕ) (items : List Placed) → (is_none (first_end items) && is_none called) ≡ true
    → 0 < length (block_by called bits ip items)
some_by None bits ip items goes =
    let none = none_only (first_end items) goes in
    let one : length (back_items bits ip items) ≡ 1 = ap (λ (e : Option ℕ). length (if is_some e then [] else jump_back bits (address_behind_taken bits ip items) ∷ [])) none in
    omega (arith, length-append (take (moved_count items) items) (back_items bits ip items), one)
some_by (Some pushed) bits ip items goes = absurd (never (is_none (first_end items)) goes)

-- where there is a jump back there is an instruction
pub block_some : (rule : MoveRule) (bits : Bits) (ip : ℕ) (items : List Placed) → goes_back rule bits items ≡ true
    → 0 < length (block_items rule bits ip items)
unfolding block_items
block_some rule bits ip items goes = some_by (pushed_last rule bits items) bits ip items goes

-- they are well placed
item_of_take : (items : List Placed) (n k : ℕ) → k < length (take n items) → (k < length items) × (item_at (take n items) k ≡ item_at items k)
item_of_take [] zero k lt = absurd (omega (arith, lt))
item_of_take [] (suc n) k lt = absurd (omega (arith, lt))
item_of_take (p ∷ items) zero k lt = absurd (omega (arith, lt))
item_of_take (p ∷ items) (suc n) zero lt = (omega arith, refl)
item_of_take (p ∷ items) (suc n) (suc k) lt = let rest = item_of_take items n k (omega (arith, lt)) in let first = rest.0 in (omega (arith, first), rest.1)

placed_take : (bits : Bits) (items : List Placed) (n : ℕ) → ArePlaced bits items → ArePlaced bits (take n items)
placed_take bits items n placed k lt = let at = item_of_take items n k lt in subst (λ (p : Placed). IsPlaced bits p) (sym at.1) (placed k at.0)

placed_with : (bits : Bits) (items : List Placed) (e : Option ℕ) (p : Placed) → ArePlaced bits items → IsPlaced bits p
    → ArePlaced bits (items ++ (if is_some e then [] else p ∷ []))
placed_with bits items (Some k) p placed last = subst (λ (xs : List Placed). ArePlaced bits xs) (sym (append-nil items)) placed
placed_with bits items None p placed last = each_more (IsPlaced bits) items p placed last

placed_both : (bits : Bits) (items others : List Placed) → ArePlaced bits items → ArePlaced bits others → ArePlaced bits (items ++ others)
placed_both bits [] others h g k lt = g k lt
placed_both bits (p ∷ items) others h g zero lt = h zero (omega arith)
placed_both bits (p ∷ items) others h g (suc k) lt = placed_both bits items others (λ j below. h (suc j) (omega (arith, below))) g k (omega (arith, lt))

-- an address of the mode is one
pub below_width : (bits : Bits) (x : ℕ) → modulo_width bits x < 2 ^ width bits
below_width B16 x = omega arith
below_width B32 x = omega arith
below_width B64 x = omega arith

module _ (laws : DetourLawsBelow) where
  placed_by : (called : Option (List Placed)) (bits : Bits) (ip : ℕ) (items : List Placed)
      → ((pushed : List Placed) → called ≡ Some pushed → ArePlaced bits pushed) → ArePlaced bits items → ArePlaced bits (block_by called bits ip items)
  placed_by None bits ip items calls placed =
      placed_with bits (take (moved_count items) items) (first_end items) (jump_back bits (address_behind_taken bits ip items)) (placed_take bits items (moved_count items) placed)
      (jump-placed laws bits (address_behind_taken bits ip items) (jump_back bits (address_behind_taken bits ip items)).len (below_width bits (ip + taken_bytes items)) refl)
  placed_by (Some pushed) bits ip items calls placed =
      placed_both bits (take (length items - 1) items) pushed (placed_take bits items (length items - 1) placed) (calls pushed refl)

  -- the instructions of the trampoline are placed, if those of a call at the end are
  pub block_placed : (rule : MoveRule) (bits : Bits) (ip : ℕ) (items : List Placed)
      → ((pushed : List Placed) → pushed_last rule bits items ≡ Some pushed → ArePlaced bits pushed) → ArePlaced bits items
      → ArePlaced bits (block_items rule bits ip items)
  unfolding block_items
  block_placed rule bits ip items calls placed = placed_by (pushed_last rule bits items) bits ip items calls placed

  -- the plan has as many items
  pub plan_count : (bits : Bits) (items : List Placed) (count follow place : ℕ) (rule : MoveRule) → length (plan_at bits items count follow place rule).items ≡ length items
  unfolding plan_at
  plan_count bits items count follow place rule = laws.fragments.plan-count bits (one_span items place) items (trampoline_goal_at rule items count follow)
