-- The instructions of a trampoline of which some have no row, and their goals.
use Rattle.std.proofs.Common.{◌≡◌, ℕ, zero, suc, ◌+◌, ◌-◌, ◌<◌, ◌≤◌, inl, inr, true, List, [], ◌∷◌, ◌++◌, length, map, take, Option, Some, None, refl, ap, sym, subst, ◌∙◌, arith, nat_lt, ◌&&◌}
use Rattle.std.specs.Prelude.{if◌then◌else◌, not, is_some}
use Rattle.std.proofs.lemmas.Bool.{cases_Bool}
use Rattle.std.proofs.lemmas.List.{length-append, length-take-le, length-map}
use Rattle.std.proofs.lemmas.List.FromFn.{length-map-range_with_len, get_or-map-range_with_len}
use Rattle.x86_values.specs.declared.Bits.{Bits}
use Rattle.branch_sizes.specs.declared.plan.Goal.{Goal}
use Rattle.branch_sizes.specs.declared.plan.Goal.TheVariants.{None as NoGoal}
use Rattle.branch_sizes.specs.Plan.{is_fit_goal}
use Rattle.branch_sizes.specs.Layout as laid
use Rattle.move_goals.specs.declared.items.Placed.{Placed}
use Rattle.move_goals.specs.Items.{ArePlaced, first_below}
use Rattle.move_goals.specs.Goals.{begins_at}
use Rattle.move_goals.specs.Plan.{kept_goal}
use Rattle.block_encoder.specs.Moved.{MovedLists}
use Rattle.code_items.specs.declared.any_items.AnyItem.{AnyItem}
use Rattle.code_items.specs.declared.any_items.AnyItem.TheVariants.{Listed, Unlisted}
use Rattle.code_items.specs.AnyItems.{any_at, IsAnySound, AreAnySound}
use Rattle.code_items.specs.AnyPlan.{any_target, any_choices, AreAnyGoals}
use Rattle.detour.specs.LawsBelow.{DetourLawsBelow}
use Rattle.detour.specs.declared.start.MoveRule.{MoveRule}
use Rattle.detour.specs.Taken.{taken_bytes, first_end, moved_count}
use Rattle.detour.specs.Trampoline.{address_behind_taken, jump_back, back_items, pushed_last, block_by, block_items, follow_count, moved_goal}
use Rattle.detour.specs.AnyTaken.{outline, line_of}
use Rattle.detour.specs.AnyTrampoline.{listed, any_block_by, any_block_items, any_target_stays, any_trampoline_goal, any_trampoline_goals, goals_of_taken, any_trampoline_plan, IsAnyTrampoline}
use Rattle.detour.proofs.Jumping.{jump-placed}
use Rattle.detour.proofs.Planned.{among_fit, below_width}

-- ---- the instructions

length-by : (called : Option (List Placed)) (bits : Bits) (ip : ℕ) (items : List AnyItem) → moved_count (outline bits items) ≤ length (outline bits items)
    → length (any_block_by called bits ip items) ≡ length (block_by called bits ip (outline bits items))
length-by None bits ip items within =
    let lines = outline bits items in
    let n = moved_count lines in
    let back = back_items bits ip lines in
    let many = length-map items (line_of bits) in
    omega (
      arith,
      within,
      many,
      length-append (take n items) (map listed back),
      length-append (take n lines) back,
      length-take-le n items (omega (arith, within, many)),
      length-take-le n lines within,
      length-map back listed,
    )
length-by (Some pushed) bits ip items within =
    let lines = outline bits items in
    let many = length-map items (line_of bits) in
    omega (
      arith,
      many,
      length-append (take (length items - 1) items) (map listed pushed),
      length-append (take (length lines - 1) lines) pushed,
      length-take-le (length items - 1) items (omega arith),
      length-take-le (length lines - 1) lines (omega arith),
      length-map pushed listed,
    )

-- there are as many as in outline
pub block-same : (rule : MoveRule) (bits : Bits) (ip : ℕ) (items : List AnyItem) → moved_count (outline bits items) ≤ length (outline bits items)
    → length (any_block_items rule bits ip items) ≡ length (block_items rule bits ip (outline bits items))
unfolding any_block_items block_items
block-same rule bits ip items within = length-by (pushed_last rule bits (outline bits items)) bits ip items within

-- ---- they are sound

any-of-take : (items : List AnyItem) (n k : ℕ) → k < length (take n items) → (k < length items) × (any_at (take n items) k ≡ any_at items k)
any-of-take [] zero k lt = absurd (omega (arith, lt))
any-of-take [] (suc n) k lt = absurd (omega (arith, lt))
any-of-take (x ∷ items) zero k lt = absurd (omega (arith, lt))
any-of-take (x ∷ items) (suc n) zero lt = (omega arith, refl)
any-of-take (x ∷ items) (suc n) (suc k) lt = let rest = any-of-take items n k (omega (arith, lt)) in let first = rest.0 in (omega (arith, first), rest.1)

sound-take : (bits : Bits) (items : List AnyItem) (n k : ℕ) → AreAnySound bits items → k < length (take n items) → IsAnySound bits (any_at (take n items) k)
sound-take bits items n k sound lt = let at = any-of-take items n k lt in subst (λ (x : AnyItem). IsAnySound bits x) (sym at.1) (sound.each k at.0)

sound-listed : (bits : Bits) (others : List Placed) → ArePlaced bits others → (k : ℕ) → k < length (map listed others) → IsAnySound bits (any_at (map listed others) k)
sound-listed bits [] placed k lt = absurd (omega (arith, lt))
sound-listed bits (p ∷ others) placed zero lt = placed zero (omega arith)
sound-listed bits (p ∷ others) placed (suc k) lt = sound-listed bits others (λ j below. placed (suc j) (omega (arith, below))) k (omega (arith, lt))

sound-both : (bits : Bits) (items others : List AnyItem) → ((k : ℕ) → k < length items → IsAnySound bits (any_at items k))
    → ((k : ℕ) → k < length others → IsAnySound bits (any_at others k)) → (k : ℕ) → k < length (items ++ others) → IsAnySound bits (any_at (items ++ others) k)
sound-both bits [] others h g k lt = g k lt
sound-both bits (x ∷ items) others h g zero lt = h zero (omega arith)
sound-both bits (x ∷ items) others h g (suc k) lt = sound-both bits items others (λ j below. h (suc j) (omega (arith, below))) g k (omega (arith, lt))

back-placed : (bits : Bits) (e : Option ℕ) (p : Placed) → (ArePlaced bits (p ∷ [])) → ArePlaced bits (if is_some e then [] else p ∷ [])
back-placed bits (Some k) p one k' lt = absurd (omega (arith, lt))
back-placed bits None p one k lt = one k lt

module _ (laws : DetourLawsBelow) (bits : Bits) where
  one-placed : (ip : ℕ) (lines : List Placed) → ArePlaced bits (jump_back bits (address_behind_taken bits ip lines) ∷ [])
  one-placed ip lines zero lt =
      jump-placed laws bits (address_behind_taken bits ip lines) (jump_back bits (address_behind_taken bits ip lines)).len (below_width bits (ip + taken_bytes lines)) refl
  one-placed ip lines (suc k) lt = absurd (omega (arith, lt))

  sound-by : (called : Option (List Placed)) (ip : ℕ) (items : List AnyItem) → ((pushed : List Placed) → called ≡ Some pushed → ArePlaced bits pushed)
      → AreAnySound bits items → AreAnySound bits (any_block_by called bits ip items)
  sound-by None ip items calls sound =
      let lines = outline bits items in
      let n = moved_count lines in
      let back = back_items bits ip lines in
      record {
        each = sound-both bits (take n items) (map listed back) (λ k lt. sound-take bits items n k sound lt)
            (sound-listed bits back (back-placed bits (first_end lines) (jump_back bits (address_behind_taken bits ip lines)) (one-placed ip lines)));
      }
  sound-by (Some pushed) ip items calls sound = record {
    each = sound-both bits (take (length items - 1) items) (map listed pushed) (λ k lt. sound-take bits items (length items - 1) k sound lt)
        (sound-listed bits pushed (calls pushed refl));
  }

  -- **the instructions of the trampoline are sound, if those of a call at the end are placed**
  pub block-sound : (rule : MoveRule) (ip : ℕ) (items : List AnyItem)
      → ((pushed : List Placed) → pushed_last rule bits (outline bits items) ≡ Some pushed → ArePlaced bits pushed)
      → AreAnySound bits items → AreAnySound bits (any_block_items rule bits ip items)
  unfolding any_block_items
  block-sound rule ip items calls sound = sound-by (pushed_last rule bits (outline bits items)) ip items calls sound

  -- ---- the goals are items or addresses

  module _ (rule : MoveRule) (lines : List Placed) (items : List AnyItem) (count follow : ℕ) (within : count ≤ length lines) (same : length items ≡ length lines) where
    kept-fit : (x : AnyItem) (target : Option ℕ) → any_target bits x ≡ target → is_fit_goal (length items) (length (any_choices bits x)) (kept_goal target) ≡ true
    unfolding any_target
    kept-fit (Listed p) target is = laws.plans.kept-fit bits (length items) p.instr target is
    kept-fit (Unlisted u) None is = refl
    kept-fit (Unlisted u) (Some t) is = refl

    moved-fit : (x : AnyItem) (target : Option ℕ) → any_target bits x ≡ target
        → is_fit_goal (length items) (length (any_choices bits x)) (moved_goal rule.start lines count target) ≡ true
    moved-fit x None is = kept-fit x None is
    moved-fit x (Some t) is =
        among_fit rule.start (length items) (length (any_choices bits x)) (first_below (begins_at lines t) count) t
        (λ j e. let b = (laws.firsts.some_below (begins_at lines t) count j e).0 in omega (arith, b, within, same))

    goal-fit : (k : ℕ) → is_fit_goal (length items) (length (any_choices bits (any_at items k))) (any_trampoline_goal rule bits lines items count follow k) ≡ true
    goal-fit k =
        elim (cases_Bool (nat_lt k follow && not (any_target_stays rule (any_at items k)))) [
          | inl moved ↦ rw moved (moved-fit (any_at items k) (any_target bits (any_at items k)) refl)
          | inr stays ↦ rw stays (kept-fit (any_at items k) (any_target bits (any_at items k)) refl)
        ]

    -- **each goal is one that its instruction may have**
    pub goals-fit : AreAnyGoals bits items (any_trampoline_goals rule bits lines items count follow)
    goals-fit = record {
      count = length-map-range_with_len (any_trampoline_goal rule bits lines items count follow) 0 (length items);
      each = λ k lt.
          subst (λ (g : Goal). is_fit_goal (length items) (length (any_choices bits (any_at items k))) g ≡ true)
          (sym (get_or-map-range_with_len (any_trampoline_goal rule bits lines items count follow) 0 (length items) k k NoGoal lt (omega arith)))
          (goal-fit k);
    }

-- **the goals by some lines and instructions are those of what is taken**
pub goals-are : (rule : MoveRule) (bits : Bits) (ip : ℕ) (items : List AnyItem) (taken lines : List Placed) (block : List AnyItem) (count follow : ℕ)
    → taken ≡ outline bits items → lines ≡ block_items rule bits ip taken → block ≡ any_block_items rule bits ip items → count ≡ moved_count taken
    → follow ≡ follow_count rule bits ip taken → any_trampoline_goals rule bits lines block count follow ≡ goals_of_taken rule bits ip items
unfolding goals_of_taken
goals-are rule bits ip items taken lines block count follow same lines_are block_is count_is follow_is =
    let shown = outline bits items in
    let all = block_items rule bits ip shown in
    let whole = any_block_items rule bits ip items in
    ap (λ (ls : List Placed). any_trampoline_goals rule bits ls block count follow) (lines_are ∙ ap (block_items rule bits ip) same)
    ∙ (ap (λ (xs : List AnyItem). any_trampoline_goals rule bits all xs count follow) block_is
    ∙ (ap (λ (n : ℕ). any_trampoline_goals rule bits all whole n follow) (count_is ∙ ap moved_count same)
    ∙ ap (λ (n : ℕ). any_trampoline_goals rule bits all whole (moved_count shown) n) (follow_is ∙ ap (follow_count rule bits ip) same)))

-- each instruction of the trampoline has a start
pub starts-count : (bits : Bits) (ip : ℕ) (items : List AnyItem) (place : ℕ) (rule : MoveRule) (m : MovedLists) → IsAnyTrampoline bits ip items place rule m
    → length m.starts ≡ length (any_block_items rule bits ip items)
starts-count bits ip items place rule m block =
    ap length block.starts
    ∙ length-map-range_with_len (laid.place (any_trampoline_plan bits ip items place rule) block.layout) 0 (length (any_block_items rule bits ip items))
