-- The places, goals and slots of moved items are addresses, since no block passes the address space.
use Rattle.std.proofs.Common.{◌≡◌, ℕ, zero, suc, ◌+◌, ◌-◌, ◌^◌, ◌<◌, ◌≤◌, inl, inr, List, [], ◌∷◌, ◌++◌, length, get_or, take, drop, Bool, true, not, ◌&&◌, Option, Some, None, arith, add-zero, refl, sym, ap, ◌∙◌, length-append}
use Rattle.std.proofs.lemmas.Bool.{cases_lt, cond_both, ltb-true}
use Rattle.std.proofs.lemmas.List.{append-nil, append_assoc, get_or_append_left, get_or_push}
use Rattle.std.proofs.Math.Seq.{drop-append_seam, take-append_seam}
use Rattle.x86_values.specs.declared.Bits.{Bits}
use Rattle.branch_sizes.specs.declared.plan.Goal.{Goal}
use Rattle.branch_sizes.specs.declared.plan.Goal.TheVariants.{None as NoGoal, Inside, Outside}
use Rattle.branch_sizes.specs.Plan.{BlockPlan, item_at, is_fit_goal, IsWellFormed}
use Rattle.branch_sizes.specs.Layout.{block_number, first_of_block, span_at, image_length, place, IsLayout}
use Rattle.move_goals.specs.Items.{first_below, passes, first_passing}
use Rattle.branch_sizes.specs.declared.move_layout.layout.Layout.{Layout}
use Rattle.branch_sizes.specs.MoveLayout.Laid.{IsLaid, is_far_at, goal_value, goal_address, has_number, far_goals, slots_of, all_slots, new_end, slot_address, fragment_at, no_end}
use Rattle.block_encoder.specs.Moved.{first_new_pass}
use Rattle.block_encoder.specs.Written.{IsGoalAddress, IsFragmentOf, first_end_past}
use Rattle.block_encoder.specs.LawsBelow.{MovedLawsBelow}
use Rattle.block_encoder.proofs.Inside.{end_within, width-most}
use Rattle.block_encoder.proofs.Writing.{flat_more}

-- ---- ends

-- what a first number below a bound gives
abbrev found : (ℕ → ℕ) → Option ℕ → Option ℕ
found end o = elim o [ Some b ↦ Some (end b) | None ↦ None ]

some_found : (end last : ℕ → ℕ) (p : ℕ → Bool) (n : ℕ) (o : Option ℕ) → first_below p n ≡ o
    → ((k : ℕ) → k < n → end k ≡ last k) → ((k : ℕ) → first_below p n ≡ Some k → k < n) → found end o ≡ found last o
some_found end last p n None e same within = refl
some_found end last p n (Some k) e same within = ap Some (same k (within k e))

-- ---- slots

-- each of the far goals is below a bound, where the goals are
far_below : (p : BlockPlan) (layout : List ℕ) (first bound n : ℕ) → ((i : ℕ) → i < n → goal_address p layout (first + i) < bound)
    → (j : ℕ) → j < length (far_goals p layout first n) → get_or (far_goals p layout first n) j 0 < bound
far_below p layout first bound zero h j lt = absurd (omega arith)
far_below p layout first bound (suc n) h j lt =
    let goals = far_goals p layout first n in
    let g = goal_address p layout (first + n) in
    let old : (i : ℕ) → i < length goals → get_or goals i 0 < bound = far_below p layout first bound n (λ i il. h i (omega arith)) in
    cond_both (is_far_at p layout (first + n) && not (has_number goals g)) (goals ++ g ∷ []) goals
    (λ xs. (i : ℕ) → i < length xs → get_or xs i 0 < bound)
    (λ e. more_below goals g bound old (h n (omega arith)))
    (λ e. old) j lt
  where
    more_below : (xs : List ℕ) (x m : ℕ) → ((i : ℕ) → i < length xs → get_or xs i 0 < m) → x < m
        → (i : ℕ) → i < length (xs ++ x ∷ []) → get_or (xs ++ x ∷ []) i 0 < m
    more_below xs x m old new i il =
        elim (cases_lt i (length xs)) [
          | inl less ↦ omega (arith, get_or_append_left xs (x ∷ []) 0 i less, old i less)
          | inr ge ↦ omega (arith, get_or_push xs x 0 i (omega (arith, length-append xs (x ∷ []))), new)
        ]

-- the slots of earlier blocks are below those of later ones
pub slots_below : (p : BlockPlan) (layout : List ℕ) (b bound : ℕ)
    → ((i : ℕ) → i < (span_at p.spans b).count → goal_address p layout (first_of_block p.spans b + i) < bound)
    → (j : ℕ) → j < length (slots_of p layout b) → get_or (slots_of p layout b) j 0 < bound
unfolding slots_of
slots_below p layout b bound h = far_below p layout (first_of_block p.spans b) bound (span_at p.spans b).count h

-- the slots of later blocks come behind
slots_behind : (p : BlockPlan) (layout : List ℕ) (b d : ℕ) → (rest : List ℕ) × (all_slots p layout (b + d) ≡ all_slots p layout b ++ rest)
slots_behind p layout b zero = rw add-zero ([], sym (append-nil (all_slots p layout b)))
slots_behind p layout b (suc d) =
    let before = slots_behind p layout b d in
    let one : b + d + 1 ≡ b + suc d = omega arith in (
      before.0 ++ slots_of p layout (b + d),
      (ap (all_slots p layout) (sym one) ∙ flat_more (slots_of p layout) 0 (b + d) (b + d) (omega arith))
          ∙ (ap (λ xs. xs ++ slots_of p layout (b + d)) before.1 ∙ append_assoc (all_slots p layout b) before.0 (slots_of p layout (b + d))),
    )

-- a part of a list behind another
part_is : (xs ys zs all : List ℕ) (m n : ℕ) → all ≡ (xs ++ ys) ++ zs → m ≡ length xs → n ≡ length ys → take n (drop m all) ≡ ys
part_is xs ys zs all m n e a b =
    ap (λ l. take n (drop m l)) (e ∙ append_assoc xs ys zs)
    ∙ (ap (λ i. take n (drop i (xs ++ (ys ++ zs)))) a
    ∙ (ap (take n) (drop-append_seam xs (ys ++ zs)) ∙ (ap (λ i. take i (ys ++ zs)) b ∙ take-append_seam ys zs)))

module _ (p : BlockPlan) (layout : List ℕ) (b : ℕ) (lt : b < length p.spans) where
  all_parts : (rest : List ℕ) × (all_slots p layout (length p.spans) ≡ (all_slots p layout b ++ slots_of p layout b) ++ rest)
  all_parts =
      let more = slots_behind p layout (b + 1) (length p.spans - (b + 1)) in
      let all : b + 1 + (length p.spans - (b + 1)) ≡ length p.spans = omega arith in (
        more.0,
        ap (all_slots p layout) (sym all)
            ∙ (more.1 ∙ ap (λ xs. xs ++ more.0) (flat_more (slots_of p layout) 0 b b (omega arith))),
      )

  -- the slots of a block stand within those of all
  pub slots_within : length (all_slots p layout b) + length (slots_of p layout b) ≤ length (all_slots p layout (length p.spans))
  slots_within =
      omega (
        arith,
        ap length all_parts.1,
        length-append (all_slots p layout b ++ slots_of p layout b) all_parts.0,
        length-append (all_slots p layout b) (slots_of p layout b),
      )

  -- the slots of a block are its part of all slots
  pub slots_part : (all : List ℕ) (m n : ℕ) → all ≡ all_slots p layout (length p.spans) → m ≡ length (all_slots p layout b)
      → n ≡ length (slots_of p layout b) → take n (drop m all) ≡ slots_of p layout b
  slots_part all m n e a c = part_is (all_slots p layout b) (slots_of p layout b) all_parts.0 all m n (e ∙ all_parts.1) a c

module _ (laws : MovedLawsBelow) where
  -- where none of some ends passes the address space each is at most 2 to the power of 64
  ends_fit : (bits : Bits) (end : ℕ → ℕ) (n : ℕ) → first_passing bits end n ≡ None → (b : ℕ) → b < n → end b ≤ 2 ^ 64
  ends_fit bits end n none b lt = omega (arith, end_within laws bits end n none b lt, width-most bits)

  module _ (bits : Bits) (p : BlockPlan) (layout : List ℕ) (laid : Layout) (is : IsLaid p layout laid) where
    -- the kept ends are those of the layout
    pub end_fits : first_end_past bits laid.ends.items ≡ None → (b : ℕ) → b < length p.spans → new_end p layout b ≤ 2 ^ 64
    end_fits none b lt =
        omega (
          arith,
          ends_fit bits (λ n. (get_or laid.ends.items n no_end).end) (length laid.ends.items) none b (omega (arith, lt, is.end_count)),
          laws.ends.end-end p layout laid is b lt,
        )

  -- ---- fragments

  -- item k stands in its block
  module _ (p : BlockPlan) (w : IsWellFormed p) (layout : List ℕ) (l : IsLayout p layout)
      (fits : (b : ℕ) → b < length p.spans → new_end p layout b ≤ 2 ^ 64) where
    module _ (k : ℕ) (lt : k < length p.items) where
      block_of : block_number p.spans k < length p.spans
      block_of = laws.blocks.block_below p.spans k (omega (arith, lt, w.counts))

      within_block : k - first_of_block p.spans (block_number p.spans k) < (span_at p.spans (block_number p.spans k)).count
      within_block = omega (arith, laws.blocks.first_le p.spans k, laws.blocks.within_block p.spans k (omega (arith, lt, w.counts)))

      stands_at : k ≡ first_of_block p.spans (block_number p.spans k) + (k - first_of_block p.spans (block_number p.spans k))
      stands_at = omega (arith, laws.blocks.first_le p.spans k)

      some_bytes : 1 ≤ image_length p layout k
      some_bytes = laws.lengths.length_at_least 1 (item_at p k).choices.items (get_or layout k 0) (laws.lengths.fit_item p w k lt).rises (l.valid k lt)

      -- each place fits 64 bits
      pub place_fits : place p layout k < 2 ^ 64
      place_fits =
          let b = block_number p.spans k in
          omega (
            arith,
            some_bytes,
            laws.ends.place-within p w layout b (k - first_of_block p.spans b) k block_of within_block stands_at,
            laws.ends.images-le-end p layout b,
            fits b block_of,
          )

      slot_fits : is_far_at p layout k ≡ true → slot_address p layout (block_number p.spans k) (goal_address p layout k) < 2 ^ 64
      slot_fits far =
          let b = block_number p.spans k in
          omega (arith, laws.slots.slot-within p layout b (k - first_of_block p.spans b) k within_block stands_at far, fits b block_of)

      fragment_slot_fits : (fragment_at p layout k).slot < 2 ^ 64
      unfolding fragment_at
      fragment_slot_fits =
          cond_both (is_far_at p layout k) (slot_address p layout (block_number p.spans k) (goal_address p layout k)) 0 (λ n. n < 2 ^ 64)
          slot_fits (λ e. omega arith)

    goal_fits : (g : Goal) (n : ℕ) → is_fit_goal (length p.items) n g ≡ true → IsGoalAddress g (goal_value p layout g)
    goal_fits NoGoal n h = refl
    goal_fits (Inside j) n h = place_fits j (ltb-true j (length p.items) h)
    goal_fits (Outside t) n h = refl

    -- the fragment of each item is sound
    pub fragment_of : (k : ℕ) → k < length p.items → IsFragmentOf (item_at p k) (fragment_at p layout k)
    unfolding fragment_at
    fragment_of k lt = record {
      place = place_fits k lt;
      slot = fragment_slot_fits k lt;
      goal = goal_fits (item_at p k).goal (length (item_at p k).choices.items) (laws.lengths.fit_item p w k lt).goal;
    }

  -- ---- the first new end

  module _ (bits : Bits) (p : BlockPlan) (layout : List ℕ) (laid : Layout) (is : IsLaid p layout laid) where
    -- the first of the kept ends that passes is the first of the layout's
    pub same_pass : first_end_past bits laid.ends.items ≡ first_new_pass bits p layout
    same_pass =
        let ends = λ (b : ℕ). (get_or laid.ends.items b no_end).end in
        let each : (b : ℕ) → b < length p.spans → (get_or laid.ends.items b no_end).end ≡ new_end p layout b = laws.ends.end-end p layout laid is in
        let tests : first_below (λ b. passes bits (get_or laid.ends.items b no_end).end) (length p.spans)
        ≡ first_below (λ b. passes bits (new_end p layout b)) (length p.spans) =
        laws.firsts.first_below_congr (λ b. passes bits (get_or laid.ends.items b no_end).end) (λ b. passes bits (new_end p layout b)) (length p.spans)
        (λ b lt. ap (passes bits) (each b lt)) in
        let within : (k : ℕ) → first_below (λ b. passes bits (new_end p layout b)) (length p.spans) ≡ Some k → k < length p.spans =
        λ k e. (laws.firsts.some_below (λ b. passes bits (new_end p layout b)) (length p.spans) k e).0 in
        ap (first_passing bits (λ b. (get_or laid.ends.items b no_end).end)) is.end_count
        ∙ (ap (found (λ b. (get_or laid.ends.items b no_end).end)) tests
        ∙ some_found (λ b. (get_or laid.ends.items b no_end).end) (new_end p layout) (λ b. passes bits (new_end p layout b)) (length p.spans)
        (first_below (λ b. passes bits (new_end p layout b)) (length p.spans)) refl each within)
