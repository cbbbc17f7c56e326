-- The layout of last forms of one block from which every target stays: it is at least as long as the least one, and as long at addresses a multiple of 16
-- bytes apart.
use Rattle.std.proofs.Common.{◌≡◌, ℕ, zero, suc, ◌+◌, ◌-◌, ◌*◌, ◌/◌, ◌%◌, ◌<◌, ◌≤◌, inl, Bool, true, false, List, [], ◌∷◌, length, map, get_or, Option, Some, None, refl, ap, sym, ◌∙◌, subst, arith, zero-add, add-one}
use Rattle.std.specs.Prelude.{◌==◌, if◌then◌else◌, unwrap_or}
use Rattle.std.proofs.lemmas.Bool.{ne_eqb}
use Rattle.std.proofs.lemmas.List.{append-nil, get_or-map, length-map}
use Rattle.x86_values.specs.declared.Bits.{Bits}
use Rattle.x86_values.specs.declared.Bits.TheVariants.{B64}
use Rattle.x86_values.specs.declared.Instr.{Instr}
use Rattle.branch_sizes.specs.declared.plan.Choice.{Choice}
use Rattle.branch_sizes.specs.declared.plan.Form.TheVariants.{Itself}
use Rattle.branch_sizes.specs.Plan.{BlockPlan, IsWellFormed, no_choice, no_branch}
use Rattle.branch_sizes.specs.Plan as plan
use Rattle.branch_sizes.specs.Layout.{IsLayout, IsClosed, IsLeast, total, item_choice, image_length}
use Rattle.move_goals.specs.MovedTargets.Targets.{target_of}
use Rattle.move_goals.specs.declared.branch_forms.branch.Action.{Action}
use Rattle.move_goals.specs.declared.branch_forms.branch.Action.TheVariants.{Count}
use Rattle.move_goals.specs.declared.branch_forms.branch.RelativeBranch.{RelativeBranch}
use Rattle.move_goals.specs.BranchForms.Branches.{branch_of}
use Rattle.move_goals.specs.BranchForms.Choices.{branch_forms, branch_choice, choices_by, choices_of}
use Rattle.move_goals.specs.declared.items.Placed.{Placed}
use Rattle.move_goals.specs.Items.{ArePlaced, item_at, one_span}
use Rattle.move_goals.specs.Plan.{plan_with, kept_goal, kept_goals, plan_outside}
use Rattle.branch_sizes.specs.MoveLayout.Laid.{has_far_form, is_far_at, goal_value, goal_address, with_goal, has_number, far_goals, slots_of, next_eighth, images_end, new_end}
use Rattle.block_encoder.specs.Bytes.{block_bytes, bytes_of_blocks}
use Rattle.block_encoder.specs.Moved.{MovedLists}
use Rattle.block_encoder.specs.ByPlan.{IsMovedBy}
use Rattle.block_encoder.specs.Last.{last_number, last_choice, last_layout, last_len}
use Rattle.block_encoder.specs.LawsBelow.{MovedLawsBelow}
use Rattle.block_encoder.proofs.Chosen.{plan-count, plan-item, choice-is, choice-below}
use Rattle.block_encoder.proofs.Standing.{block-length}

-- ---- far forms

-- where a form of a branch is far, its last one is
forms-far : (bits : Bits) (action : Action) (short : Bool) (f : ℕ) → f < length (branch_forms bits action short)
    → has_far_form (get_or (branch_forms bits action short) f Itself) ≡ true
    → has_far_form (get_or (branch_forms bits action short) (length (branch_forms bits action short) - 1) Itself) ≡ true
unfolding branch_forms
forms-far B64 (Count n) short f lt far = refl
forms-far B64 _ true f lt far = refl
forms-far B64 _ _ f lt far = refl
forms-far _ (Count n) short zero lt far = cc
forms-far _ (Count n) short (suc zero) lt far = cc
forms-far _ (Count n) short _ lt far = absurd (omega arith)
forms-far _ _ true zero lt far = cc
forms-far _ _ true (suc zero) lt far = cc
forms-far _ _ true _ lt far = absurd (omega arith)
forms-far _ _ false zero lt far = cc
forms-far _ _ false _ lt far = absurd (omega arith)

-- the form of a choice of a branch
form-of : (bits : Bits) (i : Instr) (b : RelativeBranch) (f : ℕ) → f < length (branch_forms bits b.action b.is_short)
    → (get_or (map (branch_choice bits i b) (branch_forms bits b.action b.is_short)) f no_choice).form ≡ get_or (branch_forms bits b.action b.is_short) f Itself
form-of bits i b f lt = ap (λ (c : Choice). c.form) (get_or-map (branch_choice bits i b) (branch_forms bits b.action b.is_short) f Itself no_choice lt)

far_by : (bits : Bits) (i : Instr) (o : Option RelativeBranch) (f : ℕ) → f < length (choices_by bits i o) → has_far_form (get_or (choices_by bits i o) f no_choice).form ≡ true
    → has_far_form (get_or (choices_by bits i o) (length (choices_by bits i o) - 1) no_choice).form ≡ true
far_by bits i None zero lt far = cc
far_by bits i None (suc f) lt far = absurd (omega arith)
far_by bits i (Some b) f lt far =
    let forms = branch_forms bits b.action b.is_short in
    let len : length (map (branch_choice bits i b) forms) ≡ length forms = length-map forms (branch_choice bits i b) in
    let below : f < length forms = omega (arith, lt, len) in
    let last : length (map (branch_choice bits i b) forms) - 1 < length forms = omega (arith, len, below) in
    let same : length forms - 1 ≡ length (map (branch_choice bits i b) forms) - 1 = omega (arith, len) in
    ap has_far_form (form-of bits i b (length (map (branch_choice bits i b) forms) - 1) last)
    ∙ subst (λ (n : ℕ). has_far_form (get_or forms n Itself) ≡ true) same
    (forms-far bits b.action b.is_short f below (sym (ap has_far_form (form-of bits i b f below)) ∙ far))

far-last : (bits : Bits) (i : Instr) (f : ℕ) → f < length (choices_of bits i) → has_far_form (get_or (choices_of bits i) f no_choice).form ≡ true
    → has_far_form (last_choice bits i).form ≡ true
unfolding choices_of
far-last bits i f lt far = far_by bits i (branch_of i) f lt far

-- ---- at most two far goals

-- more far forms have no fewer goals
fewer-goals : (f0 f1 g0 g1 same : Bool) → (f0 ≡ true → g0 ≡ true) → (f1 ≡ true → g1 ≡ true) → (a b : ℕ) → has_number (a ∷ []) b ≡ same
    → length (with_goal (with_goal [] f0 a) f1 b) ≤ length (with_goal (with_goal [] g0 a) g1 b)
fewer-goals false false g0 g1 same h k a b e = omega arith
fewer-goals false true g0 false same h k a b e = let n = k refl in cc
fewer-goals false true false true same h k a b e = omega arith
fewer-goals false true true true true h k a b e = rw e (omega arith)
fewer-goals false true true true false h k a b e = rw e (omega arith)
fewer-goals true f1 false g1 same h k a b e = let n = h refl in cc
fewer-goals true false true false same h k a b e = omega arith
fewer-goals true false true true true h k a b e = rw e (omega arith)
fewer-goals true false true true false h k a b e = rw e (omega arith)
fewer-goals true true true false same h k a b e = let n = k refl in cc
fewer-goals true true true true same h k a b e = omega arith

one-fewer : (f g : Bool) → (f ≡ true → g ≡ true) → (a : ℕ) → length (with_goal [] f a) ≤ length (with_goal [] g a)
one-fewer false g h a = omega arith
one-fewer true false h a = let n = h refl in cc
one-fewer true true h a = omega arith

-- the same goals by the same forms
far-congr : (p q : BlockPlan) (a c : List ℕ) (n : ℕ) → ((k : ℕ) → k < n → is_far_at p a (0 + k) ≡ is_far_at q c (0 + k))
    → ((k : ℕ) → k < n → goal_address p a (0 + k) ≡ goal_address q c (0 + k)) → far_goals p a 0 n ≡ far_goals q c 0 n
far-congr p q a c zero h g = refl
far-congr p q a c (suc n) h g =
    ap (λ (xs : List ℕ). with_goal xs (is_far_at p a (0 + n)) (goal_address p a (0 + n))) (far-congr p q a c n (λ k lt. h k (omega arith)) (λ k lt. g k (omega arith)))
    ∙ (ap (λ (f : Bool). with_goal (far_goals q c 0 n) f (goal_address p a (0 + n))) (h n (omega arith))
    ∙ ap (with_goal (far_goals q c 0 n) (is_far_at q c (0 + n))) (g n (omega arith)))

-- ---- ends

-- where images of so many bytes from an address on end, with so many slots
abbrev pub end_with : ℕ → ℕ → ℕ → ℕ
end_with at bytes slots = if slots == 0 then at + bytes else next_eighth (at + bytes) + 8 * slots

end-suc : (at bytes n : ℕ) → end_with at bytes (suc n) ≡ (at + bytes + 7) / 8 * 8 + 8 * suc n
end-suc at bytes n =
    ap (λ (b : Bool). if b then at + bytes else (at + bytes + 7) / 8 * 8 + 8 * suc n) (ne_eqb (suc n) 0 (λ e. absurd (omega (arith, e))))

end-rises : (at a b m n : ℕ) → a ≤ b → m ≤ n → end_with at a m ≤ end_with at b n
end-rises at a b zero zero le few = omega (arith, le)
end-rises at a b zero (suc n) le few =
    let f = end-suc at b n in
    omega (arith, f, le)
end-rises at a b (suc m) zero le few = absurd (omega (arith, few))
end-rises at a b (suc m) (suc n) le few =
    let e = end-suc at a m in
    let f = end-suc at b n in
    omega (arith, e, f, le, few)

end-some : (at bytes slots : ℕ) → 0 < bytes → at < end_with at bytes slots
end-some at bytes zero some = omega (arith, some)
end-some at bytes (suc n) some =
    let e = end-suc at bytes n in
    omega (arith, e, some)

end-most : (at bytes slots : ℕ) → bytes ≤ 30 → slots ≤ 2 → end_with at bytes slots ≤ at + 53
end-most at bytes zero short few = omega (arith, short)
end-most at bytes (suc n) short few =
    let e = end-suc at bytes n in
    omega (arith, e, short, few)

end-moves : (at to bytes slots : ℕ) → at ≤ to → (to - at) % 16 ≡ 0 → end_with to bytes slots - to ≡ end_with at bytes slots - at
end-moves at to bytes zero le units = omega (arith, le)
end-moves at to bytes (suc n) le units =
    let e = end-suc at bytes n in
    let f = end-suc to bytes n in
    omega (arith, e, f, le, units)

-- ---- the plan

-- the bytes of the one block are all
one_block-bytes : (bits : Bits) (items : List Placed) (new_base : ℕ) (layout : List ℕ)
    → bytes_of_blocks bits items (plan_outside bits items new_base) layout (length (plan_outside bits items new_base).spans)
    ≡ block_bytes bits items (plan_outside bits items new_base) layout 0
unfolding plan_with
one_block-bytes bits items new_base layout = append-nil (block_bytes bits items (plan_outside bits items new_base) layout 0)

module _ (laws : MovedLawsBelow) where
  module _ (bits : Bits) (items : List Placed) (new_base : ℕ) where
    -- the block of all items ends there
    pub one_end : (layout : List ℕ) → new_end (plan_outside bits items new_base) layout 0
        ≡ end_with new_base (total (image_length (plan_outside bits items new_base) layout) (length items)) (length (far_goals (plan_outside bits items new_base) layout 0 (length items)))
    unfolding plan_with new_end images_end slots_of
    one_end layout =
        let f = image_length (plan_outside bits items new_base) layout in
        let slots = length (far_goals (plan_outside bits items new_base) layout 0 (length items)) in
        let e : new_base + (total f (0 + length items) - 0) ≡ new_base + total f (length items) =
        ap (λ (n : ℕ). new_base + (total f n - 0)) (zero-add (length items)) ∙ omega arith in
        ap (λ (n : ℕ). if slots == 0 then n else next_eighth n + 8 * slots) e

    module _ (k : ℕ) (lt : k < length items) where
      -- the last layout gives each item its last choice
      pub last-number : get_or (last_layout (plan_outside bits items new_base)) k 0 ≡ length (choices_of bits (item_at items k).instr) - 1
      unfolding last_layout
      last-number =
          get_or-map last_number (plan_outside bits items new_base).items k no_branch 0
          (subst (λ (n : ℕ). k < n) (sym (plan-count bits (one_span items new_base) items (kept_goals items))) lt)
          ∙ ap last_number (plan-item bits (one_span items new_base) items (kept_goals items) k lt)

      -- in it an item has its last form
      pub last-chosen : item_choice (plan_outside bits items new_base) (last_layout (plan_outside bits items new_base)) k ≡ last_choice bits (item_at items k).instr
      last-chosen =
          ap (λ b. get_or b.choices.items (get_or (last_layout (plan_outside bits items new_base)) k 0) no_choice)
          (plan-item bits (one_span items new_base) items (kept_goals items) k lt)
          ∙ ap (λ (n : ℕ). get_or (choices_of bits (item_at items k).instr) n no_choice) last-number

      -- the goal is the target, in every layout
      pub kept-address : (layout : List ℕ) → goal_address (plan_outside bits items new_base) layout k ≡ unwrap_or (target_of (item_at items k).instr) 0
      kept-address layout =
          ap (λ b. goal_value (plan_outside bits items new_base) layout b.goal) (plan-item bits (one_span items new_base) items (kept_goals items) k lt)
          ∙ kept-value (target_of (item_at items k).instr)
        where
          kept-value : (o : Option ℕ) → goal_value (plan_outside bits items new_base) layout (kept_goal o) ≡ unwrap_or o 0
          kept-value None = refl
          kept-value (Some t) = refl

    -- the length, by its parts
    pub last-is : (images start count end : ℕ)
        → images ≡ new_base + total (image_length (plan_outside bits items new_base) (last_layout (plan_outside bits items new_base))) (length items)
        → count ≡ length (far_goals (plan_outside bits items new_base) (last_layout (plan_outside bits items new_base)) 0 (length items))
        → start ≡ next_eighth images → end ≡ (if count == 0 then images else start + 8 * count) → end - new_base ≡ last_len bits items new_base
    unfolding last_len
    last-is images start count end i c s e =
        let p = plan_outside bits items new_base in
        let whole : end ≡ end_with new_base (total (image_length p (last_layout p)) (length items)) (length (far_goals p (last_layout p) 0 (length items))) =
        e ∙ (ap (λ (n : ℕ). if count == 0 then images else n + 8 * count) s
        ∙ (ap (λ (n : ℕ). if n == 0 then images else next_eighth images + 8 * n) c
        ∙ ap (λ (n : ℕ). if length (far_goals p (last_layout p) 0 (length items)) == 0 then n else next_eighth n + 8 * length (far_goals p (last_layout p) 0 (length items))) i)) in
        ap (λ (n : ℕ). n - new_base) (whole ∙ sym (one_end (last_layout p)))

    -- one item more
    pub images-next : (k : ℕ) → k < length items
        → total (image_length (plan_outside bits items new_base) (last_layout (plan_outside bits items new_base))) (k + 1)
        ≡ total (image_length (plan_outside bits items new_base) (last_layout (plan_outside bits items new_base))) k + (last_choice bits (item_at items k).instr).len
    images-next k lt =
        let p = plan_outside bits items new_base in
        let f = image_length p (last_layout p) in
        let step : total f (k + 1) ≡ total f k + f k = rw add-one refl in
        omega (arith, step, ap (λ (c : Choice). c.len) (last-chosen k lt))

    -- one more item adds its goal if its last form is far
    pub goals-next : (k : ℕ) → k < length items
        → far_goals (plan_outside bits items new_base) (last_layout (plan_outside bits items new_base)) 0 (k + 1)
        ≡ with_goal (far_goals (plan_outside bits items new_base) (last_layout (plan_outside bits items new_base)) 0 k)
        (has_far_form (last_choice bits (item_at items k).instr).form) (unwrap_or (target_of (item_at items k).instr) 0)
    goals-next k lt =
        let p = plan_outside bits items new_base in
        let l = last_layout p in
        let goals = far_goals p l 0 k in
        let step : far_goals p l 0 (k + 1) ≡ with_goal goals (is_far_at p l (0 + k)) (goal_address p l (0 + k)) = rw add-one refl in
        let here : with_goal goals (is_far_at p l (0 + k)) (goal_address p l (0 + k)) ≡ with_goal goals (is_far_at p l k) (goal_address p l k) =
        ap (λ (n : ℕ). with_goal goals (is_far_at p l n) (goal_address p l n)) (zero-add k) in
        step ∙ (here ∙ (ap (λ (f : Bool). with_goal goals f (goal_address p l k)) (ap (λ (c : Choice). has_far_form c.form) (last-chosen k lt))
        ∙ ap (with_goal goals (has_far_form (last_choice bits (item_at items k).instr).form)) (kept-address k lt l)))

    module _ (placed : ArePlaced bits items) (few : length items ≤ 2) where
      fit : IsWellFormed (plan_outside bits items new_base)
      fit = laws.plans.outside-fit bits items new_base placed (omega (arith, few))

      -- the images are short
      pub last-small : (n : ℕ) → total (image_length (plan_outside bits items new_base) (last_layout (plan_outside bits items new_base))) n ≤ n * 15
      last-small n =
          let p = plan_outside bits items new_base in
          laws.totals.total_small (image_length p (last_layout p)) 15 (laws.lengths.image_short p fit (last_layout p)) n

      -- **it is short**
      pub last-bound : last_len bits items new_base ≤ 53
      unfolding last_len
      last-bound =
          let p = plan_outside bits items new_base in
          omega (
            arith,
            one_end (last_layout p),
            end-most new_base (total (image_length p (last_layout p)) (length items)) (length (far_goals p (last_layout p) 0 (length items)))
                (omega (arith, last-small (length items), few)) (omega (arith, laws.slots.length-far_goals p (last_layout p) 0 (length items), few)),
          )

      choices-some : (k : ℕ) → k < length (plan_outside bits items new_base).items → 0 < length (plan.choices_at (plan_outside bits items new_base) k)
      choices-some k lt = (laws.lengths.fit_item (plan_outside bits items new_base) fit k lt).some

      number-is : (k : ℕ) → k < length (plan_outside bits items new_base).items
          → get_or (last_layout (plan_outside bits items new_base)) k 0 ≡ length (plan.choices_at (plan_outside bits items new_base) k) - 1
      unfolding last_layout
      number-is k lt = get_or-map last_number (plan_outside bits items new_base).items k no_branch 0 lt

      last-layout : IsLayout (plan_outside bits items new_base) (last_layout (plan_outside bits items new_base))
      unfolding last_layout
      last-layout = record {
        len = length-map (plan_outside bits items new_base).items last_number;
        valid = λ k lt. omega (arith, number-is k lt, choices-some k lt);
      }

      last-closed : IsClosed (plan_outside bits items new_base) (last_layout (plan_outside bits items new_base))
      last-closed = record {
        is_layout = last-layout;
        items = λ k lt. inl (omega (arith, number-is k lt, choices-some k lt));
      }

      -- **some bytes are reserved**
      pub last-some : 0 < length items → 0 < last_len bits items new_base
      unfolding last_len
      last-some some =
          let p = plan_outside bits items new_base in
          let f = image_length p (last_layout p) in
          let in_plan : 0 < length p.items = omega (arith, some, plan-count bits (one_span items new_base) items (kept_goals items)) in
          let byte : 1 ≤ f 0 = laws.lengths.length_at_least 1 (plan.choices_at p 0) (get_or (last_layout p) 0 0) (laws.lengths.fit_item p fit 0 in_plan).rises (last-layout.valid 0 in_plan) in
          let first : total f 1 ≡ 0 + f 0 = refl in
          omega (
            arith,
            one_end (last_layout p),
            end-some new_base (total f (length items)) (length (far_goals p (last_layout p) 0 (length items)))
                (omega (arith, first, byte, laws.totals.total_rises f 1 (length items) (omega (arith, some)))),
          )

      -- ---- beside the least layout

      module _ (layout : List ℕ) (least : IsLeast (plan_outside bits items new_base) layout) where
        far-rises : (k : ℕ) → k < length items → is_far_at (plan_outside bits items new_base) layout k ≡ true
            → is_far_at (plan_outside bits items new_base) (last_layout (plan_outside bits items new_base)) k ≡ true
        far-rises k lt far =
            let instr = (item_at items k).instr in
            let l = least.closed.is_layout in
            ap (λ (c : Choice). has_far_form c.form) (last-chosen k lt)
            ∙ far-last bits instr (get_or layout k 0) (choice-below bits (one_span items new_base) items (kept_goals items) layout l k lt)
            (sym (ap (λ (c : Choice). has_far_form c.form) (choice-is bits (one_span items new_base) items (kept_goals items) layout l k lt)) ∙ far)

        images-rise : total (image_length (plan_outside bits items new_base) layout) (length items)
            ≤ total (image_length (plan_outside bits items new_base) (last_layout (plan_outside bits items new_base))) (length items)
        images-rise =
            let p = plan_outside bits items new_base in
            let below = least.least (last_layout p) last-closed in
            let more = laws.totals.total_more (image_length p layout) (image_length p (last_layout p)) (laws.lengths.image_rises p fit layout (last_layout p) below last-layout) 0 (length items) (omega arith) in
            omega (arith, more)

        slots-rise : length (far_goals (plan_outside bits items new_base) layout 0 (length items))
            ≤ length (far_goals (plan_outside bits items new_base) (last_layout (plan_outside bits items new_base)) 0 (length items))
        slots-rise = by_count (length items) refl few
          where
            p : BlockPlan
            p = plan_outside bits items new_base

            by_count : (n : ℕ) → length items ≡ n → n ≤ 2 → length (far_goals p layout 0 n) ≤ length (far_goals p (last_layout p) 0 n)
            by_count zero e le = omega arith
            by_count (suc zero) e le =
                let lt : 0 < length items = omega (arith, e) in
                let goal = kept-address 0 lt layout ∙ sym (kept-address 0 lt (last_layout p)) in
                subst (λ (g : ℕ). length (with_goal [] (is_far_at p layout 0) (goal_address p layout 0)) ≤ length (with_goal [] (is_far_at p (last_layout p) 0) g)) goal
                (one-fewer (is_far_at p layout 0) (is_far_at p (last_layout p) 0) (far-rises 0 lt) (goal_address p layout 0))
            by_count (suc (suc zero)) e le =
                let lt0 : 0 < length items = omega (arith, e) in
                let lt1 : 1 < length items = omega (arith, e) in
                let goal0 = kept-address 0 lt0 layout ∙ sym (kept-address 0 lt0 (last_layout p)) in
                let goal1 = kept-address 1 lt1 layout ∙ sym (kept-address 1 lt1 (last_layout p)) in
                let f0 = is_far_at p layout 0 in
                let f1 = is_far_at p layout 1 in
                let l0 = is_far_at p (last_layout p) 0 in
                let l1 = is_far_at p (last_layout p) 1 in
                let g0 = goal_address p layout 0 in
                let g1 = goal_address p layout 1 in
                subst (λ (g : ℕ). length (with_goal (with_goal [] f0 g0) f1 g1) ≤ length (with_goal (with_goal [] l0 g) l1 (goal_address p (last_layout p) 1))) goal0
                (subst (λ (g : ℕ). length (with_goal (with_goal [] f0 g0) f1 g1) ≤ length (with_goal (with_goal [] l0 g0) l1 g)) goal1
                (fewer-goals f0 f1 l0 l1 (has_number (g0 ∷ []) g1) (far-rises 0 lt0) (far-rises 1 lt1) g0 g1 refl))
            by_count (suc (suc (suc n))) e le = absurd (omega arith)

        -- **the least layout ends no later**
        pub end-below : new_end (plan_outside bits items new_base) layout 0
            ≤ new_end (plan_outside bits items new_base) (last_layout (plan_outside bits items new_base)) 0
        end-below =
            let p = plan_outside bits items new_base in
            omega (
              arith,
              one_end layout,
              one_end (last_layout p),
              end-rises new_base _ _ _ _ images-rise slots-rise,
            )

      -- **moved bytes are no more than those of the layout of last forms**
      pub moved-within : (m : MovedLists) → IsMovedBy bits items (plan_outside bits items new_base) m → length m.bytes ≤ last_len bits items new_base
      unfolding last_len
      moved-within m moved =
          let p = plan_outside bits items new_base in
          let only : 0 < length (one_span items new_base) = omega arith in
          let len = block-length laws bits items (one_span items new_base) (kept_goals items) moved.layout moved.least.closed.is_layout (laws.plans.one_span-of items new_base) 0 only
          (λ k lt. (moved.reached k lt).1) in
          let bytes : m.bytes ≡ block_bytes bits items p moved.layout 0 = moved.lists.bytes ∙ one_block-bytes bits items new_base moved.layout in
          omega (arith, len, ap length bytes, end-below moved.layout moved.least)

  -- ---- other addresses

  module _ (bits : Bits) (items : List Placed) (at to : ℕ) where
    same-length : total (image_length (plan_outside bits items to) (last_layout (plan_outside bits items to))) (length items)
        ≡ total (image_length (plan_outside bits items at) (last_layout (plan_outside bits items at))) (length items)
    unfolding plan_with last_layout
    same-length = refl

    same-goals : far_goals (plan_outside bits items to) (last_layout (plan_outside bits items to)) 0 (length items)
        ≡ far_goals (plan_outside bits items at) (last_layout (plan_outside bits items at)) 0 (length items)
    same-goals =
        let p = plan_outside bits items to in
        let q = plan_outside bits items at in
        far-congr p q (last_layout p) (last_layout q) (length items)
        (λ k lt.
        let l : 0 + k < length items = omega arith in
        ap (λ (c : Choice). has_far_form c.form) (last-chosen bits items to (0 + k) l ∙ sym (last-chosen bits items at (0 + k) l)))
        (λ k lt.
        let l : 0 + k < length items = omega arith in
        kept-address bits items to (0 + k) l (last_layout p) ∙ sym (kept-address bits items at (0 + k) l (last_layout q)))

    -- **the layout of last forms is as long at an address a multiple of 16 bytes behind**
    pub last-moves : at ≤ to → (to - at) % 16 ≡ 0 → last_len bits items to ≡ last_len bits items at
    unfolding last_len
    last-moves le units =
        let p = plan_outside bits items to in
        let q = plan_outside bits items at in
        let slots = length (far_goals q (last_layout q) 0 (length items)) in
        let bytes = total (image_length q (last_layout q)) (length items) in
        ap (λ (n : ℕ). n - to) (one_end bits items to (last_layout p)
        ∙ (ap (λ (n : ℕ). end_with to n (length (far_goals p (last_layout p) 0 (length items)))) same-length
        ∙ ap (λ (xs : List ℕ). end_with to bytes (length xs)) same-goals))
        ∙ (end-moves at to bytes slots le units ∙ ap (λ (n : ℕ). n - at) (sym (one_end bits items at (last_layout q))))
