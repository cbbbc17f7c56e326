-- In 64-bit mode each relative branch has its bytes in the least layout.
use Rattle.std.proofs.Common.{◌≡◌, ℕ, zero, suc, ◌+◌, ◌-◌, ◌*◌, ◌^◌, ◌≤◌, ◌<◌, inl, inr, Bool, true, false, List, [], ◌∷◌, length, map, get_or, Option, Some, None, refl, ap, sym, ◌∙◌, subst, arith}
use Rattle.std.specs.Prelude.{IsSome, MatchBool, ◌==◌}
use Rattle.std.specs.Option.{option_or}
use Rattle.std.specs.List.{list_all}
use Rattle.std.proofs.lemmas.Bool.{and_parts}
use Rattle.std.proofs.lemmas.List.{get_or-map, length-map}
use Rattle.x86_values.specs.declared.Bits.{Bits}
use Rattle.x86_values.specs.declared.Bits.TheVariants.{B64}
use Rattle.x86_values.specs.declared.Instr.{Instr}
use Rattle.x86_values.specs.Wrapping.{modulo_width}
use Rattle.operand_info.specs.Operands.{near_value, ip_value, first_value}
use Rattle.branch_sizes.specs.declared.plan.BlockSpan.{BlockSpan}
use Rattle.branch_sizes.specs.declared.plan.Choice.{Choice}
use Rattle.branch_sizes.specs.declared.plan.Form.{Form}
use Rattle.branch_sizes.specs.declared.plan.Form.TheVariants.{Itself, Short, Near as NearForm, Far, Bridge, FarBridge}
use Rattle.branch_sizes.specs.declared.plan.Goal.{Goal}
use Rattle.branch_sizes.specs.declared.plan.Reach.{Reach}
use Rattle.branch_sizes.specs.Plan.{BlockPlan, IsWellFormed, no_choice}
use Rattle.branch_sizes.specs.Plan as plan
use Rattle.branch_sizes.specs.Layout.{IsLeast, Reaches, ReachesFromBoth, ReachesGoal, block_number, span_at, first_of_block, first_layout, item_choice, place, image_length, total}
use Rattle.move_goals.specs.MovedTargets.Targets.{target_of}
use Rattle.move_goals.specs.declared.branch_forms.branch.Action.{Action}
use Rattle.move_goals.specs.declared.branch_forms.branch.Action.TheVariants.{Jump, Call, Condition, Count}
use Rattle.move_goals.specs.declared.branch_forms.branch.RelativeBranch.{RelativeBranch}
use Rattle.move_goals.specs.BranchForms.Branches.{branch_of, in_range}
use Rattle.move_goals.specs.BranchForms.Images.{form_length, branch_image, image_by, image_of, pieces_length}
use Rattle.move_goals.specs.BranchForms.Choices.{branch_forms, form_reach, branch_choice, choices_by, choices_of}
use Rattle.move_goals.specs.declared.items.Placed.{Placed}
use Rattle.move_goals.specs.Items.{AreSpansOf, ArePlaced, item_at}
use Rattle.move_goals.specs.Goals.{own_item, other_item, goal_among, goal_of_target, goal_of, goal_at}
use Rattle.move_goals.specs.Plan.{plan_with, plan_for}
use Rattle.branch_sizes.specs.MoveLayout.Laid.{has_far_form, is_far_at, goal_value, goal_address, images_end, new_end, fragment_at}
use Rattle.block_encoder.specs.Bytes.{bytes_from}
use Rattle.block_encoder.specs.Moved.{fragment_reach, IsReached, first_new_pass}
use Rattle.block_encoder.specs.LawsBelow.{MovedLawsBelow}
use Rattle.block_encoder.proofs.Places.{place-first, place-last, place-next, place-rises, place-is}
use Rattle.block_encoder.proofs.Inside.{end_within, image-within}
use Rattle.block_encoder.proofs.Chosen.{is_own, plan-item, plan-count, choice-is, choice-below, fragment-own}
use Rattle.block_encoder.proofs.Reached.{goal-below}
use Rattle.block_encoder.proofs.Going.{branched, slot-is}
use Rattle.block_encoder.proofs.Counting.{counter-fits, mode-fits}
use Rattle.block_encoder.proofs.Formed.{sized, CountFits, IsSlotNear, form_fits, form-spelled}

-- ---- the forms

forms_fit : (action : Action) (short : Bool) → list_all (form_fits action short) (branch_forms B64 action short) ≡ true
unfolding branch_forms
forms_fit (Count n) short = refl
forms_fit Jump true = refl
forms_fit Jump false = refl
forms_fit Call true = refl
forms_fit Call false = refl
forms_fit (Condition n) true = refl
forms_fit (Condition n) false = refl

-- each of the forms is one of those that fit
form_at : (test : Form → Bool) (forms : List Form) (f : ℕ) → list_all test forms ≡ true → f < length forms → test (get_or forms f Itself) ≡ true
form_at test [] f h lt = absurd (omega arith)
form_at test (x ∷ xs) zero h lt = (and_parts (test x) (list_all test xs) h).0
form_at test (x ∷ xs) (suc f) h lt = form_at test xs f (and_parts (test x) (list_all test xs) h).1 (omega arith)

-- the last form reaches everything
third : (f : ℕ) → f + 1 ≡ 3 → f ≡ 2
third f h = omega arith

second : (f : ℕ) → f + 1 ≡ 2 → f ≡ 1
second f h = omega arith

last_reaches : (action : Action) (short : Bool) (asize : Option Bits) (f len at g : ℕ) → f + 1 ≡ length (branch_forms B64 action short)
    → Reaches (form_reach B64 (sized action short) asize (get_or (branch_forms B64 action short) f Itself)) len at g
unfolding branch_forms form_reach
last_reaches (Count n) short asize f len at g h = rw (third f h) tt
last_reaches Jump true asize f len at g h = rw (third f h) tt
last_reaches Jump false asize f len at g h = rw (second f h) tt
last_reaches Call true asize f len at g h = rw (third f h) tt
last_reaches Call false asize f len at g h = rw (second f h) tt
last_reaches (Condition n) true asize f len at g h = rw (third f h) tt
last_reaches (Condition n) false asize f len at g h = rw (second f h) tt

-- ---- goals

-- an item of the same block or of another one is reached where it stands
inside_reached : (p : BlockPlan) (layout : List ℕ) (k : ℕ) (c : Choice) (j : ℕ) (same : Bool)
    → MatchBool same (Reaches c.reach c.len (place p layout k) (place p layout j))
    (ReachesFromBoth c (place p layout k) (place p (first_layout p) k) (place p layout j)
    × ReachesFromBoth c (place p layout k) (place p (first_layout p) k) (place p (first_layout p) j))
    → Reaches c.reach c.len (place p layout k) (place p layout j)
inside_reached p layout k c j true h = h
inside_reached p layout k c j false h = h.0.0

-- an item or an address is a goal that is reached
among_reached : (p : BlockPlan) (layout : List ℕ) (k : ℕ) (c : Choice) (own other : Option ℕ) (t : ℕ) → ReachesGoal p layout k c (goal_among own other t)
    → Reaches c.reach c.len (place p layout k) (goal_value p layout (goal_among own other t))
among_reached p layout k c (Some j) other t h = inside_reached p layout k c j (block_number p.spans j == block_number p.spans k) h
among_reached p layout k c None (Some j) t h = inside_reached p layout k c j (block_number p.spans j == block_number p.spans k) h
among_reached p layout k c None None t h = h.0

-- what a branch reaches is what its form reaches
pub branch_reach : (i : Instr) (form : Form) (reach : Reach) (len at g : ℕ) → is_own form ≡ false → Reaches reach len at g → Reaches (fragment_reach i form reach) len at g
branch_reach i Itself reach len at g h r = cc
branch_reach i Short reach len at g h r = r
branch_reach i NearForm reach len at g h r = r
branch_reach i Far reach len at g h r = r
branch_reach i Bridge reach len at g h r = r
branch_reach i FarBridge reach len at g h r = r

-- a branch by its parts
abbrev with_size : Action → Bool → Bits → RelativeBranch
with_size action short size = record { action = action; is_short = short; size = size }

-- the images of a block are short together
images_small : (p : BlockPlan) (layout : List ℕ) (b : ℕ) → total (image_length p layout) (first_of_block p.spans b + (span_at p.spans b).count) ≤ (first_of_block p.spans b + (span_at p.spans b).count) * 15
    → images_end p layout b ≤ (span_at p.spans b).new_base + (first_of_block p.spans b + (span_at p.spans b).count) * 15
unfolding images_end
images_small p layout b h = omega (arith, h)

module _ (laws : MovedLawsBelow) where
  -- ---- items

  module _ (items : List Placed) (spans : List BlockSpan) (goals : ℕ → Goal) (s : AreSpansOf items spans) (placed : ArePlaced B64 items) (few : length items ≤ 65536)
      (fit : IsWellFormed (plan_with B64 spans items goals)) (layout : List ℕ) (least : IsLeast (plan_with B64 spans items goals) layout) (inside : first_new_pass B64 (plan_with B64 spans items goals) layout ≡ None)
      (k : ℕ) (lt : k < length items)
      (there : (c : Choice) → ReachesGoal (plan_with B64 spans items goals) layout k c (goals k)
      → Reaches c.reach c.len (place (plan_with B64 spans items goals) layout k) (goal_value (plan_with B64 spans items goals) layout (goals k)))
      (goal-small : goal_address (plan_with B64 spans items goals) layout k < 2 ^ 64) where
    -- an image ends inside the address space
    ends : place (plan_with B64 spans items goals) layout k + image_length (plan_with B64 spans items goals) layout k ≤ 2 ^ 64
    unfolding plan_with
    ends = image-within laws B64 (plan_with B64 spans items goals) layout inside k (omega (arith, lt, s.counts))

    -- ---- slots

    -- a slot is near the end of each image of its block
    slot_near : is_far_at (plan_with B64 spans items goals) layout k ≡ true
        → IsSlotNear (place (plan_with B64 spans items goals) layout k) (image_length (plan_with B64 spans items goals) layout k) (fragment_at (plan_with B64 spans items goals) layout k).slot
    unfolding plan_with
    slot_near far =
        let p = plan_with B64 spans items goals in
        let b = block_number spans k in
        let bl = laws.blocks.block_below spans k (omega (arith, lt, s.counts)) in
        let from = laws.blocks.first_le spans k in
        let below = laws.blocks.within_block spans k (omega (arith, lt, s.counts)) in
        let i : ℕ = k - first_of_block spans b in
        let goal = goal_address p layout k in
        let is = slot-is p layout k far in
        let il : i < (span_at spans b).count = omega (arith, from, below) in
        let e : k ≡ first_of_block spans b + i = omega (arith, from) in
        let start = laws.slots.slot-from p layout b i k il e far in
        let end = laws.slots.slot-within p layout b i k il e far in
        let number = laws.slots.slot-number-below p layout b i k il e far in
        let last = first_of_block spans b + (span_at spans b).count in
        let all = laws.blocks.first_below spans b bl in
        let long = laws.totals.total_small (image_length p layout) 15 (laws.lengths.image_short p fit layout) last in
        let images : images_end p layout b ≤ (span_at spans b).new_base + last * 15 = images_small p layout b (omega (arith, long)) in
        let slots = laws.slots.few-slots p layout b in
        let here = place-is laws p layout b k bl from below in
        let next = place-next laws p layout b k from in
        let rise = place-rises laws p layout b (k + 1) last (omega (arith, below)) in
        let first = place-rises laws p layout b (first_of_block spans b) k from in
        let new = end_within laws B64 (new_end p layout) (length spans) inside b bl in
        let behind = laws.ends.end-with-slots p layout b (omega (arith, number)) in (
          omega (arith, is, end, new),
          omega (arith, is, start, here, next, rise, place-last p layout b, laws.ends.images-le-slots p layout b),
          omega (arith, is, end, behind, images, slots, all, few, s.counts, here, first, place-first p layout b),
        )

    -- ---- the image

    module _ (action : Action) (short : Bool) (e : branch_of (item_at items k).instr ≡ Some (sized action short)) (range : in_range action short ≡ true)
        (counts : CountFits action (item_at items k).instr.asize) where
      choices-are : choices_of B64 (item_at items k).instr ≡ map (branch_choice B64 (item_at items k).instr (sized action short)) (branch_forms B64 action short)
      unfolding choices_of
      choices-are = ap (choices_by B64 (item_at items k).instr) e

      form-below : get_or layout k 0 < length (branch_forms B64 action short)
      form-below =
          omega (
            arith,
            choice-below B64 spans items goals layout least.closed.is_layout k lt,
            ap length choices-are,
            length-map (branch_forms B64 action short) (branch_choice B64 (item_at items k).instr (sized action short)),
          )

      chosen-is : item_choice (plan_with B64 spans items goals) layout k ≡ branch_choice B64 (item_at items k).instr (sized action short) (get_or (branch_forms B64 action short) (get_or layout k 0) Itself)
      chosen-is =
          choice-is B64 spans items goals layout least.closed.is_layout k lt
          ∙ (ap (λ (cs : List Choice). get_or cs (get_or layout k 0) no_choice) choices-are
          ∙ get_or-map (branch_choice B64 (item_at items k).instr (sized action short)) (branch_forms B64 action short) (get_or layout k 0) Itself no_choice form-below)

      goal-is : (plan.item_at (plan_with B64 spans items goals) k).goal ≡ goals k
      goal-is = ap (λ b. b.goal) (plan-item B64 spans items goals k lt)

      -- the form reaches the goal
      reaches : Reaches (item_choice (plan_with B64 spans items goals) layout k).reach (item_choice (plan_with B64 spans items goals) layout k).len (place (plan_with B64 spans items goals) layout k) (goal_address (plan_with B64 spans items goals) layout k)
      reaches =
          let p = plan_with B64 spans items goals in
          let form = get_or (branch_forms B64 action short) (get_or layout k 0) Itself in
          elim (least.closed.items k (omega (arith, lt, plan-count B64 spans items goals))) [
            | inl last ↦
                let count : length (plan.choices_at p k) ≡ length (branch_forms B64 action short) =
                ap (λ b. length b.choices.items) (plan-item B64 spans items goals k lt) ∙ (ap length choices-are ∙ length-map (branch_forms B64 action short) (branch_choice B64 (item_at items k).instr (sized action short))) in
                subst (λ (c : Choice). Reaches c.reach c.len (place p layout k) (goal_address p layout k)) (sym chosen-is)
                (last_reaches action short (item_at items k).instr.asize (get_or layout k 0) (form_length B64 (item_at items k).instr form) (place p layout k) (goal_address p layout k) (last ∙ count))
            | inr goal ↦
                subst (λ (g : Goal). Reaches (item_choice p layout k).reach (item_choice p layout k).len (place p layout k) (goal_value p layout g)) (sym goal-is)
                (there (item_choice p layout k) (subst (λ (g : Goal). ReachesGoal p layout k (item_choice p layout k) g) goal-is goal))
          ]

      -- the image is as long as its form says
      image-length : (form : Form) (at goal slot : ℕ) → pieces_length B64 (branch_image B64 (item_at items k).instr (sized action short) form at goal slot) ≡ form_length B64 (item_at items k).instr form
      unfolding image_of
      image-length form at goal slot =
          ap (λ (b : Option RelativeBranch). pieces_length B64 (image_by B64 (item_at items k).instr b form at goal slot)) (sym e) ∙ laws.forms.image_of-length B64 (item_at items k).instr form at goal slot

      image-is : (form : Form) (at goal slot : ℕ) → image_of B64 (item_at items k).instr form at goal slot ≡ branch_image B64 (item_at items k).instr (sized action short) form at goal slot
      unfolding image_of
      image-is form at goal slot = ap (λ (b : Option RelativeBranch). image_by B64 (item_at items k).instr b form at goal slot) e

      form-spelled-here : (form : Form) → item_choice (plan_with B64 spans items goals) layout k ≡ branch_choice B64 (item_at items k).instr (sized action short) form → form_fits action short form ≡ true
          → IsSome (bytes_from B64 (place (plan_with B64 spans items goals) layout k) (branch_image B64 (item_at items k).instr (sized action short) form (place (plan_with B64 spans items goals) layout k)
          (goal_address (plan_with B64 spans items goals) layout k) (fragment_at (plan_with B64 spans items goals) layout k).slot))
      form-spelled-here form is fits =
          let p = plan_with B64 spans items goals in
          let at = place p layout k in
          let goal = goal_address p layout k in
          let slot = (fragment_at p layout k).slot in
          let instr = (item_at items k).instr in
          let len : image_length p layout k ≡ pieces_length B64 (branch_image B64 instr (sized action short) form at goal slot) =
          ap (λ (c : Choice). c.len) is ∙ sym (image-length form at goal slot) in
          let there = subst (λ (c : Choice). Reaches c.reach c.len at goal) is reaches in
          form-spelled laws instr action short form at goal slot range counts fits
          (omega (arith, ends, len))
          goal-small
          (subst (λ (n : ℕ). Reaches (form_reach B64 (sized action short) instr.asize form) n at goal) (sym (image-length form at goal slot)) there)
          (λ far. subst (λ (n : ℕ). IsSlotNear at n slot) len (slot_near (ap (λ (c : Choice). has_far_form c.form) is ∙ far)))

      -- **the branch has its bytes**
      branch-reached : IsReached B64 items (plan_with B64 spans items goals) layout k
      unfolding fragment_at
      branch-reached =
          let p = plan_with B64 spans items goals in
          let instr = (item_at items k).instr in
          let form = get_or (branch_forms B64 action short) (get_or layout k 0) Itself in
          let at = place p layout k in
          let goal = goal_address p layout k in
          let slot = (fragment_at p layout k).slot in
          let own = fragment-own B64 spans items goals layout least.closed.is_layout k lt (sized action short) e in
          let fits = form_at (form_fits action short) (branch_forms B64 action short) (get_or layout k 0) (forms_fit action short) form-below in (
            branch_reach instr (item_choice p layout k).form (item_choice p layout k).reach (item_choice p layout k).len at goal own reaches,
            subst (λ (f : Form). IsSome (bytes_from B64 at (image_of B64 instr f at goal slot))) (sym (ap (λ (c : Choice). c.form) chosen-is))
                (subst (λ (is : List Instr). IsSome (bytes_from B64 at is)) (sym (image-is form at goal slot)) (form-spelled-here form chosen-is fits)),
          )

    -- **in 64-bit mode a relative branch has its bytes in the least layout**
    pub branch-reached-in_64 : (t : ℕ) → first_value near_value (item_at items k).instr ≡ Some t → IsReached B64 items (plan_with B64 spans items goals) layout k
    branch-reached-in_64 t near =
        let i = placed k lt in
        let old = modulo_width B64 (item_at items k).ip in
        let b = branched laws B64 old i.bytes (item_at items k).instr t i.spelled near in
        let mode = mode-fits laws old i.bytes (item_at items k).instr b.0 i.spelled b.1 in
        let is : b.0 ≡ sized b.0.action b.0.is_short = ap (λ (size : Bits). with_size b.0.action b.0.is_short size) mode.0 in
        branch-reached b.0.action b.0.is_short (b.1 ∙ ap Some is) mode.1 (counter-fits laws old i.bytes (item_at items k).instr b.0 i.spelled b.1)

  -- ---- moved blocks

  module _ (items : List Placed) (spans : List BlockSpan) (s : AreSpansOf items spans) (placed : ArePlaced B64 items) (few : length items ≤ 65536)
      (layout : List ℕ) (least : IsLeast (plan_for B64 spans items) layout) (inside : first_new_pass B64 (plan_for B64 spans items) layout ≡ None)
      (k : ℕ) (lt : k < length items) (t : ℕ) (near : first_value near_value (item_at items k).instr ≡ Some t) where
    target-is : target_of (item_at items k).instr ≡ Some t
    unfolding target_of
    target-is = ap (λ (o : Option ℕ). option_or o (first_value ip_value (item_at items k).instr)) near

    goal-among : goal_at spans items k ≡ goal_among (own_item spans items k t) (other_item spans items k t) t
    unfolding goal_of_target
    goal-among = ap (goal_of spans items k) target-is

    goal-reached : (c : Choice) → ReachesGoal (plan_for B64 spans items) layout k c (goal_at spans items k)
        → Reaches c.reach c.len (place (plan_for B64 spans items) layout k) (goal_value (plan_for B64 spans items) layout (goal_at spans items k))
    goal-reached c h =
        let p = plan_for B64 spans items in
        subst (λ (g : Goal). Reaches c.reach c.len (place p layout k) (goal_value p layout g)) (sym goal-among)
        (among_reached p layout k c (own_item spans items k t) (other_item spans items k t) t
        (subst (λ (g : Goal). ReachesGoal p layout k c g) goal-among h))

    -- in 64-bit mode each item reaches its goal
    pub reached-in_64 : IsReached B64 items (plan_for B64 spans items) layout k
    reached-in_64 =
        branch-reached-in_64 items spans (goal_at spans items) s placed few (laws.plans.well_formed B64 spans items placed few s) layout least inside k lt goal-reached
        (goal-below laws B64 items spans s placed layout least.closed.is_layout inside k lt)
        t near
