-- The choices of an item in the plan of some moved blocks, and the fragment that a layout gives it.
use Rattle.std.proofs.Common.{◌≡◌, ℕ, zero, suc, ◌<◌, Bool, true, false, List, [], ◌∷◌, length, map, get_or, Option, Some, None, refl, ap, sym, ◌∙◌, subst, arith}
use Rattle.std.proofs.lemmas.List.FromFn.{get_or-map-range_with_len, length-map-range_with_len}
use Rattle.x86_values.specs.declared.Bits.{Bits}
use Rattle.x86_values.specs.declared.Bits.TheVariants.{B16, B32, B64}
use Rattle.x86_values.specs.declared.Instr.{Instr}
use Rattle.branch_sizes.specs.declared.plan.BlockSpan.{BlockSpan}
use Rattle.branch_sizes.specs.declared.plan.Goal.{Goal}
use Rattle.branch_sizes.specs.declared.plan.Form.{Form}
use Rattle.branch_sizes.specs.declared.plan.Form.TheVariants.{Itself, Far, FarBridge}
use Rattle.branch_sizes.specs.Plan.{BlockPlan, no_choice, no_branch}
use Rattle.branch_sizes.specs.Plan as plan
use Rattle.branch_sizes.specs.Layout.{IsLayout, item_choice, place, image_length}
use Rattle.move_goals.specs.declared.branch_forms.branch.Action.{Action}
use Rattle.move_goals.specs.declared.branch_forms.branch.Action.TheVariants.{Jump, Call, Condition, Count}
use Rattle.move_goals.specs.declared.branch_forms.branch.RelativeBranch.{RelativeBranch}
use Rattle.move_goals.specs.BranchForms.Branches.{branch_of}
use Rattle.move_goals.specs.BranchForms.Images.{form_length}
use Rattle.move_goals.specs.BranchForms.Choices.{in_64, branch_forms, branch_choice, choices_by, choices_of}
use Rattle.move_goals.specs.declared.items.Placed.{Placed}
use Rattle.move_goals.specs.Items.{item_at}
use Rattle.move_goals.specs.Plan.{branch_with, plan_with}
use Rattle.branch_sizes.specs.MoveLayout.Laid.{fragment_at}

-- ---- choices

-- each choice is as long as the image in its form
choice_by-length : (bits : Bits) (i : Instr) (b : Option RelativeBranch) (f : ℕ) → f < length (choices_by bits i b) → (get_or (choices_by bits i b) f no_choice).len ≡ form_length bits i (get_or (choices_by bits i b) f no_choice).form
choice_by-length bits i None zero lt = refl
choice_by-length bits i None (suc f) lt = absurd (omega arith)
choice_by-length bits i (Some b) f lt = mapped (branch_forms bits b.action b.is_short) f lt
  where
    mapped : (forms : List Form) (n : ℕ) → n < length (map (branch_choice bits i b) forms) → (get_or (map (branch_choice bits i b) forms) n no_choice).len ≡ form_length bits i (get_or (map (branch_choice bits i b) forms) n no_choice).form
    mapped [] n lt = absurd (omega arith)
    mapped (form ∷ forms) zero lt = refl
    mapped (form ∷ forms) (suc n) lt = mapped forms n (omega arith)

-- the length of a choice is that of its form
pub choice-length : (bits : Bits) (i : Instr) (f : ℕ) → f < length (choices_of bits i) → (get_or (choices_of bits i) f no_choice).len ≡ form_length bits i (get_or (choices_of bits i) f no_choice).form
unfolding choices_of
choice-length bits i f lt = choice_by-length bits i (branch_of i) f lt

-- the form of a branch is another one than its own
abbrev pub is_own : Form → Bool
is_own Itself = true
is_own _ = false

-- none of some forms is the own one
abbrev AreMoved : List Form → Type 0
AreMoved [] = Unit {0}
AreMoved (form ∷ forms) = (is_own form ≡ false) × AreMoved forms

in_64-moved : (bits : Bits) (form : Form) → is_own form ≡ false → AreMoved (in_64 bits form)
in_64-moved B64 form h = (h, tt)
in_64-moved B32 form h = tt
in_64-moved B16 form h = tt

forms_moved : (bits : Bits) (action : Action) (short : Bool) → AreMoved (branch_forms bits action short)
unfolding branch_forms
forms_moved bits (Count n) short = (refl, (refl, in_64-moved bits FarBridge refl))
forms_moved bits Jump true = (refl, (refl, in_64-moved bits Far refl))
forms_moved bits Call true = (refl, (refl, in_64-moved bits Far refl))
forms_moved bits (Condition n) true = (refl, (refl, in_64-moved bits Far refl))
forms_moved bits Jump false = (refl, in_64-moved bits Far refl)
forms_moved bits Call false = (refl, in_64-moved bits Far refl)
forms_moved bits (Condition n) false = (refl, in_64-moved bits Far refl)

moved_choice : (bits : Bits) (i : Instr) (b : RelativeBranch) (forms : List Form) (n : ℕ) → AreMoved forms → n < length (map (branch_choice bits i b) forms) → is_own (get_or (map (branch_choice bits i b) forms) n no_choice).form ≡ false
moved_choice bits i b [] n m lt = absurd (omega arith)
moved_choice bits i b (form ∷ forms) zero (here, more) lt = here
moved_choice bits i b (form ∷ forms) (suc n) (here, more) lt = moved_choice bits i b forms n more (omega arith)

-- the form that is chosen for a branch is another one
moved_by : (bits : Bits) (i : Instr) (o : Option RelativeBranch) (b : RelativeBranch) (f : ℕ) → o ≡ Some b → f < length (choices_by bits i o) → is_own (get_or (choices_by bits i o) f no_choice).form ≡ false
moved_by bits i None b f e lt = cc
moved_by bits i (Some c) b f e lt = moved_choice bits i c (branch_forms bits c.action c.is_short) f (forms_moved bits c.action c.is_short) lt

-- a choice other than the own form of a branch has the form of its image
pub moved-form : (bits : Bits) (i : Instr) (b : RelativeBranch) (f : ℕ) → branch_of i ≡ Some b → f < length (choices_of bits i) → is_own (get_or (choices_of bits i) f no_choice).form ≡ false
unfolding choices_of
moved-form bits i b f e lt = moved_by bits i (branch_of i) b f e lt

own_by : (bits : Bits) (i : Instr) (b : Option RelativeBranch) (f : ℕ) → f < length (choices_by bits i b) → (get_or (choices_by bits i b) f no_choice).form ≡ Itself → b ≡ None
own_by bits i None f lt e = refl
own_by bits i (Some b) f lt e =
    let no = moved_choice bits i b (branch_forms bits b.action b.is_short) f (forms_moved bits b.action b.is_short) lt in
    let yes : is_own (get_or (choices_by bits i (Some b)) f no_choice).form ≡ true = ap is_own e in
    let no : false ≡ true = sym no ∙ yes in
    cc

-- **what keeps its form is no relative branch**
pub own-form : (bits : Bits) (i : Instr) (f : ℕ) → f < length (choices_of bits i) → (get_or (choices_of bits i) f no_choice).form ≡ Itself → branch_of i ≡ None
unfolding choices_of
own-form bits i f lt e = own_by bits i (branch_of i) f lt e

-- ---- the plan

module _ (bits : Bits) (spans : List BlockSpan) (items : List Placed) (goals : ℕ → Goal) where
  -- a plan keeps the spans of its blocks
  pub plan-spans : (plan_with bits spans items goals).spans ≡ spans
  unfolding plan_with
  plan-spans = refl

  -- a plan has an item for each item to be moved
  pub plan-count : length (plan_with bits spans items goals).items ≡ length items
  unfolding plan_with
  plan-count = length-map-range_with_len (branch_with bits items goals) 0 (length items)

  -- item k of the plan has the choices and the goal of item k
  pub plan-item : (k : ℕ) → k < length items → plan.item_at (plan_with bits spans items goals) k ≡ branch_with bits items goals k
  unfolding plan_with
  plan-item k lt = get_or-map-range_with_len (branch_with bits items goals) 0 (length items) k k no_branch lt (omega arith)

  -- ---- fragments

  module _ (layout : List ℕ) (l : IsLayout (plan_with bits spans items goals) layout) (k : ℕ) (lt : k < length items) where
    -- the choice of an item
    pub choice-is : item_choice (plan_with bits spans items goals) layout k ≡ get_or (choices_of bits (item_at items k).instr) (get_or layout k 0) no_choice
    choice-is = ap (λ b. get_or b.choices.items (get_or layout k 0) no_choice) (plan-item k lt)

    -- the layout gives each item one of its choices
    pub choice-below : get_or layout k 0 < length (choices_of bits (item_at items k).instr)
    choice-below =
        subst (λ b. get_or layout k 0 < length b.choices.items) (plan-item k lt)
        (l.valid k (subst (λ n. k < n) (sym plan-count) lt))

    -- the fragment is as long as the image in its form
    pub fragment-length : (fragment_at (plan_with bits spans items goals) layout k).len ≡ form_length bits (item_at items k).instr (fragment_at (plan_with bits spans items goals) layout k).form
    unfolding fragment_at
    fragment-length = rw choice-is (choice-length bits (item_at items k).instr (get_or layout k 0) choice-below)

    -- an item of the form of an instruction that is no branch is no branch
    pub fragment-no_branch : (fragment_at (plan_with bits spans items goals) layout k).form ≡ Itself → branch_of (item_at items k).instr ≡ None
    unfolding fragment_at
    fragment-no_branch e = own-form bits (item_at items k).instr (get_or layout k 0) choice-below (sym (ap (λ x. x.form) choice-is) ∙ e)

    -- a branch has no such form
    pub fragment-own : (b : RelativeBranch) → branch_of (item_at items k).instr ≡ Some b → is_own (item_choice (plan_with bits spans items goals) layout k).form ≡ false
    fragment-own b e = ap (λ c. is_own c.form) choice-is ∙ moved-form bits (item_at items k).instr b (get_or layout k 0) e choice-below

    -- the fragment of an item has the length of its image
    pub fragment-image_length : (fragment_at (plan_with bits spans items goals) layout k).len ≡ image_length (plan_with bits spans items goals) layout k
    unfolding fragment_at
    fragment-image_length = refl

    -- the fragment of an item lies at the item's place
    pub fragment-place : (fragment_at (plan_with bits spans items goals) layout k).place ≡ place (plan_with bits spans items goals) layout k
    unfolding fragment_at
    fragment-place = refl
