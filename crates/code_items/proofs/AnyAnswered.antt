-- What moving instructions answers of which some have no row, by what the mover answers for the items that stand for them.
use Rattle.std.proofs.Common.{◌≡◌, ℕ, zero, suc, ◌+◌, ◌<◌, List, [], ◌∷◌, ◌++◌, length, map, Option, refl, sym, ap, ◌∙◌, subst, arith}
use Rattle.std.specs.Prelude.{slice_get, slice_index_or, unwrap_or}
use Rattle.std.specs.List.{flat_map, range_with_len}
use Rattle.std.proofs.lemmas.List.{append-nil, get_or-map, get_or_default, length-map}
use Rattle.std.proofs.lemmas.List.FromFn.{length-map-range_with_len, get_or-map-range_with_len}
use Rattle.std.proofs.lemmas.Option.{slice_get-get_or}
use Rattle.x86_values.specs.declared.Bits.{Bits}
use Rattle.x86_values.specs.declared.Instr.{Instr}
use Rattle.branch_sizes.specs.declared.plan.Branch.{Branch}
use Rattle.branch_sizes.specs.declared.plan.Choice.{Choice}
use Rattle.branch_sizes.specs.declared.plan.Form.{Form}
use Rattle.branch_sizes.specs.declared.plan.Form.TheVariants.{Itself, Near}
use Rattle.branch_sizes.specs.declared.plan.Goal.{Goal}
use Rattle.branch_sizes.specs.declared.plan.Goal.TheVariants.{None as NoGoal, Inside, Outside}
use Rattle.branch_sizes.specs.Plan as plan
use Rattle.branch_sizes.specs.Plan.{BlockPlan, no_choice, no_branch, plan_of, one_block}
use Rattle.branch_sizes.specs.Layout.{IsLayout, Reaches, item_choice, place}
use Rattle.branch_sizes.specs.declared.move_layout.layout.Fragment.{Fragment}
use Rattle.branch_sizes.specs.MoveLayout.Laid.{goal_value, fragment_at, slots_of, all_slots}
use Rattle.move_goals.specs.MovedTargets.Facts.{TargetFacts}
use Rattle.move_goals.specs.BranchForms.Images.{form_length}
use Rattle.move_goals.specs.declared.items.Placed.{Placed}
use Rattle.move_goals.specs.Items.{item_at, no_item}
use Rattle.block_encoder.specs.Bytes.{bytes_at, fragment_bytes, gap_bytes, slot_bytes, bytes_of_blocks, block_images, block_bytes}
use Rattle.block_encoder.specs.Moved.{MovedLists, fragment_reach, IsFragmentReached, IsReached}
use Rattle.block_encoder.specs.ByPlan.{IsMovedBy, IsTooFarBy}
use Rattle.code_items.specs.declared.any_items.AnyItem.{AnyItem}
use Rattle.code_items.specs.declared.any_items.AnyItem.TheVariants.{Listed, Unlisted}
use Rattle.code_items.specs.AnyItems.{any_at}
use Rattle.code_items.specs.AnyLawsBelow.{AnyLawsBelow}
use Rattle.code_items.specs.AnyPlan.{unlisted_choice, any_choices, any_branch_with, any_plan_with}
use Rattle.code_items.specs.AnyMoved.{any_bytes, IsAnyReached, any_block_bytes, IsMovedAnyBy, IsAnyTooFarBy}
use Rattle.code_items.specs.AnyWriting.{IsFiller, stand_in, stand_ins, bytes_for, AreStandIns, IsPlanOf, goal_by}
use Rattle.code_items.proofs.AnyBytes.{fragment-length, filler-some}
use Rattle.code_items.proofs.AnyLists.{more}

-- ---- the plan and the items that stand for instructions

-- instruction k has its branch in the plan
pub plan-item : (bits : Bits) (items : List AnyItem) (goals : ℕ → Goal) (new k : ℕ) → k < length items
    → plan.item_at (any_plan_with bits items goals new) k ≡ any_branch_with bits items goals k
unfolding any_plan_with
plan-item bits items goals new k lt = get_or-map-range_with_len (any_branch_with bits items goals) 0 (length items) k k no_branch lt (omega arith)

-- the plan is one block of all instructions
pub plan-is : (bits : Bits) (items : List AnyItem) (goals : ℕ → Goal) (new : ℕ) →
    any_plan_with bits items goals new ≡ plan_of (record { count = length items; new_base = new } ∷ []) (map (any_branch_with bits items goals) (range_with_len 0 (length items)))
unfolding any_plan_with
plan-is bits items goals new =
    ap (λ (n : ℕ). plan_of (record { count = n; new_base = new } ∷ []) (map (any_branch_with bits items goals) (range_with_len 0 (length items))))
    (length-map-range_with_len (any_branch_with bits items goals) 0 (length items))

-- the plan has an item for each instruction
pub plan-count : (bits : Bits) (items : List AnyItem) (goals : ℕ → Goal) (new : ℕ) → length (any_plan_with bits items goals new).items ≡ length items
unfolding any_plan_with
plan-count bits items goals new = length-map-range_with_len (any_branch_with bits items goals) 0 (length items)

-- item k stands for instruction k
stands-at : (filler : Instr) (items : List AnyItem) (k : ℕ) → k < length items → item_at (stand_ins filler items) k ≡ stand_in filler (any_at items k)
stands-at filler items k lt = get_or-map (stand_in filler) items k (Listed no_item) no_item lt

module _ (bits : Bits) (items : List AnyItem) (goals : ℕ → Goal) (new : ℕ) (layout : List ℕ) (is_layout : IsLayout (any_plan_with bits items goals new) layout) where
  only : (c : Choice) (n : ℕ) → n < 1 → slice_index_or (c ∷ []) n no_choice ≡ c
  only c zero lt = refl
  only c (suc n) lt = absurd (omega arith)

  -- an instruction without a row has its one form
  unlisted-choice : (k : ℕ) → k < length items → (x : AnyItem) → any_at items k ≡ x → (c : Choice) → any_choices bits x ≡ c ∷ [] →
      item_choice (any_plan_with bits items goals new) layout k ≡ c
  unfolding any_plan_with
  unlisted-choice k lt x at c one =
      let cs : plan.choices_at (any_plan_with bits items goals new) k ≡ c ∷ [] =
      ap (λ (b : Branch). b.choices.items) (plan-item bits items goals new k lt) ∙ (ap (any_choices bits) at ∙ one) in
      let many : length (map (any_branch_with bits items goals) (range_with_len 0 (length items))) ≡ length items = length-map-range_with_len (any_branch_with bits items goals) 0 (length items) in
      let below : slice_index_or layout k 0 < 1 = omega (arith, is_layout.valid k (omega (arith, many, lt)), ap length cs) in
      ap (λ (xs : List Choice). slice_index_or xs (slice_index_or layout k 0) no_choice) cs ∙ only c (slice_index_or layout k 0) below

  module _ (filler : Instr) (k : ℕ) (lt : k < length items) where
    to-by : (x : AnyItem) → any_at items k ≡ x → IsFragmentReached bits (stand_in filler x).instr (fragment_at (any_plan_with bits items goals new) layout k)
        → IsAnyReached bits x (fragment_at (any_plan_with bits items goals new) layout k)
    unfolding fragment_at
    to-by (Listed p) at h = h
    to-by (Unlisted u) at h =
        let f = fragment_at (any_plan_with bits items goals new) layout k in
        let near : f.form ≡ Near = ap (λ (c : Choice). c.form) (unlisted-choice k lt (Unlisted u) at (unlisted_choice bits u.shape) refl) in
        subst (λ (form : Form). Reaches (fragment_reach filler form f.reach) f.len f.place f.goal) near h.0

    -- what is reached by the item is reached by the instruction
    pub to-any : IsReached bits (stand_ins filler items) (any_plan_with bits items goals new) layout k → IsAnyReached bits (any_at items k) (fragment_at (any_plan_with bits items goals new) layout k)
    to-any h =
        to-by (any_at items k) refl
        (subst (λ (p : Placed). IsFragmentReached bits p.instr (fragment_at (any_plan_with bits items goals new) layout k)) (stands-at filler items k lt) h)

    from-by : TargetFacts → IsFiller bits filler → (x : AnyItem) → any_at items k ≡ x → IsAnyReached bits x (fragment_at (any_plan_with bits items goals new) layout k)
        → IsFragmentReached bits (stand_in filler x).instr (fragment_at (any_plan_with bits items goals new) layout k)
    unfolding fragment_at
    from-by targets is (Listed p) at h = h
    from-by targets is (Unlisted u) at h =
        let f = fragment_at (any_plan_with bits items goals new) layout k in
        let near : f.form ≡ Near = ap (λ (c : Choice). c.form) (unlisted-choice k lt (Unlisted u) at (unlisted_choice bits u.shape) refl) in (
          subst (λ (form : Form). Reaches (fragment_reach filler form f.reach) f.len f.place f.goal) (sym near) h,
          filler-some targets bits filler is f,
        )

    -- and the other way round
    pub from-any : TargetFacts → IsFiller bits filler → IsAnyReached bits (any_at items k) (fragment_at (any_plan_with bits items goals new) layout k)
        → IsReached bits (stand_ins filler items) (any_plan_with bits items goals new) layout k
    from-any targets is h =
        subst (λ (p : Placed). IsFragmentReached bits p.instr (fragment_at (any_plan_with bits items goals new) layout k)) (sym (stands-at filler items k lt))
        (from-by targets is (any_at items k) refl h)

-- ---- the answers

-- each instruction has one stand-in
pub count-same : (filler : Instr) (items : List AnyItem) → length (stand_ins filler items) ≡ length items
count-same filler items = length-map items (stand_in filler)

-- **items that are moved are the moved instructions**
pub is_moved : (bits : Bits) (filler : Instr) (items : List AnyItem) (goals : ℕ → Goal) (new : ℕ) (m : MovedLists) (out : List ℕ) →
    (h : IsMovedBy bits (stand_ins filler items) (any_plan_with bits items goals new) m) → out ≡ any_block_bytes bits items (any_plan_with bits items goals new) h.layout →
    IsMovedAnyBy bits items (any_plan_with bits items goals new) (record { bytes = out; starts = m.starts; forms = m.forms; slots = m.slots; ends = m.ends })
is_moved bits filler items goals new m out h is = record {
  layout = h.layout;
  least = h.least;
  ends = h.ends;
  reached = λ k lt. to-any bits items goals new h.layout h.least.closed.is_layout filler k lt (h.reached k (omega (arith, lt, count-same filler items)));
  bytes = is;
  starts = h.lists.starts ∙ ap (λ (n : ℕ). map (place (any_plan_with bits items goals new) h.layout) (range_with_len 0 n)) (count-same filler items);
  forms = h.lists.forms ∙ ap (λ (n : ℕ). map (λ k. (item_choice (any_plan_with bits items goals new) h.layout k).form) (range_with_len 0 n)) (count-same filler items);
  slots = h.lists.slots ∙ ap (λ (p : BlockPlan). all_slots (any_plan_with bits items goals new) h.layout (length p.spans)) (plan-is bits items goals new);
}

-- **an item that does not reach its goal is an instruction that does not**
pub is_too_far : TargetFacts → (bits : Bits) (filler : Instr) → IsFiller bits filler → (items : List AnyItem) (goals : ℕ → Goal) (new at target : ℕ) →
    IsTooFarBy bits (stand_ins filler items) (any_plan_with bits items goals new) at target → IsAnyTooFarBy bits items (any_plan_with bits items goals new) at target
is_too_far targets bits filler is items goals new at target h =
    let within : at < length items = omega (arith, h.first.within, count-same filler items) in
    record {
      layout = h.layout;
      least = h.least;
      ends = h.ends;
      first = record {
        within = within;
        unreached = λ r. h.first.unreached (from-any bits items goals new h.layout h.least.closed.is_layout filler at within targets is r);
        before = λ j lt. to-any bits items goals new h.layout h.least.closed.is_layout filler j (omega (arith, lt, within)) (h.first.before j lt);
      };
      target_is = h.target_is;
    }

-- ---- the writing

module _ (bits : Bits) (items : List AnyItem) (placed : List Placed) (p : BlockPlan) (m : MovedLists) (standing : AreStandIns items placed) (of : IsPlanOf bits items p)
    (h : IsMovedBy bits placed p m) where
  count : length placed ≡ length items
  count = ap length standing.are ∙ count-same standing.filler items

  -- the bytes of the block are those of the items, and the gap and the slots
  pub block-is : m.bytes ≡ flat_map (bytes_at bits placed p h.layout) (range_with_len 0 (length items)) ++ (gap_bytes p h.layout 0 ++ slot_bytes (slots_of p h.layout 0))
  unfolding block_bytes block_images
  block-is =
      h.lists.bytes ∙ subst (λ (q : BlockPlan). Whole q) (sym (of.is ∙ plan-is bits items of.goals of.new)) whole
    where
      Whole : BlockPlan → Type 0
      Whole q =
          bytes_of_blocks bits placed q h.layout (length q.spans)
          ≡ flat_map (bytes_at bits placed q h.layout) (range_with_len 0 (length items)) ++ (gap_bytes q h.layout 0 ++ slot_bytes (slots_of q h.layout 0))

      whole : Whole (plan_of (record { count = length items; new_base = of.new } ∷ []) (map (any_branch_with bits items of.goals) (range_with_len 0 (length items))))
      whole = append-nil _

  -- the item that stands for an instruction
  pub stands : (k : ℕ) → k < length items → item_at placed k ≡ stand_in standing.filler (any_at items k)
  stands k lt = ap (λ (xs : List Placed). item_at xs k) standing.are ∙ stands-at standing.filler items k lt

  -- the form, the place and the goal of an item
  pub form-is : (k : ℕ) → k < length items → slice_index_or m.forms k Itself ≡ (fragment_at p h.layout k).form
  unfolding fragment_at
  form-is k lt =
      ap (λ (xs : List Form). slice_index_or xs k Itself) h.lists.forms
      ∙ get_or-map-range_with_len (λ k. (item_choice p h.layout k).form) 0 (length placed) k k Itself (omega (arith, lt, count)) (omega arith)

  -- the moved stand-in of an instruction starts at the place of its fragment
  pub start-is : (k : ℕ) → k < length items → slice_index_or m.starts k 0 ≡ (fragment_at p h.layout k).place
  unfolding fragment_at
  start-is k lt =
      ap (λ (xs : List ℕ). slice_index_or xs k 0) h.lists.starts
      ∙ get_or-map-range_with_len (place p h.layout) 0 (length placed) k k 0 (omega (arith, lt, count)) (omega arith)

  goal-by : (g : Goal) → ((j : ℕ) → g ≡ Inside j → j < length items) → goal_by m.starts g ≡ goal_value p h.layout g
  goal-by NoGoal within = refl
  goal-by (Outside t) within = refl
  goal-by (Inside j) within =
      let lt : j < length placed = omega (arith, within j refl, count) in
      ap (λ (xs : List ℕ). unwrap_or (slice_get xs j) 0) h.lists.starts
      ∙ (ap (λ (o : Option ℕ). unwrap_or o 0)
      (slice_get-get_or (map (place p h.layout) (range_with_len 0 (length placed))) j 0 (omega (arith, length-map-range_with_len (place p h.layout) 0 (length placed), lt)))
      ∙ get_or-map-range_with_len (place p h.layout) 0 (length placed) j j 0 lt (omega arith))

  module _ (laws : AnyLawsBelow) where
    -- the goal by the moved starts is that of the fragment
    pub goal-is : (k : ℕ) → k < length items → goal_by m.starts (plan.item_at p k).goal ≡ (fragment_at p h.layout k).goal
    unfolding fragment_at
    goal-is k lt =
        let b : plan.item_at p k ≡ any_branch_with bits items of.goals k = ap (λ (q : BlockPlan). plan.item_at q k) of.is ∙ plan-item bits items of.goals of.new k lt in
        goal-by (plan.item_at p k).goal
        (λ j e. of.inside k j lt (sym (ap (λ (x : Branch). x.goal) b) ∙ e))

    -- the bytes of an item are as many as its form has
    pub length-is : (k : ℕ) → k < length items → length (bytes_at bits placed p h.layout k) ≡ form_length bits (item_at placed k).instr (fragment_at p h.layout k).form
    length-is k lt =
        fragment-length laws.targets laws.forms bits (item_at placed k).instr (fragment_at p h.layout k) (h.reached k (omega (arith, lt, count))).1

  -- the bytes of an instruction, by those of its item
  pub bytes-are : (k : ℕ) → k < length items → bytes_for bits (any_at items k) (bytes_at bits placed p h.layout k) (fragment_at p h.layout k).place (fragment_at p h.layout k).goal
      ≡ any_bytes bits (any_at items k) (fragment_at p h.layout k)
  unfolding any_bytes
  bytes-are k lt =
      let f = fragment_at p h.layout k in
      ap (λ (q : Placed). bytes_for bits (any_at items k) (unwrap_or (fragment_bytes bits q.instr f) []) f.place f.goal) (stands k lt)
      ∙ by_item (any_at items k) f
    where
      by_item : (x : AnyItem) (f : Fragment) → bytes_for bits x (unwrap_or (fragment_bytes bits (stand_in standing.filler x).instr f) []) f.place f.goal ≡ any_bytes bits x f
      by_item (Listed q) f = refl
      by_item (Unlisted u) f = refl

  -- there are as many of each
  pub forms-count : length m.forms ≡ length items
  forms-count = ap length h.lists.forms ∙ (length-map-range_with_len (λ k. (item_choice p h.layout k).form) 0 (length placed) ∙ count)

  -- each instruction has a start
  pub starts-count : length m.starts ≡ length items
  starts-count = ap length h.lists.starts ∙ (length-map-range_with_len (place p h.layout) 0 (length placed) ∙ count)

  -- and a branch in the plan
  pub branches-count : length p.items ≡ length items
  branches-count =
      ap (λ (q : BlockPlan). length q.items) (of.is ∙ plan-is bits items of.goals of.new) ∙ length-map-range_with_len (any_branch_with bits items of.goals) 0 (length items)

  -- the bytes of an instruction that is taken out of the list, with what is known of its item
  pub piece-is : (k : ℕ) → k < length items → (x : AnyItem) → any_at items k ≡ x → (image : List ℕ) → image ≡ bytes_at bits placed p h.layout k →
      (at : ℕ) → at ≡ (fragment_at p h.layout k).place → (goal : ℕ) → goal ≡ (fragment_at p h.layout k).goal →
      bytes_for bits x image at goal ≡ any_bytes bits (any_at items k) (fragment_at p h.layout k)
  piece-is k lt x x_is image image_is at at_is goal goal_is =
      let f = fragment_at p h.layout k in
      ap (λ (y : AnyItem). bytes_for bits y image at goal) (sym x_is)
      ∙ (ap (λ (bs : List ℕ). bytes_for bits (any_at items k) bs at goal) image_is
      ∙ (ap (λ (n : ℕ). bytes_for bits (any_at items k) (bytes_at bits placed p h.layout k) n goal) at_is
      ∙ (ap (λ (n : ℕ). bytes_for bits (any_at items k) (bytes_at bits placed p h.layout k) f.place n) goal_is ∙ bytes-are k lt)))

-- an instruction that is taken out of the list
pub any-is : (items : List AnyItem) (k : ℕ) (x : AnyItem) → k < length items → x ≡ slice_index_or items k x → any_at items k ≡ x
any-is items k x lt is = get_or_default items k (Listed no_item) x lt ∙ sym is

-- a branch that is taken out of the plan
pub branch-is : (p : BlockPlan) (branches : List Branch) (k : ℕ) (b : Branch) → branches ≡ p.items → k < length branches → b ≡ slice_index_or branches k b → b ≡ plan.item_at p k
branch-is p branches k b are lt is = is ∙ (get_or_default branches k b no_branch lt ∙ ap (λ (bs : List Branch). slice_index_or bs k no_branch) are)

-- one more instruction
pub written-more : (f : ℕ → List ℕ) (k : ℕ) (old new piece : List ℕ) → old ≡ flat_map f (range_with_len 0 k) → new ≡ old ++ piece → piece ≡ f k →
    new ≡ flat_map f (range_with_len 0 (k + 1))
written-more f k old new piece before after is =
    let e : suc k ≡ k + 1 = omega arith in
    after
    ∙ (ap (λ xs. xs ++ piece) before
    ∙ (ap (λ xs. flat_map f (range_with_len 0 k) ++ xs) is ∙ (sym (more f k) ∙ ap (λ (n : ℕ). flat_map f (range_with_len 0 n)) e)))
