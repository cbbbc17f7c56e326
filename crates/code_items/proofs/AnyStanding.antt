-- Each moved instruction stands at its place, where its bytes are as many as its form says.
use Rattle.std.proofs.Common.{◌≡◌, ℕ, zero, suc, ◌+◌, ◌-◌, ◌<◌, ◌≤◌, List, [], ◌∷◌, ◌++◌, length, map, take, drop, Option, Some, None, refl, sym, ap, ◌∙◌, subst, arith, length-append, length-take, length-drop}
use Rattle.std.specs.Prelude.{slice_index_or}
use Rattle.std.specs.List.{flat_map, range_with_len}
use Rattle.std.proofs.Math.Seq.{take-append_seam, drop-append_seam}
use Rattle.std.proofs.lemmas.List.{get_or-map, length-map}
use Rattle.std.proofs.lemmas.List.FromFn.{length-map-range_with_len}
use Rattle.std.proofs.lemmas.Bool.{lt-ltb}
use Rattle.x86_values.specs.declared.Bits.{Bits}
use Rattle.x86_values.specs.declared.Instr.{Instr}
use Rattle.plain_spelling.specs.Values.{low_bytes}
use Rattle.unlisted.specs.declared.Relative.{Relative}
use Rattle.unlisted.specs.Measured.{StandsInside}
use Rattle.branch_sizes.specs.declared.plan.Branch.{Branch}
use Rattle.branch_sizes.specs.declared.plan.Choice.{Choice}
use Rattle.branch_sizes.specs.declared.plan.Form.TheVariants.{Itself}
use Rattle.branch_sizes.specs.declared.plan.Goal.{Goal}
use Rattle.branch_sizes.specs.Plan as plan
use Rattle.branch_sizes.specs.Plan.{BlockPlan, no_choice, plan_of}
use Rattle.branch_sizes.specs.Layout.{total, item_choice, image_length, place}
use Rattle.branch_sizes.specs.MoveLayout.Laid.{fragment_at, slots_of}
use Rattle.move_goals.specs.declared.branch_forms.branch.RelativeBranch.{RelativeBranch}
use Rattle.move_goals.specs.BranchForms.Branches.{branch_of}
use Rattle.move_goals.specs.BranchForms.Images.{form_length}
use Rattle.move_goals.specs.BranchForms.Choices.{branch_forms, branch_choice, choices_by, choices_of}
use Rattle.block_encoder.specs.Bytes.{gap_bytes, slot_bytes}
use Rattle.block_encoder.specs.Moved.{MovedLists}
use Rattle.code_items.specs.declared.any_items.AnyItem.{AnyItem}
use Rattle.code_items.specs.declared.any_items.AnyItem.TheVariants.{Listed, Unlisted}
use Rattle.code_items.specs.AnyItems.{any_at, IsAnySound, AreAnySound}
use Rattle.code_items.specs.AnyLawsBelow.{AnyLawsBelow}
use Rattle.code_items.specs.AnyPlan.{unlisted_choice, any_choices, any_branch_with, any_plan_with, any_goals}
use Rattle.code_items.specs.AnyMoved.{number_to, own_bytes_at, any_bytes, IsAnyReached, any_block_bytes, IsMovedAnyBy, lists_of}
use Rattle.code_items.specs.AnyStanding.{AnyStandsIn, AllStandAt}
use Rattle.code_items.proofs.AnyBytes.{fragment-length}
use Rattle.code_items.proofs.AnyLists.{more, split}
use Rattle.code_items.proofs.AnyOrder.{sound}
use Rattle.code_items.proofs.AnyAnswered.{plan-item, plan-is}

-- ---- the length of an instruction's bytes

low-length : (n x : ℕ) → length (low_bytes n x) ≡ n
unfolding low_bytes
low-length zero x = refl
low-length (suc n) x = ap suc (low-length n _)

own-length : (bits : Bits) (at len goal : ℕ) (r : Option Relative) (own : List ℕ) → StandsInside (length own) r → length (own_bytes_at bits at len goal r own) ≡ length own
unfolding own_bytes_at
own-length bits at len goal None own inside = refl
own-length bits at len goal (Some r) own inside =
    omega (
      arith,
      inside,
      length-append (take r.at own) (low_bytes r.len (number_to bits at len goal r) ++ drop (r.at + r.len) own),
      length-append (low_bytes r.len (number_to bits at len goal r)) (drop (r.at + r.len) own),
      low-length r.len (number_to bits at len goal r),
      length-take r.at own,
      length-drop (r.at + r.len) own,
    )

-- a choice of an instruction is as long as its form
choice-length : (bits : Bits) (i : Instr) (n : ℕ) → n < length (choices_of bits i) →
    (slice_index_or (choices_of bits i) n no_choice).len ≡ form_length bits i (slice_index_or (choices_of bits i) n no_choice).form
unfolding choices_of
choice-length bits i n lt = by_branch (branch_of i) n lt
  where
    by_branch : (b : Option RelativeBranch) (n : ℕ) → n < length (choices_by bits i b) →
        (slice_index_or (choices_by bits i b) n no_choice).len ≡ form_length bits i (slice_index_or (choices_by bits i b) n no_choice).form
    by_branch None zero lt = refl
    by_branch None (suc n) lt = absurd (omega arith)
    by_branch (Some b) n lt =
        let fs = branch_forms bits b.action b.is_short in
        let e = get_or-map (branch_choice bits i b) fs n Itself no_choice (omega (arith, lt, length-map fs (branch_choice bits i b))) in
        rw e refl

module _ (laws : AnyLawsBelow) (bits : Bits) (items : List AnyItem) (goals : ℕ → Goal) (new : ℕ) (m : MovedLists) (well : AreAnySound bits items)
    (h : IsMovedAnyBy bits items (any_plan_with bits items goals new) m) where
  abbrev p : BlockPlan
  p = any_plan_with bits items goals new

  branch-is : (k : ℕ) → k < length items → plan.choices_at p k ≡ any_choices bits (any_at items k)
  branch-is k lt = ap (λ (b : Branch). b.choices.items) (plan-item bits items goals new k lt)

  below : (k : ℕ) → k < length items → slice_index_or h.layout k 0 < length (any_choices bits (any_at items k))
  unfolding any_plan_with
  below k lt =
      let many : length (map (any_branch_with bits items goals) (range_with_len 0 (length items))) ≡ length items = length-map-range_with_len (any_branch_with bits items goals) 0 (length items) in
      omega (arith, h.least.closed.is_layout.valid k (omega (arith, many, lt)), ap length (branch-is k lt))

  choice-is : (k : ℕ) → k < length items → item_choice p h.layout k ≡ slice_index_or (any_choices bits (any_at items k)) (slice_index_or h.layout k 0) no_choice
  choice-is k lt = ap (λ (cs : List Choice). slice_index_or cs (slice_index_or h.layout k 0) no_choice) (branch-is k lt)

  -- the bytes of an instruction are as many as its form has
  bytes-length : (k : ℕ) → k < length items → length (any_bytes bits (any_at items k) (fragment_at p h.layout k)) ≡ image_length p h.layout k
  unfolding any_bytes fragment_at
  bytes-length k lt = by_item (any_at items k) (well.each k lt) (h.reached k lt) (below k lt) (choice-is k lt)
    where
      only : (c : Choice) (n : ℕ) → n < 1 → slice_index_or (c ∷ []) n no_choice ≡ c
      only c zero lt = refl
      only c (suc n) lt = absurd (omega arith)

      by_item : (x : AnyItem) → IsAnySound bits x → IsAnyReached bits x (fragment_at p h.layout k) → slice_index_or h.layout k 0 < length (any_choices bits x)
          → item_choice p h.layout k ≡ slice_index_or (any_choices bits x) (slice_index_or h.layout k 0) no_choice
          → length (any_bytes bits x (fragment_at p h.layout k)) ≡ image_length p h.layout k
      by_item (Listed q) well reached in_range is =
          fragment-length laws.targets laws.forms bits q.instr (fragment_at p h.layout k) reached.1
          ∙ (ap (λ (c : Choice). form_length bits q.instr c.form) is
          ∙ (sym (choice-length bits q.instr (slice_index_or h.layout k 0) in_range) ∙ ap (λ (c : Choice). c.len) (sym is)))
      by_item (Unlisted u) well reached in_range is =
          let inside : StandsInside (length u.bytes.items) u.shape.relative = subst (λ (n : ℕ). StandsInside n u.shape.relative) (sym well.2) well.3 in
          own-length bits (place p h.layout k) u.shape.len (fragment_at p h.layout k).goal u.shape.relative u.bytes.items inside
          ∙ (well.2 ∙ ap (λ (c : Choice). c.len) (sym (is ∙ only (unlisted_choice bits u.shape) (slice_index_or h.layout k 0) in_range)))

  -- ---- one behind another

  abbrev g : ℕ → List ℕ
  g k = any_bytes bits (any_at items k) (fragment_at p h.layout k)

  -- the bytes of the first instructions are as many as their forms together
  sum-is : (k : ℕ) → k ≤ length items → length (flat_map g (range_with_len 0 k)) ≡ total (image_length p h.layout) k
  sum-is zero le = refl
  sum-is (suc k) le =
      ap length (more g k)
      ∙ (length-append (flat_map g (range_with_len 0 k)) (g k)
      ∙ (ap (λ (n : ℕ). n + length (g k)) (sum-is k (omega arith)) ∙ ap (λ (n : ℕ). total (image_length p h.layout) k + n) (bytes-length k (omega arith))))

  place-is : (k : ℕ) → k < length items → place p h.layout k ≡ new + total (image_length p h.layout) k
  place-is k lt =
      ap (λ (q : BlockPlan). place q h.layout k) (plan-is bits items goals new)
      ∙ (rw (lt-ltb k (length items) lt) (omega arith)
      ∙ ap (λ (q : BlockPlan). new + total (image_length q h.layout) k) (sym (plan-is bits items goals new)))

  -- **each stands at its place**
  pub stands : (k : ℕ) → k < length items → AnyStandsIn bits items p new m.bytes h.layout k
  unfolding any_block_bytes
  stands k lt =
      let tail = gap_bytes p h.layout 0 ++ slot_bytes (slots_of p h.layout 0) in
      let front = flat_map g (range_with_len 0 k) in
      let back = flat_map g (range_with_len (k + 1) (length items - (k + 1))) in
      let parts : m.bytes ≡ front ++ (g k ++ (back ++ tail)) = h.bytes ∙ split g k (length items) tail lt in
      let size = bytes-length k lt in
      let at = place-is k lt in
      let before = sum-is k (omega arith) in
      let offset : place p h.layout k - new ≡ length front = omega (arith, at, before) in
      record {
        from = omega (arith, at);
        len = size;
        bytes =
            ap (λ (xs : List ℕ). take (image_length p h.layout k) (drop (place p h.layout k - new) xs)) parts
            ∙ (ap (λ (n : ℕ). take (image_length p h.layout k) (drop n (front ++ (g k ++ (back ++ tail))))) offset
            ∙ (ap (take (image_length p h.layout k)) (drop-append_seam front (g k ++ (back ++ tail)))
            ∙ (ap (λ (n : ℕ). take n (g k ++ (back ++ tail))) (sym size) ∙ take-append_seam (g k) (back ++ tail))));
      }

-- **of moved code each instruction stands at its place**
pub all-stand : AnyLawsBelow → AllStandAt
all-stand laws bits old bytes new m moved k lt =
    stands laws bits m.items (any_goals bits m.items) new (lists_of m) (sound bits old bytes m.items moved.are.end [] moved.are.reads) moved.moved k lt
