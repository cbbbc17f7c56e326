-- A block is at no place longer than its images in their longest forms, a gap, and a slot for each that may need one.
use Rattle.std.proofs.Common.{◌≡◌, ℕ, zero, suc, ◌+◌, ◌-◌, ◌*◌, ◌/◌, ◌<◌, ◌≤◌, Bool, true, false, List, [], ◌∷◌, ◌++◌, length, take, get_or, refl, sym, subst, ap, ◌∙◌, zero-add, arith}
use Rattle.std.specs.Prelude.{◌==◌, ◌||◌, if◌then◌else◌, cond}
use Rattle.std.proofs.lemmas.Bool.{ne_eqb}
use Rattle.std.proofs.lemmas.List.{append-nil, length-append}
use Rattle.std.proofs.lemmas.List.Sums.{sum_by_more}
use Rattle.std.proofs.Math.Seq.{take-length}
use Rattle.x86_values.specs.declared.Bits.{Bits}
use Rattle.branch_sizes.specs.declared.plan.Choice.{Choice}
use Rattle.branch_sizes.specs.declared.plan.Goal.{Goal}
use Rattle.branch_sizes.specs.Plan.{no_choice}
use Rattle.branch_sizes.specs.Layout.{IsLayout, total, image_length}
use Rattle.branch_sizes.specs.MoveLayout.Laid.{has_far_form, is_far_at, goal_address, with_goal, far_goals, slots_of, next_eighth, images_end, new_end}
use Rattle.move_goals.specs.BranchForms.Choices.{choices_of}
use Rattle.move_goals.specs.declared.items.Placed.{Placed}
use Rattle.move_goals.specs.Items.{item_at, no_item, one_span}
use Rattle.move_goals.specs.Plan.{plan_with}
use Rattle.block_encoder.specs.Bytes.{block_bytes, bytes_of_blocks}
use Rattle.block_encoder.specs.Moved.{MovedLists}
use Rattle.block_encoder.specs.ByPlan.{IsMovedBy}
use Rattle.detour.specs.LawsBelow.{DetourLawsBelow}
use Rattle.detour.specs.declared.start.MoveRule.{MoveRule}
use Rattle.detour.specs.Taken.{moved_count}
use Rattle.detour.specs.Trampoline.{IsTrampoline, block_items, follow_count, trampoline_goal_at, plan_at}
use Rattle.detour.specs.Lengths.{greatest_length, may_be_far, images_length, slots_count, slots_length, block_length}

-- ---- the forms of an instruction

-- none is longer than the longest
form_short : (cs : List Choice) (f : ℕ) → f < length cs → (get_or cs f no_choice).len ≤ greatest_length cs
form_short [] f lt = absurd (omega arith)
form_short (c ∷ cs) zero lt = omega arith
form_short (c ∷ cs) (suc f) lt = omega (arith, form_short cs f (omega arith))

or_left : (a b : Bool) → a ≡ true → (a || b) ≡ true
or_left true b h = refl
or_left false b h = absurd cc

or_right : (a b : Bool) → b ≡ true → (a || b) ≡ true
or_right true b h = refl
or_right false b h = h

-- one that is far shows that one may be
form_far : (cs : List Choice) (f : ℕ) → f < length cs → has_far_form (get_or cs f no_choice).form ≡ true → may_be_far cs ≡ true
form_far [] f lt far = absurd (omega arith)
form_far (c ∷ cs) zero lt far = or_left (has_far_form c.form) (may_be_far cs) far
form_far (c ∷ cs) (suc f) lt far = or_right (has_far_form c.form) (may_be_far cs) (form_far cs f (omega arith) far)

cond_rises : (a b : Bool) → (a ≡ true → b ≡ true) → cond a 1 0 ≤ cond b 1 0
cond_rises false b h = omega arith
cond_rises true true h = omega arith
cond_rises true false h = let n = h refl in absurd cc

-- ---- slots

goal_more : (seen : Bool) (goals : List ℕ) (goal : ℕ) → length (if seen then goals ++ goal ∷ [] else goals) ≤ length goals + 1
goal_more true goals goal = omega (arith, length-append goals (goal ∷ []))
goal_more false goals goal = omega arith

-- one more form adds at most its goal
with_goal_few : (goals : List ℕ) (far : Bool) (goal : ℕ) → length (with_goal goals far goal) ≤ length goals + cond far 1 0
with_goal_few goals false goal = omega arith
with_goal_few goals true goal = goal_more _ goals goal

-- ---- ends

-- where images of so many bytes from an address on end, with so many slots
abbrev end_with : ℕ → ℕ → ℕ → ℕ
end_with at bytes slots = if slots == 0 then at + bytes else next_eighth (at + bytes) + 8 * slots

end_suc : (at bytes n : ℕ) → end_with at bytes (suc n) ≡ (at + bytes + 7) / 8 * 8 + 8 * suc n
end_suc at bytes n =
    ap (λ (b : Bool). if b then at + bytes else (at + bytes + 7) / 8 * 8 + 8 * suc n) (ne_eqb (suc n) 0 (λ e. absurd (omega (arith, e))))

-- a slot more, with the gap in front
pub slots_suc : (n : ℕ) → slots_length (suc n) ≡ 7 + 8 * suc n
slots_suc n = ap (λ (b : Bool). if b then 0 else 7 + 8 * suc n) (ne_eqb (suc n) 0 (λ e. absurd (omega (arith, e))))

end_room : (at a b m n : ℕ) → a ≤ b → m ≤ n → end_with at a m ≤ at + (b + slots_length n)
end_room at a b zero n le few = omega (arith, le)
end_room at a b (suc m) zero le few = absurd (omega (arith, few))
end_room at a b (suc m) (suc n) le few =
    let e = end_suc at a m in
    let s = slots_suc n in
    omega (arith, e, s, le, few)

-- ---- a block

one_end : (bits : Bits) (items : List Placed) (at : ℕ) (goals : ℕ → Goal) (layout : List ℕ)
    → new_end (plan_with bits (one_span items at) items goals) layout 0
    ≡ end_with at (total (image_length (plan_with bits (one_span items at) items goals) layout) (length items))
    (length (far_goals (plan_with bits (one_span items at) items goals) layout 0 (length items)))
unfolding plan_with new_end images_end slots_of
one_end bits items at goals layout =
    let f = image_length (plan_with bits (one_span items at) items goals) layout in
    let slots = length (far_goals (plan_with bits (one_span items at) items goals) layout 0 (length items)) in
    let e : at + (total f (0 + length items) - 0) ≡ at + total f (length items) =
    ap (λ (n : ℕ). at + (total f n - 0)) (zero-add (length items)) ∙ omega arith in
    ap (λ (n : ℕ). if slots == 0 then n else next_eighth n + 8 * slots) e

-- the bytes of the one block are all
one_bytes : (bits : Bits) (items : List Placed) (at : ℕ) (goals : ℕ → Goal) (layout : List ℕ)
    → bytes_of_blocks bits items (plan_with bits (one_span items at) items goals) layout (length (plan_with bits (one_span items at) items goals).spans)
    ≡ block_bytes bits items (plan_with bits (one_span items at) items goals) layout 0
unfolding plan_with
one_bytes bits items at goals layout = append-nil (block_bytes bits items (plan_with bits (one_span items at) items goals) layout 0)

next_is : (n : ℕ) → n + 1 ≡ suc n
next_is n = omega arith

module _ (laws : DetourLawsBelow) (bits : Bits) (items : List Placed) (at : ℕ) (goals : ℕ → Goal) (layout : List ℕ)
    (fit : IsLayout (plan_with bits (one_span items at) items goals) layout) where
  -- an image is not longer than the longest of its instruction
  image_short : (k : ℕ) → k < length items
      → image_length (plan_with bits (one_span items at) items goals) layout k ≤ greatest_length (choices_of bits (item_at items k).instr)
  image_short k lt =
      let is = ap (λ (c : Choice). c.len) (laws.fragments.choice-is bits (one_span items at) items goals layout fit k lt) in
      let short = form_short (choices_of bits (item_at items k).instr) (get_or layout k 0)
      (laws.fragments.choice-below bits (one_span items at) items goals layout fit k lt) in
      omega (arith, is, short)

  -- nor are the first of them together
  images_short : (n : ℕ) → n ≤ length items
      → total (image_length (plan_with bits (one_span items at) items goals) layout) n ≤ images_length bits (take n items)
  images_short zero le = omega arith
  images_short (suc n) le =
      let lt : n < length items = omega (arith, le) in
      let more : images_length bits (take (suc n) items) ≡ images_length bits (take n items) + greatest_length (choices_of bits (item_at items n).instr) =
      subst (λ (j : ℕ). images_length bits (take j items) ≡ images_length bits (take n items) + greatest_length (choices_of bits (item_at items n).instr)) (next_is n)
      (sum_by_more (λ (p : Placed). greatest_length (choices_of bits p.instr)) items n no_item lt) in
      omega (arith, more, image_short n lt, images_short n (omega (arith, le)))

  -- what is far may be
  far_may : (k : ℕ) → k < length items → is_far_at (plan_with bits (one_span items at) items goals) layout k ≡ true
      → may_be_far (choices_of bits (item_at items k).instr) ≡ true
  far_may k lt far =
      form_far (choices_of bits (item_at items k).instr) (get_or layout k 0) (laws.fragments.choice-below bits (one_span items at) items goals layout fit k lt)
      (sym (ap (λ (c : Choice). has_far_form c.form) (laws.fragments.choice-is bits (one_span items at) items goals layout fit k lt)) ∙ far)

  -- there are no more slots than instructions that may need one
  slots_few : (n : ℕ) → n ≤ length items
      → length (far_goals (plan_with bits (one_span items at) items goals) layout 0 n) ≤ slots_count bits (take n items)
  slots_few zero le = omega arith
  slots_few (suc n) le =
      let lt : n < length items = omega (arith, le) in
      let p = plan_with bits (one_span items at) items goals in
      let more : slots_count bits (take (suc n) items) ≡ slots_count bits (take n items) + cond (may_be_far (choices_of bits (item_at items n).instr)) 1 0 =
      subst (λ (j : ℕ). slots_count bits (take j items) ≡ slots_count bits (take n items) + cond (may_be_far (choices_of bits (item_at items n).instr)) 1 0) (next_is n)
      (sum_by_more (λ (q : Placed). cond (may_be_far (choices_of bits q.instr)) 1 0) items n no_item lt) in
      let step : length (far_goals p layout 0 (suc n)) ≤ length (far_goals p layout 0 n) + cond (is_far_at p layout (0 + n)) 1 0 =
      with_goal_few (far_goals p layout 0 n) (is_far_at p layout (0 + n)) (goal_address p layout (0 + n)) in
      let here : cond (is_far_at p layout (0 + n)) 1 0 ≤ cond (may_be_far (choices_of bits (item_at items n).instr)) 1 0 =
      subst (λ (j : ℕ). cond (is_far_at p layout j) 1 0 ≤ cond (may_be_far (choices_of bits (item_at items n).instr)) 1 0) (sym (zero-add n))
      (cond_rises (is_far_at p layout n) (may_be_far (choices_of bits (item_at items n).instr)) (far_may n lt)) in
      omega (arith, more, step, here, slots_few n (omega (arith, le)))

  -- so the block ends no later
  end_short : new_end (plan_with bits (one_span items at) items goals) layout 0 ≤ at + block_length bits items
  unfolding block_length
  end_short =
      let p = plan_with bits (one_span items at) items goals in
      let all : take (length items) items ≡ items = take-length items in
      let images : total (image_length p layout) (length items) ≤ images_length bits items =
      subst (λ (xs : List Placed). total (image_length p layout) (length items) ≤ images_length bits xs) all (images_short (length items) (omega arith)) in
      let slots : length (far_goals p layout 0 (length items)) ≤ slots_count bits items =
      subst (λ (xs : List Placed). length (far_goals p layout 0 (length items)) ≤ slots_count bits xs) all (slots_few (length items) (omega arith)) in
      omega (
        arith,
        one_end bits items at goals layout,
        end_room at (total (image_length p layout) (length items)) (images_length bits items) (length (far_goals p layout 0 (length items))) (slots_count bits items)
            images slots,
      )

module _ (laws : DetourLawsBelow) where
  -- **a moved block is not longer**
  pub block_within : (bits : Bits) (items : List Placed) (at : ℕ) (goals : ℕ → Goal) (m : MovedLists)
      → IsMovedBy bits items (plan_with bits (one_span items at) items goals) m → length m.bytes ≤ block_length bits items
  block_within bits items at goals m moved =
      let spans = one_span items at in
      let ends = laws.moved.ends bits items spans goals (laws.plans.one_span-of items at) m moved 0 (omega arith) in
      let bytes = ap length (moved.lists.bytes ∙ one_bytes bits items at goals moved.layout) in
      let short = end_short laws bits items at goals moved.layout moved.least.closed.is_layout in
      omega (arith, ends, bytes, short)

  -- **nor is the block of a trampoline**
  pub trampoline_within : (bits : Bits) (ip : ℕ) (items : List Placed) (place : ℕ) (rule : MoveRule) (m : MovedLists)
      → IsTrampoline bits ip items place rule m → length m.bytes ≤ block_length bits (block_items rule bits ip items)
  unfolding plan_at
  trampoline_within bits ip items place rule m moved =
      let bs = block_items rule bits ip items in
      block_within bits bs place (trampoline_goal_at rule bs (moved_count items) (follow_count rule bits ip items)) m moved
