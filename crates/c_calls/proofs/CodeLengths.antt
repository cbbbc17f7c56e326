-- The code of a moved block is as long as its images: up to where its gap and slots begin.
use Rattle.std.proofs.Common.{◌≡◌, ℕ, suc, ◌+◌, ◌-◌, ◌%◌, ◌^◌, ◌<◌, ◌≤◌, List, length, get_or, inl, inr, sym, ap, ◌∙◌, arith}
use Rattle.std.specs.Prelude.{◌==◌, if◌then◌else◌}
use Rattle.std.proofs.lemmas.Bool.{cases_eq, eq-eqb, ne_eqb, cond-true, cond-false}
use Rattle.std.proofs.lemmas.List.FromFn.{get_or-map-range_with_len}
use Rattle.x86_values.specs.declared.Bits.{Bits}
use Rattle.branch_sizes.specs.declared.plan.BlockSpan.{BlockSpan}
use Rattle.branch_sizes.specs.declared.plan.Goal.{Goal}
use Rattle.branch_sizes.specs.declared.plan.Form.{Form}
use Rattle.branch_sizes.specs.declared.plan.Form.TheVariants.{Itself}
use Rattle.branch_sizes.specs.Layout.{IsLayout, total, block_number, first_of_block, span_at, item_choice, image_length, place}
use Rattle.branch_sizes.proofs.Totals.{total_rises, first_of_end, block_at}
use Rattle.move_goals.specs.BranchForms.Images.{form_length}
use Rattle.move_goals.specs.declared.items.Placed.{Placed}
use Rattle.move_goals.specs.Items.{item_at, AreSpansOf}
use Rattle.move_goals.specs.Plan.{plan_with}
use Rattle.branch_sizes.specs.MoveLayout.Laid.{images_end}
use Rattle.block_encoder.specs.Facts.{FragmentFacts}
use Rattle.block_encoder.specs.Moved.{MovedLists, AreListsOf}
use Rattle.block_encoder.proofs.Chosen.{choice-length}
use Rattle.c_calls.specs.Moving.{code_len}

-- a block has its items among all
pub block_within : (items : List Placed) (spans : List BlockSpan) → AreSpansOf items spans → (b : ℕ) → b < length spans →
    first_of_block spans b + (span_at spans b).count ≤ length items
block_within items spans of b lt =
    omega (arith, total_rises (λ n. (span_at spans n).count) (suc b) (length spans) lt, first_of_end spans, of.counts)

-- no items have no images
none_there : (first count base : ℕ) (f : ℕ → ℕ) → count ≡ 0 → 0 ≡ base + (f (first + count) - f first) - base
none_there first count base f e =
    let same : f (first + count) ≡ f first = ap f (omega (arith, e)) in
    omega (arith, same)

module _ (fragments : FragmentFacts) (bits : Bits) (items : List Placed) (spans : List BlockSpan) (goals : ℕ → Goal) (of : AreSpansOf items spans)
    (layout : List ℕ) (is : IsLayout (plan_with bits spans items goals) layout) where
  -- the image of an item is as long as its form says
  image : (k : ℕ) → k < length items → image_length (plan_with bits spans items goals) layout k
      ≡ form_length bits (item_at items k).instr (item_choice (plan_with bits spans items goals) layout k).form
  image k lt =
      let choice = fragments.choice-is bits spans items goals layout is k lt in
      let some = fragments.choice-below bits spans items goals layout is k lt in
      let long = choice-length bits (item_at items k).instr (get_or layout k 0) some in
      ap (λ c. c.len) choice ∙ (long ∙ ap (λ c. form_length bits (item_at items k).instr c.form) (sym choice))

  -- the images of each block end where the call says
  pub code-ends : (m : MovedLists) → AreListsOf bits items (plan_with bits spans items goals) layout m → (b : ℕ) → b < length spans →
      code_len bits items (first_of_block spans b) (span_at spans b).count (span_at spans b).new_base m.starts m.forms
      ≡ (images_end (plan_with bits spans items goals) layout b - (span_at spans b).new_base) % 2 ^ 64
  unfolding code_len images_end
  code-ends m lists b lt =
      let first = first_of_block spans b in
      let span = span_at spans b in
      let last = first + span.count - 1 in
      let inside = block_within items spans of b lt in
      let spans_are = fragments.plan-spans bits spans items goals in
      let start = get_or m.starts last 0 in
      let form : Form = get_or m.forms last Itself in
      let length_of = total (image_length (plan_with bits spans items goals) layout) in
      let code : ℕ = if span.count == 0 then 0 else (start - span.new_base + form_length bits (item_at items last).instr form) % 2 ^ 64 in
      let images : ℕ = (span.new_base + (length_of (first + span.count) - length_of first) - span.new_base) % 2 ^ 64 in
      let ss : List BlockSpan → ℕ = λ xs. ((span_at xs b).new_base + (length_of (first_of_block xs b + (span_at xs b).count) - length_of (first_of_block xs b)) - span.new_base) % 2 ^ 64 in
      let there : ss (plan_with bits spans items goals).spans ≡ images = ap ss spans_are in
      let same : code ≡ images =
      elim (cases_eq span.count 0) [
        | inl none ↦ cond-true (span.count == 0) 0 _ (eq-eqb span.count 0 none) ∙ ap (λ n. n % 2 ^ 64) (none_there first span.count span.new_base length_of none)
        | inr some ↦ (
            let below : last < length items = omega (arith, inside, some) in
            let number = block_at spans b last lt (omega (arith, some)) (omega (arith, some)) in
            let at : start ≡ place (plan_with bits spans items goals) layout last =
            ap (λ (xs : List ℕ). get_or xs last 0) lists.starts
            ∙ get_or-map-range_with_len (place (plan_with bits spans items goals) layout) 0 (length items) last last 0 below (omega arith) in
            let formed : form ≡ (item_choice (plan_with bits spans items goals) layout last).form =
            ap (λ (xs : List Form). get_or xs last Itself) lists.forms
            ∙ get_or-map-range_with_len (λ k. (item_choice (plan_with bits spans items goals) layout k).form) 0 (length items) last last Itself below (omega arith) in
            let P : List BlockSpan → ℕ → ℕ = λ xs n. (span_at xs n).new_base + (length_of last - length_of (first_of_block xs n)) in
            let stands : place (plan_with bits spans items goals) layout last ≡ span.new_base + (length_of last - length_of first) =
            ap (λ (xs : List BlockSpan). P xs (block_number xs last)) spans_are ∙ ap (P spans) number in
            let long : form_length bits (item_at items last).instr form ≡ image_length (plan_with bits spans items goals) layout last =
            ap (form_length bits (item_at items last).instr) formed ∙ sym (image last below) in
            let next : first + span.count ≡ suc last = omega (arith, some) in
            let whole : length_of (first + span.count) ≡ length_of last + image_length (plan_with bits spans items goals) layout last = ap length_of next in
            let before = total_rises (image_length (plan_with bits spans items goals) layout) first last (omega (arith, some)) in
            let sum : start - span.new_base + form_length bits (item_at items last).instr form ≡ span.new_base + (length_of (first + span.count) - length_of first) - span.new_base =
            omega (arith, at, stands, long, whole, before) in
            cond-false (span.count == 0) 0 _ (ne_eqb span.count 0 some) ∙ ap (λ n. n % 2 ^ 64) sum)
      ] in
      same ∙ sym there
