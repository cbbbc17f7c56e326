-- Made code has one summary.
use Rattle.std.proofs.Common.{◌≡◌, ℕ, List, length, map, refl, sym, ap, ◌∙◌, subst, sum}
use Rattle.std.specs.List.{range_with_len}
use Rattle.x86_values.specs.declared.Bits.{Bits}
use Rattle.x86_values.specs.declared.Bits.TheVariants.{B64}
use Rattle.opcode_rows.specs.Sweep.{Item}
use Rattle.text_parts.specs.declared.style.Style.TheVariants.{Intel}
use Rattle.sweep.specs.SweepText.Listing.{listing}
use Rattle.sweep.specs.SweepText.Facts.{OneSweepFacts}
use Rattle.branch_sizes.specs.declared.plan.BlockSpan.{BlockSpan}
use Rattle.branch_sizes.specs.Plan.{BlockPlan}
use Rattle.branch_sizes.specs.Layout.{IsLeast, item_choice}
use Rattle.move_goals.specs.declared.items.Placed.{Placed}
use Rattle.move_goals.specs.Items.{one_span}
use Rattle.move_goals.specs.Plan.{plan_for}
use Rattle.block_encoder.specs.Bytes.{bytes_of_blocks}
use Rattle.block_encoder.specs.Moved.{MovedLists, IsMoved}
use Rattle.moving_run.specs.Code.{placed_in}
use Rattle.listing_run.specs.SampleRun.Generator.{sample_base, sample_code}
use Rattle.listing_run.specs.declared.sample_run.summary.Summary.{Summary}
use Rattle.listing_run.specs.SampleRun.Sample.{IsSample, moved_base, grown_count, summary_text}

module _ (least_unique : (p : BlockPlan) → (a b : List ℕ) → IsLeast p a → IsLeast p b → a ≡ b) where
  -- blocks are moved in one way
  moved_bytes : (bits : Bits) (items : List Placed) (spans : List BlockSpan) (m m' : MovedLists) → IsMoved bits items spans m → IsMoved bits items spans m' →
      m.bytes ≡ m'.bytes
  moved_bytes bits items spans m m' h k =
      let p = plan_for bits spans items in
      let same = least_unique p h.layout k.layout h.least k.least in
      h.lists.bytes ∙ (ap (λ (l : List ℕ). bytes_of_blocks bits items p l (length p.spans)) same ∙ sym k.lists.bytes)

  moved_forms : (bits : Bits) (items : List Placed) (spans : List BlockSpan) (m m' : MovedLists) → IsMoved bits items spans m → IsMoved bits items spans m' →
      m.forms ≡ m'.forms
  moved_forms bits items spans m m' h k =
      let p = plan_for bits spans items in
      let same = least_unique p h.layout k.layout h.least k.least in
      h.lists.forms ∙ (ap (λ (l : List ℕ). map (λ (k : ℕ). (item_choice p l k).form) (range_with_len 0 (length items))) same ∙ sym k.lists.forms)

  module _ (one : OneSweepFacts) where
    -- **so many instructions have one text**
    pub one-text : (n : ℕ) (s t : Summary) → IsSample n s → IsSample n t → summary_text s ≡ summary_text t
    unfolding summary_text
    one-text n s t h k =
        let same = one.sweep_unique B64 sample_base (sample_code n) h.items k.items h.sweep k.sweep in
        let placed = placed_in sample_base k.items in
        let M : List Item → Type 0 = λ xs. IsMoved B64 (placed_in sample_base xs) (one_span (placed_in sample_base xs) moved_base) h.moved in
        let there = subst M same h.is_moved in
        let bytes = moved_bytes B64 placed (one_span placed moved_base) h.moved k.moved there k.is_moved in
        let forms = moved_forms B64 placed (one_span placed moved_base) h.moved k.moved there k.is_moved in
        let e1 : s.instructions ≡ t.instructions = h.instructions ∙ sym k.instructions in
        let e2 : s.bytes ≡ t.bytes = h.bytes ∙ sym k.bytes in
        let e3 : s.text ≡ t.text = h.text ∙ (ap (λ (xs : List Item). length (listing B64 sample_base Intel xs)) same ∙ sym k.text) in
        let e4 : s.moved ≡ t.moved = h.moved_bytes ∙ (ap length bytes ∙ sym k.moved_bytes) in
        let e5 : s.grown ≡ t.grown
        = h.grown_items
        ∙ (ap (λ (xs : List Item). grown_count (placed_in sample_base xs) h.moved.forms) same ∙ (ap (grown_count placed) forms ∙ sym k.grown_items))
        in
        let e6 : s.sum ≡ t.sum = h.sum_is ∙ (ap sum bytes ∙ sym k.sum_is) in
        rw (e1, e2, e3, e4, e5, e6) refl
