-- The places of the items of a block, and where the block ends.
use Rattle.std.proofs.Common.{◌≡◌, ℕ, ◌+◌, ◌-◌, ◌<◌, ◌≤◌, List, length, refl, ap, arith, add-one}
use Rattle.std.specs.Prelude.{sum_by}
use Rattle.branch_sizes.specs.declared.plan.BlockSpan.{BlockSpan}
use Rattle.branch_sizes.specs.Plan.{BlockPlan}
use Rattle.branch_sizes.specs.Layout.{total, first_of_block, span_at, image_length, place}
use Rattle.branch_sizes.specs.MoveLayout.Laid.{images_end}
use Rattle.block_encoder.specs.LawsBelow.{MovedLawsBelow}

module _ (p : BlockPlan) (layout : List ℕ) (b : ℕ) where
  -- the place of an item by its block; behind the last one the end of the images
  unfoldable pub place_in : ℕ → ℕ
  place_in k = (span_at p.spans b).new_base + (total (image_length p layout) k - total (image_length p layout) (first_of_block p.spans b))

  -- the first item of a block lies at the block's new base
  pub place-first : place_in (first_of_block p.spans b) ≡ (span_at p.spans b).new_base
  unfolding place_in
  place-first = omega arith

  -- after the last item of a block its images end
  pub place-last : place_in (first_of_block p.spans b + (span_at p.spans b).count) ≡ images_end p layout b
  unfolding place_in images_end
  place-last = refl

module _ (laws : MovedLawsBelow) where
  module _ (p : BlockPlan) (layout : List ℕ) (b : ℕ) where
    -- **the next item stands behind the image**
    pub place-next : (k : ℕ) → first_of_block p.spans b ≤ k → place_in p layout b (k + 1) ≡ place_in p layout b k + image_length p layout k
    unfolding place_in
    place-next k from =
        let step : total (image_length p layout) (k + 1) ≡ total (image_length p layout) k + image_length p layout k = rw add-one refl in
        omega (arith, step, laws.totals.total_rises (image_length p layout) (first_of_block p.spans b) k from)

    -- places rise within a block
    pub place-rises : (j k : ℕ) → j ≤ k → place_in p layout b j ≤ place_in p layout b k
    unfolding place_in
    place-rises j k le = omega (arith, laws.totals.total_rises (image_length p layout) j k le)

    -- **an item of the block has this place**
    pub place-is : (k : ℕ) → b < length p.spans → first_of_block p.spans b ≤ k → k < first_of_block p.spans b + (span_at p.spans b).count → place p layout k ≡ place_in p layout b k
    unfolding place_in
    place-is k bl from below =
        ap (λ (n : ℕ). (span_at p.spans n).new_base + (total (image_length p layout) k - total (image_length p layout) (first_of_block p.spans n)))
        (laws.blocks.block_at p.spans b k bl from below)

  -- an item of a block is one of all items
  pub in_block-below : (spans : List BlockSpan) (b k : ℕ) → b < length spans → first_of_block spans b ≤ k → k < first_of_block spans b + (span_at spans b).count → k < sum_by (λ s. s.count) spans
  in_block-below spans b k bl from below =
      let i : ℕ = k - first_of_block spans b in
      omega (arith, laws.blocks.item_below spans b i bl (omega arith))
