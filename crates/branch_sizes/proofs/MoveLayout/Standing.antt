-- Where the images of a block stand: one behind the other, from the new base to the end of the images.
use Rattle.std.proofs.Common.{◌≡◌, ℕ, ◌+◌, ◌-◌, ◌<◌, ◌≤◌, List, length, arith, add-one, refl, ap}
use Rattle.branch_sizes.specs.Plan.{BlockPlan, IsWellFormed}
use Rattle.branch_sizes.specs.Facts.{BlockFacts, TotalFacts}
use Rattle.branch_sizes.specs.Layout.{total, block_number, first_of_block, span_at, image_length, place}
use Rattle.branch_sizes.specs.MoveLayout.Laid.{images_end}

module _ (blocks : BlockFacts) (totals : TotalFacts) (p : BlockPlan) (w : IsWellFormed p) (layout : List ℕ) (b : ℕ) where
  -- the images end at their base where there are none
  pub images-none : (span_at p.spans b).count ≡ 0 → images_end p layout b ≡ (span_at p.spans b).new_base
  unfolding images_end
  images-none e =
      let same : first_of_block p.spans b + (span_at p.spans b).count ≡ first_of_block p.spans b = omega arith in
      omega (arith, ap (total (image_length p layout)) same)

  -- item k, which is item i of block b
  module _ (i k : ℕ) (bl : b < length p.spans) (il : i < (span_at p.spans b).count) (e : k ≡ first_of_block p.spans b + i) where
    -- the item is one of the plan
    pub item-below : k < length p.items
    item-below = omega (arith, e, blocks.item_below p.spans b i bl il, w.counts)

    -- the item belongs to the block
    pub block-is : block_number p.spans k ≡ b
    block-is = blocks.block_at p.spans b k bl (omega (arith, e)) (omega (arith, e))

    -- the place of an item is the block's base plus the lengths of the images before it
    pub place-is : place p layout k ≡ (span_at p.spans b).new_base
        + (total (image_length p layout) k - total (image_length p layout) (first_of_block p.spans b))
    place-is = ap (λ n. (span_at p.spans n).new_base
        + (total (image_length p layout) k - total (image_length p layout) (first_of_block p.spans n))) block-is

    first_rises : total (image_length p layout) (first_of_block p.spans b) ≤ total (image_length p layout) k
    first_rises = totals.total_rises (image_length p layout) (first_of_block p.spans b) k (omega arith)

    behind : total (image_length p layout) (k + 1) ≡ total (image_length p layout) k + image_length p layout k
    behind = rw add-one refl

    -- each image ends at or before the end of the images
    pub place-within : place p layout k + image_length p layout k ≤ images_end p layout b
    unfolding images_end
    place-within =
        let up = totals.total_rises (image_length p layout) (k + 1) (first_of_block p.spans b + (span_at p.spans b).count) (omega arith) in
        omega (arith, place-is, first_rises, behind, up)

    -- the last one ends there
    pub place-last : i + 1 ≡ (span_at p.spans b).count → place p layout k + image_length p layout k ≡ images_end p layout b
    unfolding images_end
    place-last last =
        let same : k + 1 ≡ first_of_block p.spans b + (span_at p.spans b).count = omega arith in
        omega (arith, place-is, first_rises, behind, ap (total (image_length p layout)) same)
