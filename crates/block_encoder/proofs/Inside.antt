-- New ends inside the address space, and the places before them.
use Rattle.std.proofs.Common.{◌≡◌, ℕ, ◌+◌, ◌*◌, ◌/◌, ◌^◌, ◌<◌, ◌≤◌, Bool, true, false, List, length, Option, Some, None, refl, arith}
use Rattle.std.specs.Prelude.{sum_by, if◌then◌else◌, ◌==◌}
use Rattle.std.proofs.lemmas.Bool.{ltb-false}
use Rattle.x86_values.specs.declared.Bits.{Bits}
use Rattle.x86_values.specs.declared.Bits.TheVariants.{B16, B32, B64}
use Rattle.x86_values.specs.Wrapping.{width}
use Rattle.branch_sizes.specs.Plan.{BlockPlan}
use Rattle.branch_sizes.specs.Layout.{block_number, first_of_block, span_at, image_length, place}
use Rattle.move_goals.specs.Items.{passes, first_below, first_passing}
use Rattle.branch_sizes.specs.MoveLayout.Laid.{slots_of, images_end, new_end}
use Rattle.block_encoder.specs.Moved.{first_new_pass}
use Rattle.block_encoder.specs.LawsBelow.{MovedLawsBelow}
use Rattle.block_encoder.proofs.Places.{place-last, place-next, place-rises, place-is}

-- ---- ends

no_first : (end : ℕ → ℕ) (o : Option ℕ) → (elim o as (λ (x : Option ℕ). Option ℕ) [ Some b ↦ Some (end b) | None ↦ None ]) ≡ None → o ≡ None
no_first end None h = refl
no_first end (Some b) h = cc

behind_images : (empty : Bool) (images slots : ℕ) → images ≤ (if empty then images else (images + 7) / 8 * 8 + 8 * slots)
behind_images true images slots = omega arith
behind_images false images slots = omega arith

images_before : (p : BlockPlan) (layout : List ℕ) (b : ℕ) → images_end p layout b ≤ new_end p layout b
unfolding new_end
images_before p layout b = behind_images (length (slots_of p layout b) == 0) (images_end p layout b) (length (slots_of p layout b))

-- an address space has at most 2 to the 64 addresses
pub width-most : (bits : Bits) → 2 ^ width bits ≤ 2 ^ 64
width-most B16 = omega arith
width-most B32 = omega arith
width-most B64 = omega arith

module _ (laws : MovedLawsBelow) where
  -- if no end passes the address space, each end is inside it
  pub end_within : (bits : Bits) (end : ℕ → ℕ) (n : ℕ) → first_passing bits end n ≡ None → (b : ℕ) → b < n → end b ≤ 2 ^ width bits
  end_within bits end n h b lt =
      let none = no_first end (first_below (λ b. passes bits (end b)) n) h in
      ltb-false (2 ^ width bits) (end b) (laws.firsts.none_below (λ b. passes bits (end b)) n none b lt)

  module _ (bits : Bits) (p : BlockPlan) (layout : List ℕ) (inside : first_new_pass bits p layout ≡ None) where
    -- **the images of a block end inside the address space**
    pub images-within : (b : ℕ) → b < length p.spans → images_end p layout b ≤ 2 ^ width bits
    images-within b lt = omega (arith, images_before p layout b, end_within bits (new_end p layout) (length p.spans) inside b lt)

    -- **each image ends inside the address space**
    pub image-within : (k : ℕ) → k < sum_by (λ s. s.count) p.spans → place p layout k + image_length p layout k ≤ 2 ^ width bits
    image-within k lt =
        let b = block_number p.spans k in
        let bl = laws.blocks.block_below p.spans k lt in
        let from = laws.blocks.first_le p.spans k in
        let below = laws.blocks.within_block p.spans k lt in
        omega (
          arith,
          place-is laws p layout b k bl from below,
          place-next laws p layout b k from,
          place-rises laws p layout b (k + 1) (first_of_block p.spans b + (span_at p.spans b).count) (omega (arith, below)),
          place-last p layout b,
          images-within b bl,
        )
