-- The images of a block in a layout: their bytes stand one behind another, and are read as their instructions.
use Rattle.std.proofs.Common.{◌≡◌, ℕ, ◌+◌, ◌<◌, ◌≤◌, List, [], length, Option, Some, None, refl, ap, sym, ◌∙◌, subst, arith}
use Rattle.std.specs.Prelude.{IsSome, unwrap_or}
use Rattle.std.specs.List.{flat_map, range_with_len}
use Rattle.x86_values.specs.declared.Bits.{Bits}
use Rattle.x86_values.specs.Wrapping.{modulo_width}
use Rattle.branch_sizes.specs.declared.plan.BlockSpan.{BlockSpan}
use Rattle.branch_sizes.specs.declared.plan.Goal.{Goal}
use Rattle.branch_sizes.specs.Layout.{IsLayout, first_of_block, span_at, image_length, place}
use Rattle.move_goals.specs.declared.items.Placed.{Placed}
use Rattle.move_goals.specs.Items.{AreSpansOf, ArePlaced, item_at}
use Rattle.move_goals.specs.Plan.{plan_with}
use Rattle.branch_sizes.specs.MoveLayout.Laid.{fragment_at}
use Rattle.block_encoder.specs.Bytes.{bytes_from, image_at, image_bytes, bytes_at, block_images}
use Rattle.block_encoder.specs.Read.{image_instrs, IsReadAsImages}
use Rattle.block_encoder.specs.LawsBelow.{MovedLawsBelow}
use Rattle.block_encoder.proofs.Sweeping.{HaveFour, StandAt, spellings-length, spellings-sweep, images-joined, images-have_four}
use Rattle.block_encoder.proofs.Pieces.{spelled-four, image-four}
use Rattle.block_encoder.proofs.Places.{place_in, place-first, place-next, place-is, in_block-below}
use Rattle.block_encoder.proofs.Chosen.{fragment-length, fragment-image_length, fragment-place}

some_or : (o : Option (List ℕ)) → IsSome o → o ≡ Some (unwrap_or o [])
some_or None h = cc
some_or (Some x) h = refl

module _ (laws : MovedLawsBelow) where
  module _ (bits : Bits) (items : List Placed) (spans : List BlockSpan) (goals : ℕ → Goal) (layout : List ℕ) (l : IsLayout (plan_with bits spans items goals) layout) where
    -- ---- one image

    module _ (k : ℕ) (lt : k < length items) (some : IsSome (image_bytes bits items (plan_with bits spans items goals) layout k)) where
      -- the image of an item has bytes at its place
      pub bytes-are : bytes_from bits (place (plan_with bits spans items goals) layout k) (image_at bits items (plan_with bits spans items goals) layout k) ≡ Some (bytes_at bits items (plan_with bits spans items goals) layout k)
      bytes-are =
          subst (λ (at : ℕ). bytes_from bits at (image_at bits items (plan_with bits spans items goals) layout k) ≡ Some (bytes_at bits items (plan_with bits spans items goals) layout k))
          (fragment-place bits spans items goals layout l k lt)
          (some_or (image_bytes bits items (plan_with bits spans items goals) layout k) some)

      -- the bytes of an image are as many as the image's length
      pub bytes-length : length (bytes_at bits items (plan_with bits spans items goals) layout k) ≡ image_length (plan_with bits spans items goals) layout k
      bytes-length =
          let fragment = fragment_at (plan_with bits spans items goals) layout k in
          let i = (item_at items k).instr in
          spellings-length laws bits (place (plan_with bits spans items goals) layout k) (image_at bits items (plan_with bits spans items goals) layout k) (bytes_at bits items (plan_with bits spans items goals) layout k) bytes-are
          ∙ (laws.forms.image_of-length bits i fragment.form fragment.place fragment.goal fragment.slot
          ∙ (sym (fragment-length bits spans items goals layout l k lt) ∙ fragment-image_length bits spans items goals layout l k lt))

    -- ---- a block

    module _ (s : AreSpansOf items spans) (placed : ArePlaced bits items) (b : ℕ) (bl : b < length spans)
        (some : (k : ℕ) → k < length items → IsSome (image_bytes bits items (plan_with bits spans items goals) layout k)) where
      item-below : (k : ℕ) → first_of_block spans b ≤ k → k < first_of_block spans b + (span_at spans b).count → k < length items
      item-below k from below = omega (arith, in_block-below laws spans b k bl from below, s.counts)

      stand-at : (k : ℕ) → first_of_block spans b ≤ k → k < first_of_block spans b + (span_at spans b).count
          → StandAt bits (image_at bits items (plan_with bits spans items goals) layout) (bytes_at bits items (plan_with bits spans items goals) layout) (place_in (plan_with bits spans items goals) layout b) k
      unfolding plan_with
      stand-at k from below =
          let lt = item-below k from below in
          let here = place-is laws (plan_with bits spans items goals) layout b k bl from below in (
            subst (λ (at : ℕ). bytes_from bits at (image_at bits items (plan_with bits spans items goals) layout k) ≡ Some (bytes_at bits items (plan_with bits spans items goals) layout k)) here (bytes-are k lt (some k lt)),
            place-next laws (plan_with bits spans items goals) layout b k from ∙ ap (λ (n : ℕ). place_in (plan_with bits spans items goals) layout b k + n) (sym (bytes-length k lt (some k lt))),
          )

      four-at : (k : ℕ) → first_of_block spans b ≤ k → k < first_of_block spans b + (span_at spans b).count → HaveFour (image_at bits items (plan_with bits spans items goals) layout k)
      four-at k from below =
          let i = placed k (item-below k from below) in
          let fragment = fragment_at (plan_with bits spans items goals) layout k in
          image-four bits (item_at items k).instr fragment.form fragment.place fragment.goal fragment.slot
          (spelled-four bits (modulo_width bits (item_at items k).ip) i.bytes (item_at items k).instr i.spelled)

      -- **the images of a block are read as their instructions**
      pub block-read : IsReadAsImages bits items (plan_with bits spans items goals) layout b
      unfolding plan_with image_instrs block_images
      block-read =
          let first = first_of_block spans b in
          let count = (span_at spans b).count in
          let base = (span_at spans b).new_base in
          let joined = images-joined bits (image_at bits items (plan_with bits spans items goals) layout) (bytes_at bits items (plan_with bits spans items goals) layout) (place_in (plan_with bits spans items goals) layout b) first count stand-at in
          let begin : place_in (plan_with bits spans items goals) layout b first ≡ base + 0 = place-first (plan_with bits spans items goals) layout b ∙ omega arith in
          spellings-sweep laws bits base 0 (flat_map (image_at bits items (plan_with bits spans items goals) layout) (range_with_len first count))
          (flat_map (bytes_at bits items (plan_with bits spans items goals) layout) (range_with_len first count))
          (images-have_four (image_at bits items (plan_with bits spans items goals) layout) first count four-at)
          (subst (λ (at : ℕ). bytes_from bits at (flat_map (image_at bits items (plan_with bits spans items goals) layout) (range_with_len first count)) ≡ Some (flat_map (bytes_at bits items (plan_with bits spans items goals) layout) (range_with_len first count))) begin joined)
