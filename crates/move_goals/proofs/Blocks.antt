-- The blocks of some items: where an item stands in its block.
use Rattle.std.proofs.Common.{◌≡◌, ℕ, suc, ◌+◌, ◌-◌, ◌<◌, ◌≤◌, true, false, ◌||◌, List, length, ◌⊎◌, inl, inr, arith, sym, ap, ◌∙◌}
use Rattle.std.proofs.lemmas.Bool.{cases_lt, eq-eqb, ne_eqb, lt-ltb, le-ltb, lt-leb, le-leb, and_from, and_left, and_right}
use Rattle.std.specs.Prelude.{◌==◌, if◌then◌else◌, nat_le, nat_lt}
use Rattle.branch_sizes.specs.declared.plan.BlockSpan.{BlockSpan}
use Rattle.branch_sizes.specs.Layout.{block_number, span_at, first_of_block}
use Rattle.branch_sizes.specs.Facts.{BlockFacts}
use Rattle.move_goals.specs.declared.items.Placed.{Placed}
use Rattle.move_goals.specs.Items.{AreSpansOf, item_at, old_end, begins_block, is_in_order, block_old_end}
use Rattle.move_goals.specs.Goals.{is_in_block_of}
use Rattle.move_goals.specs.Starts.{is_between}

module _ (blocks : BlockFacts) (items : List Placed) (spans : List BlockSpan) (s : AreSpansOf items spans) where
  -- behind the last block all items have passed
  pub end_is : (b : ℕ) → b ≡ length spans → first_of_block spans b ≡ length items
  end_is b e = omega (arith, ap (first_of_block spans) e, blocks.first_of_end spans, s.counts)

  module _ (b start : ℕ) (bl : b < length spans) (e : start ≡ first_of_block spans b) where
    -- a block ends at or before the end of all items
    pub end_below : start + (span_at spans b).count ≤ length items
    end_below = omega (arith, e, blocks.first_below spans b bl, s.counts)

    -- where a block has not all items there is another one
    pub other_block : start + (span_at spans b).count - start < length items → 1 < length spans
    other_block less =
        elim (cases_lt 1 (length spans)) [
          | inl more ↦ more
          | inr few ↦
              let first : b ≡ 0 = omega arith in
              absurd (omega (arith, less, e, end_is (suc b) (omega (arith, bl)), ap (first_of_block spans) first))
        ]

    -- where its items have their first item
    first_is : (k : ℕ) → start ≤ k → k < start + (span_at spans b).count → first_of_block spans (block_number spans k) ≡ start
    first_is k le lt = ap (first_of_block spans) (blocks.block_at spans b k bl (omega (arith, e)) (omega (arith, e))) ∙ sym e

    -- the first item of a block is in order
    pub first_ordered : ((j : ℕ) → j < start → is_in_order spans items j ≡ true)
        → (j : ℕ) → j < start + 1 → j < start + (span_at spans b).count → is_in_order spans items j ≡ true
    first_ordered old j jl je =
        elim (cases_lt j start) [
          | inl below ↦ old j below
          | inr ge ↦
              let here : begins_block spans j ≡ true = eq-eqb _ _ (omega (arith, first_is j ge je)) in
              ap (λ t. t || ((item_at items j).ip == old_end (item_at items (j - 1)))) here
        ]

    -- no other one is the first
    pub begins_not : (k : ℕ) → start < k → k < start + (span_at spans b).count → begins_block spans k ≡ false
    begins_not k le lt = ne_eqb _ _ (λ same. omega (arith, first_is k (omega arith) lt, same))

    -- another one is not in order, if it begins elsewhere than the one before it ends
    pub disordered : (k : ℕ) → start < k → k < start + (span_at spans b).count
        → ((item_at items k).ip == old_end (item_at items (k - 1))) ≡ false → is_in_order spans items k ≡ false
    disordered k le lt apart =
        ap (λ t. t || ((item_at items k).ip == old_end (item_at items (k - 1)))) (begins_not k le lt) ∙ apart

    -- the old end of a block, from its span and its first item
    pub old_end_is : (r : ℕ)
        → r ≡ (if (span_at spans b).count == 0 then (span_at spans b).new_base else old_end (item_at items (start + (span_at spans b).count - 1)))
        → r ≡ block_old_end spans items b
    unfolding block_old_end
    old_end_is r h =
        h ∙ ap (λ n. if (span_at spans b).count == 0 then (span_at spans b).new_base else old_end (item_at items (n + (span_at spans b).count - 1))) e

    module _ (k : ℕ) (from : start ≤ k) (below : k < start + (span_at spans b).count) where
      number_is : block_number spans k ≡ b
      number_is = blocks.block_at spans b k bl (omega (arith, e)) (omega (arith, e))

      -- an item of no other block stands between the first item of the block and its end
      not_outside : (j : ℕ) → j < length items → (j < start) ⊎ (start + (span_at spans b).count ≤ j) → block_number spans j ≡ block_number spans k → ⊥
      not_outside j lt outside same =
          let at : block_number spans j ≡ b = same ∙ number_is in
          let low : start ≤ j = omega (arith, e, ap (first_of_block spans) at, blocks.first_le spans j) in
          let high : j < start + (span_at spans b).count = omega (
            arith,
            e,
            ap (first_of_block spans) at,
            ap (λ n. (span_at spans n).count) at,
            blocks.within_block spans j (omega (arith, lt, s.counts)),
          ) in
          elim outside [ inl l ↦ omega arith | inr g ↦ omega arith ]

      -- the items of the block of one of them are those from its first item on, below its end
      pub same_block : (j : ℕ) → j < length items → is_in_block_of spans k j ≡ is_between start (start + (span_at spans b).count) j
      same_block j lt =
          elim (cases_lt j start) [
            | inl l ↦
                ne_eqb (block_number spans j) (block_number spans k) (not_outside j lt (inl l))
                ∙ sym (and_left (nat_le start j) (nat_lt j (start + (span_at spans b).count)) (lt-leb start j l))
            | inr ge ↦ elim (cases_lt j (start + (span_at spans b).count)) [
              | inl l ↦
                  eq-eqb (block_number spans j) (block_number spans k) (blocks.block_at spans b j bl (omega (arith, e)) (omega (arith, e)) ∙ sym number_is)
                  ∙ sym (and_from (nat_le start j) (nat_lt j (start + (span_at spans b).count)) (le-leb start j ge) (lt-ltb j (start + (span_at spans b).count) l))
              | inr g ↦
                  ne_eqb (block_number spans j) (block_number spans k) (not_outside j lt (inr g))
                  ∙ sym (and_right (nat_le start j) (nat_lt j (start + (span_at spans b).count)) (le-ltb j (start + (span_at spans b).count) g))
            ]
          ]
