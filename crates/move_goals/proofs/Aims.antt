-- The goal of an item, found from the items of its block and from the first items at each address.
use Rattle.std.proofs.Common.{◌≡◌, ℕ, zero, suc, ◌+◌, ◌-◌, ◌<◌, ◌≤◌, Bool, true, false, not, ◌&&◌, List, length, Option, Some, None, inl, inr, arith, refl, sym, subst, ap, ◌∙◌}
use Rattle.std.proofs.lemmas.Bool.{not-false, eqb-true, or_cases, false≢true}
use Rattle.std.specs.Prelude.{◌==◌}
use Rattle.x86_values.specs.declared.Bits.{Bits}
use Rattle.branch_sizes.specs.declared.plan.BlockSpan.{BlockSpan}
use Rattle.branch_sizes.specs.Facts.{BlockFacts}
use Rattle.branch_sizes.specs.Layout.{span_at, first_of_block}
use Rattle.move_goals.specs.MovedTargets.Targets.{target_of}
use Rattle.move_goals.specs.declared.items.Placed.{Placed}
use Rattle.move_goals.specs.Items.{AreSpansOf, ArePlaced, first_below, item_at, old_end, begins_block, is_in_order, first_disorder}
use Rattle.move_goals.specs.Goals.{is_in_block_of, begins_at, own_item, other_item, goal_among, goal_of_target, goal_of, goal_at}
use Rattle.move_goals.specs.Starts.{Ascend, is_between, first_between, goal_between, goal_in}
use Rattle.move_goals.proofs.First.{first_below_congr, none_below}
use Rattle.move_goals.proofs.Blocks.{end_below, begins_not, same_block}

-- where nothing inside passes, what passes outside is all that passes
outside_only : (inside passes : Bool) → (inside && passes) ≡ false → (not inside && passes) ≡ passes
outside_only true true h = sym h
outside_only true false h = refl
outside_only false passes h = refl

-- the items of other blocks matter where none of the own block began there
among : (own other all : Option ℕ) (t : ℕ) → (own ≡ None → other ≡ all) → goal_among own all t ≡ goal_among own other t
among (Some j) other all t h = refl
among None other all t h = ap (λ o. goal_among None o t) (sym (h refl))

module _ (blocks : BlockFacts) (items : List Placed) (spans : List BlockSpan) (s : AreSpansOf items spans) (b start : ℕ) (bl : b < length spans)
    (e : start ≡ first_of_block spans b) where
  -- ---- the order

  module _ (bits : Bits) (placed : ArePlaced bits items) (order : first_disorder spans items ≡ None) where
    -- an item behind the first one begins where the one before it ends
    follows : (i j : ℕ) → j ≡ i + 1 → start ≤ i → j < start + (span_at spans b).count → (item_at items j).ip ≡ old_end (item_at items i)
    unfolding first_disorder
    follows i j next from below =
        let len : j < length items = omega (arith, end_below blocks items spans s b start bl e) in
        let before : j - 1 ≡ i = omega arith in
        let in_order : is_in_order spans items j ≡ true =
        not-false (is_in_order spans items j) (none_below (λ n. not (is_in_order spans items n)) (length items) order j len) in
        let begins : begins_block spans j ≡ false = begins_not blocks items spans s b start bl e j (omega arith) below in
        subst (λ n. (item_at items j).ip ≡ old_end (item_at items n)) before
        (elim (or_cases (begins_block spans j) ((item_at items j).ip == old_end (item_at items (j - 1))) in_order) [
          | inl first ↦ absurd (false≢true (sym begins ∙ first))
          | inr same ↦ eqb-true (item_at items j).ip (old_end (item_at items (j - 1))) same
        ])

    some_bytes : (i : ℕ) → i < start + (span_at spans b).count → 1 ≤ (item_at items i).len
    some_bytes i below = (placed i (omega (arith, below, end_below blocks items spans s b start bl e))).some

    -- the addresses ascend
    later : (i d j : ℕ) → j ≡ i + suc d → start ≤ i → j < start + (span_at spans b).count → (item_at items i).ip < (item_at items j).ip
    later i zero j next from below = omega (arith, follows i j (omega arith) from below, some_bytes i (omega arith))
    later i (suc d) j next from below =
        omega (
          arith,
          later i d (i + suc d) refl from (omega arith),
          follows (i + suc d) j (omega arith) (omega arith) below,
          some_bytes (i + suc d) (omega arith),
        )

    -- the items of a block ascend
    pub ascend : Ascend items start (start + (span_at spans b).count)
    ascend = record { each = λ i j from lt below. later i (j - suc i) j (omega (arith, lt)) from below }

  -- ---- the goal of an item

  module _ (k : ℕ) (from : start ≤ k) (below : k < start + (span_at spans b).count) (t : ℕ) where
    own_is : own_item spans items k t ≡ first_between items start (start + (span_at spans b).count) t
    unfolding own_item
    own_is =
        first_below_congr (λ j. is_in_block_of spans k j && begins_at items t j)
        (λ j. is_between start (start + (span_at spans b).count) j && begins_at items t j) (length items)
        (λ j lt. ap (λ x. x && begins_at items t j) (same_block blocks items spans s b start bl e k from below j lt))

    other_is : first_between items start (start + (span_at spans b).count) t ≡ None → other_item spans items k t ≡ first_below (begins_at items t) (length items)
    unfolding other_item
    other_is none =
        first_below_congr (λ j. not (is_in_block_of spans k j) && begins_at items t j) (begins_at items t) (length items)
        (λ j lt. ap (λ x. not x && begins_at items t j) (same_block blocks items spans s b start bl e k from below j lt)
        ∙ outside_only (is_between start (start + (span_at spans b).count) j) (begins_at items t j)
        (none_below (λ i. is_between start (start + (span_at spans b).count) i && begins_at items t i) (length items) none j lt))

    -- the search in the block finds the goal of a target
    pub goal_is : goal_between items start (start + (span_at spans b).count) t ≡ goal_of_target spans items k t
    unfolding goal_of_target
    goal_is =
        among (first_between items start (start + (span_at spans b).count) t) (other_item spans items k t) (first_below (begins_at items t) (length items)) t other_is
        ∙ ap (λ o. goal_among o (other_item spans items k t) t) (sym own_is)

  module _ (k : ℕ) (from : start ≤ k) (below : k < start + (span_at spans b).count) where
    by_target : (target : Option ℕ) → goal_in items start (start + (span_at spans b).count) target ≡ goal_of spans items k target
    by_target None = refl
    by_target (Some t) = goal_is k from below t

    -- and so the goal of the item's own target
    pub goal_at_is : goal_in items start (start + (span_at spans b).count) (target_of (item_at items k).instr) ≡ goal_at spans items k
    goal_at_is = by_target (target_of (item_at items k).instr)
