-- The places of moved blocks one by one, and the block of an instruction.
use Rattle.std.proofs.Common.{◌≡◌, ℕ, ◌+◌, List, [], ◌∷◌, ◌++◌, length, refl, ap, ◌∙◌, arith, add-one}
use Rattle.std.proofs.lemmas.List.FromFn.{length-map-range_with_len, map-range_with_len_more}
use Rattle.x86_values.specs.declared.Bits.{Bits}
use Rattle.branch_sizes.specs.declared.plan.BlockSpan.{BlockSpan}
use Rattle.branch_sizes.specs.Layout.{first_of_block, span_at}
use Rattle.move_goals.specs.declared.items.Placed.{Placed}
use Rattle.move_goals.specs.Plan.{plan_for, plan_with}
use Rattle.block_encoder.specs.Moved.{MovedLists, IsMoved}
use Rattle.c_calls.specs.Blocks.{place_at, places}

-- no places are those of no blocks
pub places-none : (bits : Bits) (spans : List BlockSpan) (items : List Placed) (m : MovedLists) → places bits spans items m 0 ≡ []
unfolding places
places-none bits spans items m = refl

-- a further block adds its place
pub places-more : (bits : Bits) (spans : List BlockSpan) (items : List Placed) (m : MovedLists) (k : ℕ) →
    places bits spans items m (k + 1) ≡ places bits spans items m k ++ place_at bits spans items m k ∷ []
unfolding places
places-more bits spans items m k = map-range_with_len_more (place_at bits spans items m) 0 k k (omega arith)

-- the next block begins behind the items of this one
pub next_first : (spans : List BlockSpan) (b : ℕ) → first_of_block spans (b + 1) ≡ first_of_block spans b + (span_at spans b).count
next_first spans b = ap (λ (n : ℕ). first_of_block spans n) (add-one b)

-- ---- how many places there are

plan_spans : (bits : Bits) (spans : List BlockSpan) (items : List Placed) → (plan_for bits spans items).spans ≡ spans
unfolding plan_with
plan_spans bits spans items = refl

-- a moved item has a new place
pub starts_of_moved : (bits : Bits) (spans : List BlockSpan) (items : List Placed) (m : MovedLists) → IsMoved bits items spans m → length m.starts ≡ length items
starts_of_moved bits spans items m h = ap length h.lists.starts ∙ length-map-range_with_len _ 0 (length items)

-- and a form
pub forms_of_moved : (bits : Bits) (spans : List BlockSpan) (items : List Placed) (m : MovedLists) → IsMoved bits items spans m → length m.forms ≡ length items
forms_of_moved bits spans items m h = ap length h.lists.forms ∙ length-map-range_with_len _ 0 (length items)

-- a moved block has an end
pub ends_of_moved : (bits : Bits) (spans : List BlockSpan) (items : List Placed) (m : MovedLists) → IsMoved bits items spans m → length m.ends ≡ length spans
ends_of_moved bits spans items m h =
    ap length h.lists.ends ∙ (length-map-range_with_len _ 0 (length (plan_for bits spans items).spans) ∙ ap length (plan_spans bits spans items))
