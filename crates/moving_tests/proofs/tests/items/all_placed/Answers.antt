use Rattle.std.proofs.Common.{ℕ, zero, suc, ◌<◌, List, [], ◌∷◌, ◌++◌, length, sym, subst, arith}
use Rattle.x86_values.specs.declared.Bits.TheVariants.{B64}
use Rattle.move_goals.specs.declared.items.Placed.{Placed}
use Rattle.move_goals.specs.Items.{IsPlaced, item_at}
use Rattle.moving_tests.proofs.tests.items.all_placed.Goals as goal

-- what holds of each instruction holds of each of one more
each-more : (P : Placed → Type 0) (items : List Placed) (p : Placed) → ((k : ℕ) → k < length items → P (item_at items k)) → P p
    → (k : ℕ) → k < length (items ++ p ∷ []) → P (item_at (items ++ p ∷ []) k)
each-more P [] p h last zero lt = last
each-more P [] p h last (suc k) lt = absurd (omega arith)
each-more P (q ∷ items) p h last zero lt = h zero (omega arith)
each-more P (q ∷ items) p h last (suc k) lt = each-more P items p (λ j below. h (suc j) (omega (arith, below))) last k (omega (arith, lt))

pub items-preserved : goal.items-preserved
items-preserved c =
    subst (λ xs. (k : ℕ) → k < length xs → IsPlaced B64 (item_at xs k)) (sym c.in_ok-push.ensures.items)
    (each-more (IsPlaced B64) c.items.items.items c.in_ok-placed_bytes.field-0 c.items.invariant c.in_ok-placed_bytes.ensures)
