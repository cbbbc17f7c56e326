-- What pushes a return address is well placed with its jump.
use Rattle.std.proofs.Common.{◌≡◌, ℕ, zero, suc, ◌^◌, ◌<◌, ◌≤◌, List, [], ◌∷◌, length, arith}
use Rattle.x86_values.specs.declared.Bits.{Bits}
use Rattle.x86_values.specs.declared.Bits.TheVariants.{B16, B32, B64}
use Rattle.x86_values.specs.Wrapping.{width, modulo_width}
use Rattle.move_goals.specs.declared.items.Placed.{Placed}
use Rattle.move_goals.specs.Items.{IsPlaced, ArePlaced}
use Rattle.block_encoder.specs.PushedCalls.Pushes.{push_of, high_half_of}
use Rattle.block_encoder.specs.PushedCalls.Items.{item_of, with_jump}
use Rattle.block_encoder.specs.PushedCalls.Facts.{PushFacts}

two-placed : (bits : Bits) (p q : Placed) → IsPlaced bits p → IsPlaced bits q → ArePlaced bits (p ∷ q ∷ [])
two-placed bits p q a b zero lt = a
two-placed bits p q a b (suc zero) lt = b
two-placed bits p q a b (suc (suc k)) lt = absurd (omega arith)

three-placed : (bits : Bits) (p q r : Placed) → IsPlaced bits p → IsPlaced bits q → IsPlaced bits r → ArePlaced bits (p ∷ q ∷ r ∷ [])
three-placed bits p q r a b d zero lt = a
three-placed bits p q r a b d (suc zero) lt = b
three-placed bits p q r a b d (suc (suc zero)) lt = d
three-placed bits p q r a b d (suc (suc (suc k))) lt = absurd (omega arith)

-- **the items are well placed**
pub jump-placed : PushFacts → (bits : Bits) (ip back : ℕ) → back < 2 ^ width bits → (jump : Placed) → IsPlaced bits jump
    → ArePlaced bits (with_jump bits ip back jump)
jump-placed facts B16 ip back below jump placed = two-placed B16 (item_of B16 ip (push_of B16 back)) jump (facts.push-placed B16 ip back below) placed
jump-placed facts B32 ip back below jump placed = two-placed B32 (item_of B32 ip (push_of B32 back)) jump (facts.push-placed B32 ip back below) placed
jump-placed facts B64 ip back below jump placed =
    three-placed B64 (item_of B64 ip (push_of B64 back)) (item_of B64 ip (high_half_of back)) jump (facts.push-placed B64 ip back below)
    (facts.high-placed ip back below) placed

-- they are two or three
pub few-items : (bits : Bits) (ip back : ℕ) (jump : Placed) → length (with_jump bits ip back jump) ≤ 3
few-items B16 ip back jump = omega arith
few-items B32 ip back jump = omega arith
few-items B64 ip back jump = omega arith

-- an address of the mode is one
pub modulo-below : (bits : Bits) (x : ℕ) → modulo_width bits x < 2 ^ width bits
modulo-below B16 x = omega arith
modulo-below B32 x = omega arith
modulo-below B64 x = omega arith
