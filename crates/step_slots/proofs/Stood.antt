-- What an instruction at a place answers, by what the moving of it and of the jump back answers.
use Rattle.std.proofs.Common.{◌≡◌, ℕ, zero, suc, ◌-◌, ◌≤◌, length, refl, arith}
use Rattle.x86_values.specs.declared.Bits.{Bits}
use Rattle.move_goals.specs.declared.items.Placed.{Placed}
use Rattle.move_goals.specs.Items.{IsPlaced}
use Rattle.block_encoder.specs.Moved.{MovedLists}
use Rattle.block_encoder.specs.ByPlan.{IsMovedBy, IsTooFarBy}
use Rattle.step_slots.specs.Block.{back_address, step_items, step_plan, IsStepOutOfReach, reserved_room}
use Rattle.step_slots.specs.Standing.{FitsReserved}
use Rattle.step_slots.specs.LawsBelow.{StepLawsBelow}
use Rattle.step_slots.proofs.JumpBack.{jump-reached}
use Rattle.step_slots.proofs.Stepped.{step-placed, reserved-short, back-below}

module _ (laws : StepLawsBelow) (bits : Bits) (item : Placed) (spelled : IsPlaced bits item) (place : ℕ) where
  -- only the instruction may be out of reach, whatever the place
  pub stood-far : (at target : ℕ) → IsTooFarBy bits (step_items bits item) (step_plan bits item place) at target → IsStepOutOfReach bits item place target
  stood-far zero target far = far
  stood-far (suc zero) target far =
      absurd (far.first.unreached
      (jump-reached laws bits (step_items bits item) place (step-placed laws bits item spelled) (omega arith) far.layout far.least far.ends 1 (omega arith)
      (back_address bits item) refl (back-below bits item)))
  stood-far (suc (suc n)) target far = let w = far.first.within in absurd (omega (arith, w))

  module _ (m : MovedLists) (moved : IsMovedBy bits (step_items bits item) (step_plan bits item place) m) where
    stood-within : length m.bytes ≤ reserved_room bits place item
    stood-within = laws.last.moved-within bits (step_items bits item) place (step-placed laws bits item spelled) (omega arith) m moved

    -- a stood block has at most 53 bytes
    pub stood-short : length m.bytes ≤ 53
    stood-short = omega (arith, stood-within, reserved-short laws bits item spelled place)

    -- a stood block fits the reserved length
    pub stood-fits : FitsReserved bits item place m.bytes
    stood-fits base before units =
        let same : reserved_room bits place item ≡ reserved_room bits base item = laws.last.last-moves bits (step_items bits item) base place before units in
        omega (arith, stood-within, same)
