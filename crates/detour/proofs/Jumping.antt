-- The near jump of a detour: it has its bytes at its own target, and outside 64-bit mode at every address.
use Rattle.std.proofs.Common.{◌≡◌, ℕ, ◌^◌, ◌<◌, List, length, None, refl, arith}
use Rattle.x86_values.specs.declared.Bits.{Bits}
use Rattle.x86_values.specs.declared.Bits.TheVariants.{B16, B32, B64}
use Rattle.x86_values.specs.Wrapping.{width}
use Rattle.move_goals.specs.MovedTargets.Targets.{plain_length}
use Rattle.move_goals.specs.declared.branch_forms.branch.Action.TheVariants.{Jump}
use Rattle.move_goals.specs.BranchForms.Branches.{near_code}
use Rattle.move_goals.specs.BranchForms.Images.{branch_to}
use Rattle.move_goals.specs.Items.{IsPlaced}
use Rattle.detour.specs.Jumps.{near_jump_to, IsNearJump, IsOutOfReach}
use Rattle.detour.specs.LawsBelow.{DetourLawsBelow}

-- the near jump to an address has four operands
pub jump-four : (bits : Bits) (t : ℕ) → length (near_jump_to bits t).ops ≡ 4
unfolding near_jump_to branch_to
jump-four bits t = refl

module _ (laws : DetourLawsBelow) where
  -- the near jump of 64-bit mode has five bytes
  pub near-five : (at t : ℕ) (bytes : List ℕ) → IsNearJump B64 at t bytes → length bytes ≡ 5
  unfolding near_jump_to
  near-five at t bytes e =
      let l = laws.pieces.near_jump-length B64 B64 t in
      let n = laws.targets.encoding-length B64 at (branch_to (near_code Jump B64) None t) bytes e in omega (arith, l, n)

  -- **the jump as one that stands at its target is well placed**
  pub jump-placed : (bits : Bits) (t len : ℕ) → t < 2 ^ width bits → len ≡ plain_length bits (near_jump_to bits t)
      → IsPlaced bits (record { ip = t; len = len; instr = near_jump_to bits t })
  unfolding near_jump_to
  jump-placed bits t len below is = laws.jumps.jump-placed bits t len below is

  -- **only in 64-bit mode can an address be out of reach**
  pub far-in_64 : (bits : Bits) (at t : ℕ) → t < 2 ^ width bits → IsOutOfReach bits at t → bits ≡ B64
  unfolding near_jump_to
  far-in_64 B16 at t below far = let e = laws.jumps.jump-encoded B16 at t (λ e. cc) below in absurd (far e.0 e.1)
  far-in_64 B32 at t below far = let e = laws.jumps.jump-encoded B32 at t (λ e. cc) below in absurd (far e.0 e.1)
  far-in_64 B64 at t below far = refl
