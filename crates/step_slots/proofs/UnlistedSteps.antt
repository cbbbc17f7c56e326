-- What the block of an instruction without a row has: its lengths, and its number.
use Rattle.std.proofs.Common.{◌≡◌, ℕ, ◌+◌, ◌*◌, ◌^◌, ◌≤◌, ◌<◌, true, List, length, Ok, refl, sym, subst, arith}
use Rattle.std.proofs.lemmas.Bool.{le-leb, lt-ltb}
use Rattle.x86_values.specs.declared.Bits.{Bits}
use Rattle.x86_values.specs.declared.Bits.TheVariants.{B16, B32, B64}
use Rattle.x86_values.specs.declared.Instr.{Instr}
use Rattle.x86_values.specs.Wrapping.{width}
use Rattle.plain_spelling.specs.Values.{is_extended_of, distance}
use Rattle.encoder.specs.Encoding.{encoding}
use Rattle.move_goals.specs.MovedTargets.Facts.{TargetFacts}
use Rattle.move_goals.specs.BranchForms.Facts.{PieceFacts}
use Rattle.step_slots.specs.Block.{jump_to}
use Rattle.step_slots.specs.UnlistedStep.{jump_len}

-- a distance of a size is below 2 to it
pub distance-below : (size : Bits) (from to : ℕ) → distance size from to < 2 ^ width size
unfolding distance
distance-below B16 from to = omega arith
distance-below B32 from to = omega arith
distance-below B64 from to = omega arith

width-most : (size : Bits) → width size ≤ 64
width-most B16 = omega arith
width-most B32 = omega arith
width-most B64 = omega arith

-- more than eight bytes hold each number of a size
pub held-wide : (len : ℕ) (size : Bits) (x : ℕ) → 8 < len → x < 2 ^ width size → is_extended_of len (width size) x ≡ true
unfolding is_extended_of
held-wide len size x many below = rw (lt-ltb x (2 ^ width size) below, le-leb (width size) (8 * len) (omega (arith, width-most size))) refl

-- the jump back has its bytes
pub jump-length : (targets : TargetFacts) (pieces : PieceFacts) (bits : Bits) (at t : ℕ) (bytes : List ℕ) → encoding bits at (jump_to bits t) ≡ Ok bytes → length bytes ≡ jump_len bits
unfolding jump_to
jump-length targets pieces B16 at t bytes h = omega (arith, targets.encoding-length B16 at (jump_to B16 t) bytes h, pieces.near_jump-length B16 B16 t)
jump-length targets pieces B32 at t bytes h = omega (arith, targets.encoding-length B32 at (jump_to B32 t) bytes h, pieces.near_jump-length B32 B32 t)
jump-length targets pieces B64 at t bytes h = omega (arith, targets.encoding-length B64 at (jump_to B64 t) bytes h, pieces.near_jump-length B64 B64 t)

-- so has an instruction that is the jump back
pub jump-bytes : (targets : TargetFacts) (pieces : PieceFacts) (bits : Bits) (at t : ℕ) (i : Instr) (bytes : List ℕ) → i ≡ jump_to bits t → Ok bytes ≡ encoding bits at i →
    length bytes ≡ jump_len bits
jump-bytes targets pieces bits at t i bytes is h = jump-length targets pieces bits at t bytes (subst (λ (x : Instr). encoding bits at x ≡ Ok bytes) is (sym h))

-- it is at most 5 bytes
pub jump-few : (bits : Bits) → jump_len bits ≤ 5
jump-few B16 = omega arith
jump-few B32 = omega arith
jump-few B64 = omega arith
