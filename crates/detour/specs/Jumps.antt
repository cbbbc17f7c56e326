-- The jumps of a detour: from the function, and to a replacement that is far from it (Intel SDM volume 2, JMP).
use Rattle.std.specs.Prelude.{◌≡◌, ℕ, List, ◌∷◌, Option, Some, None, Ok}
use Rattle.arrayvec.specs.ArrayVec.{ArrayVec}
use Rattle.x86_values.specs.declared.Bits.{Bits}
use Rattle.x86_values.specs.declared.Instr.{Instr}
use Rattle.plain_spelling.specs.Values.{low_bytes}
use Rattle.encoder.specs.Encoding.{encoding}
use Rattle.move_goals.specs.declared.branch_forms.branch.Action.TheVariants.{Jump}
use Rattle.move_goals.specs.BranchForms.Branches.{near_code}
use Rattle.move_goals.specs.BranchForms.Images.{branch_to}

-- a JMP with an offset of the mode's own operand size
unfoldable pub near_jump_to : Bits → ℕ → Instr
near_jump_to bits target = branch_to (near_code Jump bits) None target

-- these are the bytes of the near jump from an address to another, which it reaches
abbrev pub IsNearJump : Bits → ℕ → ℕ → List ℕ → Type 0
IsNearJump bits at target bytes = encoding bits at (near_jump_to bits target) ≡ Ok bytes

-- a near jump does not reach
abbrev pub IsOutOfReach : Bits → ℕ → ℕ → Type 0
IsOutOfReach bits at target = (bytes : List ℕ) → IsNearJump bits at target bytes → ⊥

-- FF 25 and an offset of 0: a jump through the eight bytes behind it, which have the address, the lowest byte first (2.2.1.6)
unfoldable pub absolute_jump : ℕ → List ℕ
absolute_jump target = 0xFF ∷ 0x25 ∷ 0 ∷ 0 ∷ 0 ∷ 0 ∷ low_bytes 8 target

-- the bytes of the near jump, or that it does not reach
abbrev pub IsNearAnswer : Bits → ℕ → ℕ → Option (ArrayVec ℕ) → Type 0
IsNearAnswer bits at target (Some bytes) = IsNearJump bits at target bytes.items
IsNearAnswer bits at target None = IsOutOfReach bits at target
