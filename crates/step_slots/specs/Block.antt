-- The block of a step: an instruction at another place, and the jump back to what followed it.
use Rattle.std.specs.Prelude.{◌≡◌, ℕ, List, [], ◌∷◌, None}
use Rattle.x86_values.specs.declared.Bits.{Bits}
use Rattle.x86_values.specs.declared.Instr.{Instr}
use Rattle.x86_values.specs.Wrapping.{modulo_width}
use Rattle.branch_sizes.specs.Plan.{BlockPlan}
use Rattle.move_goals.specs.MovedTargets.Targets.{plain_length}
use Rattle.move_goals.specs.declared.branch_forms.branch.Action.TheVariants.{Jump}
use Rattle.move_goals.specs.BranchForms.Branches.{near_code}
use Rattle.move_goals.specs.BranchForms.Images.{branch_to}
use Rattle.move_goals.specs.declared.items.Placed.{Placed}
use Rattle.move_goals.specs.Items.{old_end}
use Rattle.move_goals.specs.Plan.{plan_outside}
use Rattle.block_encoder.specs.Moved.{MovedLists}
use Rattle.block_encoder.specs.ByPlan.{IsMovedBy, IsTooFarBy}
use Rattle.block_encoder.specs.Last.{last_len}

-- a JMP with an offset of the mode's own operand size (JMP)
unfoldable pub jump_to : Bits → ℕ → Instr
jump_to bits target = branch_to (near_code Jump bits) None target

-- the address behind the instruction where it stood, modulo 2 to the number of bits of the mode
abbrev pub back_address : Bits → Placed → ℕ
back_address bits item = modulo_width bits (old_end item)

-- the jump there, as one that stands there
abbrev pub jump_at : Bits → ℕ → Placed
jump_at bits back = record { ip = back; len = plain_length bits (jump_to bits back); instr = jump_to bits back }

-- the instruction and the jump back
abbrev pub step_items : Bits → Placed → List Placed
step_items bits item = item ∷ jump_at bits (back_address bits item) ∷ []

-- the plan of the block at a place: both keep their targets, so an instruction that is aimed at itself goes to where it stood
abbrev pub step_plan : Bits → Placed → ℕ → BlockPlan
step_plan bits item place = plan_outside bits (step_items bits item) place

-- the bytes of the block at a place
abbrev pub IsStepBlock : Bits → Placed → ℕ → List ℕ → Type 0
IsStepBlock bits item place bytes =
    (moved : MovedLists) × (IsMovedBy bits (step_items bits item) (step_plan bits item place) moved × (bytes ≡ moved.bytes))

-- the instruction does not reach its target from a place
abbrev pub IsStepOutOfReach : Bits → Placed → ℕ → ℕ → Type 0
IsStepOutOfReach bits item place target = IsTooFarBy bits (step_items bits item) (step_plan bits item place) 0 target

-- how many bytes are reserved for the block in a region with a base: those of the layout of last forms
abbrev pub reserved_room : Bits → ℕ → Placed → ℕ
reserved_room bits base item = last_len bits (step_items bits item) base
