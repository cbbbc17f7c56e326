-- The layout of last forms of one block from which every target stays.
use Rattle.std.specs.Prelude.{ℕ, ◌-◌, List, length, map, slice_index_or}
use Rattle.x86_values.specs.declared.Bits.{Bits}
use Rattle.x86_values.specs.declared.Instr.{Instr}
use Rattle.branch_sizes.specs.declared.plan.Branch.{Branch}
use Rattle.branch_sizes.specs.declared.plan.Choice.{Choice}
use Rattle.branch_sizes.specs.Plan.{BlockPlan, no_choice}
use Rattle.move_goals.specs.BranchForms.Choices.{choices_of}
use Rattle.move_goals.specs.declared.items.Placed.{Placed}
use Rattle.move_goals.specs.Plan.{plan_outside}
use Rattle.branch_sizes.specs.MoveLayout.Laid.{new_end}

-- the number of the last form of an item
abbrev pub last_number : Branch → ℕ
last_number b = length b.choices.items - 1

-- the last form of an instruction
abbrev pub last_choice : Bits → Instr → Choice
last_choice bits i = slice_index_or (choices_of bits i) (length (choices_of bits i) - 1) no_choice

-- each item has its last form
unfoldable pub last_layout : BlockPlan → List ℕ
last_layout p = map last_number p.items

-- the length from the new base to the end of the images, the gap and the slots in that layout
unfoldable pub last_len : Bits → List Placed → ℕ → ℕ
last_len bits items new_base =
    let p = plan_outside bits items new_base in
    new_end p (last_layout p) 0 - new_base
