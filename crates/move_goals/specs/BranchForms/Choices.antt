-- The forms that a moved instruction may take, from the first to the last, with their lengths and what they reach.
use Rattle.std.specs.Prelude.{ℕ, Bool, true, false, List, [], ◌∷◌, map, Option, Some, None, if◌then◌else◌}
use Rattle.x86_values.specs.declared.Bits.{Bits}
use Rattle.x86_values.specs.declared.Instr.{Instr}
use Rattle.x86_values.specs.Wrapping.{width}
use Rattle.instruction_parts.specs.Counting.{is_64}
use Rattle.branch_sizes.specs.declared.plan.Form.{Form}
use Rattle.branch_sizes.specs.declared.plan.Form.TheVariants.{Itself, Short, Near, Far, Bridge, FarBridge}
use Rattle.branch_sizes.specs.declared.plan.Reach.{Reach}
use Rattle.branch_sizes.specs.declared.plan.Reach.TheVariants.{Always, Signed8, Signed32, Below, BridgeBelow}
use Rattle.branch_sizes.specs.declared.plan.Choice.{Choice}
use Rattle.move_goals.specs.declared.branch_forms.branch.Action.{Action}
use Rattle.move_goals.specs.declared.branch_forms.branch.Action.TheVariants.{Count}
use Rattle.move_goals.specs.declared.branch_forms.branch.RelativeBranch.{RelativeBranch}
use Rattle.move_goals.specs.BranchForms.Branches.{branch_of}
use Rattle.move_goals.specs.BranchForms.Images.{bridge_inner, form_length}

-- a form that exists in 64-bit mode alone
abbrev pub in_64 : Bits → Form → List Form
in_64 bits form = if is_64 bits then form ∷ [] else []

-- the forms of a relative branch: one on a counter has no near form, but a bridge onto a near jump; what is near stays near
unfoldable pub branch_forms : Bits → Action → Bool → List Form
branch_forms bits (Count n) is_short = Short ∷ Bridge ∷ in_64 bits FarBridge
branch_forms bits action true = Short ∷ Near ∷ in_64 bits Far
branch_forms bits action false = Near ∷ in_64 bits Far

-- what a form with an offset of the operand size reaches: in 64-bit mode a signed distance of 32 bits, else the addresses of the operand size
unfoldable pub near_reach : Bits → Bits → Reach
near_reach bits size = if is_64 bits then Signed32 else Below (width size)

-- a bridge reaches what its near jump reaches; outside 64-bit mode the end of its short jump is an address of the operand size too
unfoldable pub bridge_reach : Bits → Bits → ℕ → Reach
bridge_reach bits size inner = if is_64 bits then Signed32 else BridgeBelow (width size) inner

-- what a form of a relative branch reaches
unfoldable pub form_reach : Bits → RelativeBranch → Option Bits → Form → Reach
form_reach bits b asize Short = Signed8
form_reach bits b asize Near = near_reach bits b.size
form_reach bits b asize Bridge = bridge_reach bits b.size (bridge_inner bits b asize)
form_reach bits b asize _ = Always

-- a choice of a relative branch
abbrev pub branch_choice : Bits → Instr → RelativeBranch → Form → Choice
branch_choice bits i b form = record { form = form; len = form_length bits i form; reach = form_reach bits b i.asize form }

-- the choices of an instruction that may be a relative branch
abbrev pub choices_by : Bits → Instr → Option RelativeBranch → List Choice
choices_by bits i None = record { form = Itself; len = form_length bits i Itself; reach = Always } ∷ []
choices_by bits i (Some b) = map (branch_choice bits i b) (branch_forms bits b.action b.is_short)

-- the choices of a moved instruction
unfoldable pub choices_of : Bits → Instr → List Choice
choices_of bits i = choices_by bits i (branch_of i)
