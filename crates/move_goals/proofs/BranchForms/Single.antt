-- Images of one instruction, and the forms of what has no target.
use Rattle.std.proofs.Common.{◌≡◌, ℕ, List, [], ◌∷◌, Option, Some, None, refl}
use Rattle.std.specs.Option.{option_or}
use Rattle.x86_values.specs.declared.Bits.{Bits}
use Rattle.x86_values.specs.declared.Instr.{Instr}
use Rattle.operand_info.specs.Operands.{near_value, ip_value, first_value}
use Rattle.branch_sizes.specs.declared.plan.Form.TheVariants.{Itself, Short, Near}
use Rattle.branch_sizes.specs.declared.plan.Reach.TheVariants.{Always}
use Rattle.move_goals.specs.MovedTargets.Targets.{target_of, with_target}
use Rattle.move_goals.specs.declared.branch_forms.branch.RelativeBranch.{RelativeBranch}
use Rattle.move_goals.specs.BranchForms.Branches.{branch_of, near_code}
use Rattle.move_goals.specs.BranchForms.Images.{image_of, branch_image, short_branch, branch_to, form_length}
use Rattle.move_goals.specs.BranchForms.Choices.{choices_of}

first_none : (a b : Option ℕ) → option_or a b ≡ None → a ≡ None
first_none None b h = refl
first_none (Some x) b h = cc

-- **what has no target is no relative branch**
pub untargeted-branch : (i : Instr) → target_of i ≡ None → branch_of i ≡ None
unfolding target_of branch_of
untargeted-branch i h = rw (first_none (first_value near_value i) (first_value ip_value i) h) refl

-- what is no relative branch has itself as its one form
pub own-choices : (bits : Bits) (i : Instr) → branch_of i ≡ None
    → choices_of bits i ≡ record { form = Itself; len = form_length bits i Itself; reach = Always } ∷ []
unfolding choices_of
own-choices bits i h = rw h refl

-- it is its own image in every form
pub own-short : (bits : Bits) (i : Instr) (place goal slot : ℕ) → branch_of i ≡ None → image_of bits i Short place goal slot ≡ with_target goal i ∷ []
unfolding image_of
own-short bits i place goal slot h = rw h refl

-- an instruction that is no relative branch is its own image, aimed at the goal
pub own-near : (bits : Bits) (i : Instr) (place goal slot : ℕ) → branch_of i ≡ None → image_of bits i Near place goal slot ≡ with_target goal i ∷ []
unfolding image_of
own-near bits i place goal slot h = rw h refl

-- a relative branch has one instruction as its image in the short form, and in the near one
pub branch-short : (bits : Bits) (i : Instr) (b : RelativeBranch) (place goal slot : ℕ) → branch_of i ≡ Some b
    → image_of bits i Short place goal slot ≡ short_branch b i.asize goal ∷ []
unfolding image_of branch_image
branch-short bits i b place goal slot h = rw h refl

-- the near image of a relative branch is one instruction
pub branch-near : (bits : Bits) (i : Instr) (b : RelativeBranch) (place goal slot : ℕ) → branch_of i ≡ Some b
    → image_of bits i Near place goal slot ≡ branch_to (near_code b.action b.size) None goal ∷ []
unfolding image_of branch_image
branch-near bits i b place goal slot h = rw h refl
