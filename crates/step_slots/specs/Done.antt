-- How far the code of a step runs until its instruction has happened.
use Rattle.std.specs.Prelude.{◌≡◌, ℕ, ◌+◌, ◌≤◌, List, ◌∷◌, length, take, slice_index_or, Ok}
use Rattle.x86_values.specs.declared.Bits.{Bits}
use Rattle.x86_values.specs.declared.Instr.{Instr}
use Rattle.encoder.specs.Encoding.{encoding}
use Rattle.branch_sizes.specs.declared.plan.Form.{Form}
use Rattle.branch_sizes.specs.declared.plan.Form.TheVariants.{Itself}
use Rattle.branch_sizes.specs.Layout.{IsLeast}
use Rattle.move_goals.specs.MovedTargets.Targets.{plain_length}
use Rattle.move_goals.specs.BranchForms.Images.{image_of}
use Rattle.move_goals.specs.declared.items.Placed.{Placed}
use Rattle.move_goals.specs.Items.{no_instr}
use Rattle.block_encoder.specs.Bytes.{image_at}
use Rattle.block_encoder.specs.Moved.{MovedLists}
use Rattle.step_slots.specs.Block.{step_items, step_plan}

-- how many bytes the first instruction of the image has; they depend neither on its place nor on its goal
unfoldable pub done_length : Bits → Instr → Form → ℕ
done_length bits i form = plain_length bits (slice_index_or (image_of bits i form 0 0 0) 0 no_instr)

-- the form of the image of the instruction in a step block
abbrev pub step_form : MovedLists → Form
step_form moved = slice_index_or moved.forms 0 Itself

-- A step block begins with the image of the instruction, and the image with an instruction of so many bytes, encoded at the place. That instruction does
-- all that the stepped one does except to reach a far target, for which jumps follow: it pushes, counts, tests and accesses memory. It ends at the jump back or
-- before it.
pub record IsDoneAt (bits : Bits) (item : Placed) (place : ℕ) (moved : MovedLists) (done : ℕ) : Type 0 where
  pub layout : List ℕ
  pub least : IsLeast (step_plan bits item place) layout
  pub first : Instr
  pub jumps : List Instr
  pub image : image_at bits (step_items bits item) (step_plan bits item place) layout 0 ≡ first ∷ jumps
  pub within : done ≤ length moved.bytes
  pub before_back : place + done ≤ slice_index_or moved.starts 1 0
  pub encoded : encoding bits place first ≡ Ok (take done moved.bytes)
