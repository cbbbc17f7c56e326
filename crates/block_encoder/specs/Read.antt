-- What is read of moved blocks: the instructions of the images, in order; and when the image of a branch, read at its place, goes to its goal.
use Rattle.std.specs.Prelude.{◌≡◌, ℕ, ◌+◌, true, false, List, [], ◌∷◌, length, drop, Some, Ok, Err}
use Rattle.std.specs.List.{flat_map, range_with_len}
use Rattle.x86_values.specs.declared.Bits.{Bits}
use Rattle.x86_values.specs.declared.Instr.{Instr}
use Rattle.x86_values.specs.Wrapping.{modulo_width}
use Rattle.row_relation.specs.Spells.{Read, ReadsAs}
use Rattle.opcode_rows.specs.Table.{table}
use Rattle.opcode_rows.specs.Sweep.{Item, IsSweep}
use Rattle.operand_info.specs.Operands.{near_value, ip_value, first_value}
use Rattle.encoder.specs.Encoding.{encoding}
use Rattle.branch_sizes.specs.Plan.{BlockPlan}
use Rattle.branch_sizes.specs.Layout.{first_of_block, span_at}
use Rattle.move_goals.specs.MovedTargets.Targets.{plain_length}
use Rattle.move_goals.specs.declared.items.Placed.{Placed}
use Rattle.branch_sizes.specs.declared.move_layout.layout.Fragment.{Fragment}
use Rattle.branch_sizes.specs.MoveLayout.Laid.{has_far_form}
use Rattle.block_encoder.specs.Bytes.{image_at, block_images, fragment_image}
use Rattle.block_encoder.specs.Aims.{last_instr}

-- an instruction at an offset with its bytes, as an item of a sweep
abbrev pub read_item : ℕ → List ℕ → Instr → Item
read_item offset bytes i = record { offset = offset; bytes = bytes; reading = Read (record { instr = i; len = length bytes }) }

-- some instructions in their plain spellings one behind another, as items of a sweep
unfoldable pub read_items : Bits → ℕ → ℕ → List Instr → List Item
read_items bits base offset [] = []
read_items bits base offset (i ∷ is) =
    elim (encoding bits (base + offset) i) [
      | Ok bytes ↦ read_item offset bytes i ∷ read_items bits base (offset + length bytes) is
      | Err why ↦ []
    ]

-- the instructions of the images of block b, in order
unfoldable pub image_instrs : Bits → List Placed → BlockPlan → List ℕ → ℕ → List Instr
image_instrs bits items p layout b =
    flat_map (image_at bits items p layout) (range_with_len (first_of_block p.spans b) (span_at p.spans b).count)

-- the sweep of the images of block b at its new base gives these instructions, with the lengths of their plain spellings
abbrev pub IsReadAsImages : Bits → List Placed → BlockPlan → List ℕ → ℕ → Type 0
IsReadAsImages bits items p layout b =
    IsSweep bits (span_at p.spans b).new_base (block_images bits items p layout b)
    (read_items bits (span_at p.spans b).new_base 0 (image_instrs bits items p layout b))

-- some bytes are read at an address as these instructions one behind another, each as long as its plain spelling, and there are no more bytes
abbrev pub AreRead : Bits → ℕ → List ℕ → List Instr → Type 0
AreRead bits at bytes [] = bytes ≡ []
AreRead bits at bytes (i ∷ is) =
    ReadsAs table bits (modulo_width bits at) bytes i (plain_length bits i)
    × AreRead bits (at + plain_length bits i) (drop (plain_length bits i) bytes) is

-- reading the image of a relative branch at its place gives the goal: some bytes are read there as its instructions, of which the last one goes to the
-- goal, or of a far form through the slot
pub record IsReadToGoal (bits : Bits) (i : Instr) (fragment : Fragment) : Type 0 where
  pub bytes : List ℕ
  pub read : AreRead bits fragment.place bytes (fragment_image bits i fragment)
  pub near : has_far_form fragment.form ≡ false → first_value near_value (last_instr (fragment_image bits i fragment)) ≡ Some fragment.goal
  pub far : has_far_form fragment.form ≡ true → first_value ip_value (last_instr (fragment_image bits i fragment)) ≡ Some fragment.slot
