-- Where the images of moved instructions stand and go.
use Rattle.std.specs.Prelude.{◌≡◌, ℕ, ◌+◌, ◌-◌, ◌%◌, ◌<◌, ◌≤◌, true, false, List, [], ◌∷◌, None, Some, length, take, drop, slice_index_or}
use Rattle.x86_values.specs.declared.Bits.{Bits}
use Rattle.x86_values.specs.declared.Instr.{Instr}
use Rattle.x86_values.specs.Wrapping.{modulo_width}
use Rattle.plain_spelling.specs.Values.{low_bytes}
use Rattle.operand_info.specs.Operands.{near_value, ip_value, first_value}
use Rattle.branch_sizes.specs.Plan.{BlockPlan}
use Rattle.branch_sizes.specs.Layout.{span_at, image_length, place}
use Rattle.move_goals.specs.MovedTargets.Targets.{target_of, with_target}
use Rattle.move_goals.specs.BranchForms.Images.{pieces_length}
use Rattle.move_goals.specs.declared.items.Placed.{Placed}
use Rattle.move_goals.specs.Items.{item_at, no_instr}
use Rattle.branch_sizes.specs.MoveLayout.Laid.{goal_address, images_end, is_far_at, new_end, slot_address}
use Rattle.block_encoder.specs.Bytes.{bytes_at, block_bytes, image_at}

-- the last of some instructions
abbrev pub last_instr : List Instr → Instr
last_instr [] = no_instr
last_instr (i ∷ []) = i
last_instr (i ∷ j ∷ is) = last_instr (j ∷ is)

-- the n bytes of block b at an address
abbrev pub bytes_of_block_at : Bits → List Placed → BlockPlan → List ℕ → ℕ → ℕ → ℕ → List ℕ
bytes_of_block_at bits items p layout b at n = take n (drop (at - (span_at p.spans b).new_base) (block_bytes bits items p layout b))

-- item k stands at its place in block b: its image, as long as its form says
pub record StandsAtPlace (bits : Bits) (items : List Placed) (p : BlockPlan) (layout : List ℕ) (b k : ℕ) : Type 0 where
  pub from : (span_at p.spans b).new_base ≤ place p layout k
  pub within : place p layout k + image_length p layout k ≤ images_end p layout b
  pub bytes : bytes_of_block_at bits items p layout b (place p layout k) (image_length p layout k) ≡ bytes_at bits items p layout k

-- block b has a slot with a goal: the 8 bytes at a multiple of 8 behind the images, the lowest first
pub record HasSlot (bits : Bits) (items : List Placed) (p : BlockPlan) (layout : List ℕ) (b goal : ℕ) : Type 0 where
  pub behind : images_end p layout b ≤ slot_address p layout b goal
  pub within : slot_address p layout b goal + 8 ≤ new_end p layout b
  pub aligned : slot_address p layout b goal % 8 ≡ 0
  pub bytes : bytes_of_block_at bits items p layout b (slot_address p layout b goal) 8 ≡ low_bytes 8 goal

-- The image of item k of block b goes to the goal of the item. What has no target stays as it is; what is aimed at RIP or EIP is aimed at the goal
-- instead; of a branch the last instruction goes to the goal, or through the slot that has it, and each instruction before the last goes over the next.
pub record GoesToGoal (bits : Bits) (items : List Placed) (p : BlockPlan) (layout : List ℕ) (b k : ℕ) : Type 0 where
  pub stays : target_of (item_at items k).instr ≡ None → image_at bits items p layout k ≡ (item_at items k).instr ∷ []
  pub address : first_value near_value (item_at items k).instr ≡ None
      → image_at bits items p layout k ≡ with_target (goal_address p layout k) (item_at items k).instr ∷ []
  pub near : (t : ℕ) → first_value near_value (item_at items k).instr ≡ Some t → is_far_at p layout k ≡ false
      → first_value near_value (last_instr (image_at bits items p layout k)) ≡ Some (goal_address p layout k)
  pub far : (t : ℕ) → first_value near_value (item_at items k).instr ≡ Some t → is_far_at p layout k ≡ true
      → first_value ip_value (last_instr (image_at bits items p layout k)) ≡ Some (slot_address p layout b (goal_address p layout k))
  pub slot : is_far_at p layout k ≡ true → HasSlot bits items p layout b (goal_address p layout k)
  pub over : (n : ℕ) → n + 1 < length (image_at bits items p layout k)
      → first_value near_value (slice_index_or (image_at bits items p layout k) n no_instr)
      ≡ Some (modulo_width bits (place p layout k + pieces_length bits (take (n + 2) (image_at bits items p layout k))))
