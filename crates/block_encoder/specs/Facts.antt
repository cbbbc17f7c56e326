-- What holds of moved blocks, for the proofs of the crates above.
use Rattle.std.specs.Prelude.{◌≡◌, ◌⊎◌, ℕ, ◌+◌, ◌-◌, ◌*◌, ◌%◌, ◌^◌, ◌<◌, ◌≤◌, true, false, List, [], ◌∷◌, length, take, slice_get, slice_index_or, unwrap_or, Some, None, Ok}
use Rattle.x86_values.specs.declared.Bits.{Bits}
use Rattle.x86_values.specs.declared.Bits.TheVariants.{B64}
use Rattle.x86_values.specs.Wrapping.{width, modulo_width}
use Rattle.instruction_parts.specs.declared.row_types.Map.{Map}
use Rattle.instruction_parts.specs.declared.row_types.OpKind.TheVariants.{Jz}
use Rattle.plain_spelling.specs.Values.{is_extended_of, distance}
use Rattle.opcode_rows.specs.Table.{table}
use Rattle.operand_info.specs.Operands.{near_value, ip_value, first_value}
use Rattle.encoder.specs.Encoding.{encoding}
use Rattle.branch_sizes.specs.declared.plan.BlockSpan.{BlockSpan}
use Rattle.branch_sizes.specs.declared.plan.Choice.{Choice}
use Rattle.branch_sizes.specs.declared.plan.Form.TheVariants.{Itself}
use Rattle.branch_sizes.specs.declared.plan.Goal.{Goal}
use Rattle.branch_sizes.specs.Plan.{IsWellFormed, no_choice}
use Rattle.branch_sizes.specs.Plan as plan
use Rattle.branch_sizes.specs.Layout.{IsLayout, IsLeast, Reaches, ReachesGoal, block_number, span_at, item_choice, place, image_length}
use Rattle.move_goals.specs.MovedTargets.Targets.{target_of, with_target, plain_length}
use Rattle.move_goals.specs.declared.branch_forms.branch.Action.TheVariants.{Jump}
use Rattle.move_goals.specs.BranchForms.Branches.{near_code}
use Rattle.move_goals.specs.BranchForms.Rows.{offset_row}
use Rattle.move_goals.specs.BranchForms.Images.{branch_to, pieces_length}
use Rattle.move_goals.specs.BranchForms.Choices.{choices_of}
use Rattle.move_goals.specs.declared.items.Placed.{Placed}
use Rattle.move_goals.specs.Items.{AreSpansOf, IsPlaced, ArePlaced, item_at, no_instr}
use Rattle.move_goals.specs.Plan.{branch_with, plan_with, plan_for, plan_outside}
use Rattle.branch_sizes.specs.MoveLayout.Laid.{goal_value, goal_address, is_far_at, new_end, slot_address, fragment_at}
use Rattle.block_encoder.specs.Bytes.{image_at, block_bytes}
use Rattle.block_encoder.specs.Aims.{last_instr, StandsAtPlace, HasSlot}
use Rattle.block_encoder.specs.Moved.{MovedLists, IsReached, fragment_reach, first_new_pass}
use Rattle.block_encoder.specs.ByPlan.{IsMovedBy}
use Rattle.block_encoder.specs.Read.{IsReadAsImages}
use Rattle.block_encoder.specs.Last.{last_layout, last_len}

-- the plan of some items with some goals, and the fragments that a layout of it gives them
pub record FragmentFacts : Type 0 where
  pub plan-spans : (bits : Bits) (spans : List BlockSpan) (items : List Placed) (goals : ℕ → Goal) → (plan_with bits spans items goals).spans ≡ spans
  pub plan-count : (bits : Bits) (spans : List BlockSpan) (items : List Placed) (goals : ℕ → Goal)
      → length (plan_with bits spans items goals).items ≡ length items
  pub plan-item : (bits : Bits) (spans : List BlockSpan) (items : List Placed) (goals : ℕ → Goal) (k : ℕ) → k < length items
      → plan.item_at (plan_with bits spans items goals) k ≡ branch_with bits items goals k
  -- the choice of an item
  pub choice-is : (bits : Bits) (spans : List BlockSpan) (items : List Placed) (goals : ℕ → Goal) (layout : List ℕ)
      → IsLayout (plan_with bits spans items goals) layout → (k : ℕ) → k < length items
      → item_choice (plan_with bits spans items goals) layout k ≡ slice_index_or (choices_of bits (item_at items k).instr) (slice_index_or layout k 0) no_choice
  pub choice-below : (bits : Bits) (spans : List BlockSpan) (items : List Placed) (goals : ℕ → Goal) (layout : List ℕ)
      → IsLayout (plan_with bits spans items goals) layout → (k : ℕ) → k < length items
      → slice_index_or layout k 0 < length (choices_of bits (item_at items k).instr)
  -- its fragment
  pub fragment-place : (bits : Bits) (spans : List BlockSpan) (items : List Placed) (goals : ℕ → Goal) (layout : List ℕ)
      → IsLayout (plan_with bits spans items goals) layout → (k : ℕ) → k < length items
      → (fragment_at (plan_with bits spans items goals) layout k).place ≡ place (plan_with bits spans items goals) layout k
  pub fragment-image_length : (bits : Bits) (spans : List BlockSpan) (items : List Placed) (goals : ℕ → Goal) (layout : List ℕ)
      → IsLayout (plan_with bits spans items goals) layout → (k : ℕ) → k < length items
      → (fragment_at (plan_with bits spans items goals) layout k).len ≡ image_length (plan_with bits spans items goals) layout k

-- of blocks that are moved by any plan of them: where the images and slots stand, what is read of them, and where the images go
pub record MovedFacts : Type 0 where
  pub read : (bits : Bits) (items : List Placed) (spans : List BlockSpan) (goals : ℕ → Goal) → AreSpansOf items spans → ArePlaced bits items
      → (m : MovedLists) (moved : IsMovedBy bits items (plan_with bits spans items goals) m) (b : ℕ) → b < length spans
      → IsReadAsImages bits items (plan_with bits spans items goals) moved.layout b
  pub places : (bits : Bits) (items : List Placed) (spans : List BlockSpan) (goals : ℕ → Goal) → AreSpansOf items spans
      → (m : MovedLists) (moved : IsMovedBy bits items (plan_with bits spans items goals) m) (k : ℕ) → k < length items
      → StandsAtPlace bits items (plan_with bits spans items goals) moved.layout (block_number spans k) k
  pub ends : (bits : Bits) (items : List Placed) (spans : List BlockSpan) (goals : ℕ → Goal) → AreSpansOf items spans
      → (m : MovedLists) (moved : IsMovedBy bits items (plan_with bits spans items goals) m) (b : ℕ) → b < length spans
      → (span_at spans b).new_base + length (block_bytes bits items (plan_with bits spans items goals) moved.layout b)
      ≡ new_end (plan_with bits spans items goals) moved.layout b
  pub slots : (bits : Bits) (items : List Placed) (spans : List BlockSpan) (goals : ℕ → Goal) → AreSpansOf items spans
      → (m : MovedLists) (moved : IsMovedBy bits items (plan_with bits spans items goals) m) (k : ℕ) → k < length items
      → is_far_at (plan_with bits spans items goals) moved.layout k ≡ true
      → HasSlot bits items (plan_with bits spans items goals) moved.layout (block_number spans k) (goal_address (plan_with bits spans items goals) moved.layout k)
  pub stays : (bits : Bits) (items : List Placed) (spans : List BlockSpan) (goals : ℕ → Goal) → ArePlaced bits items → (layout : List ℕ) (k : ℕ)
      → k < length items → target_of (item_at items k).instr ≡ None
      → image_at bits items (plan_with bits spans items goals) layout k ≡ (item_at items k).instr ∷ []
  pub address : (bits : Bits) (items : List Placed) (spans : List BlockSpan) (goals : ℕ → Goal) → ArePlaced bits items → (layout : List ℕ) (k : ℕ)
      → k < length items → first_value near_value (item_at items k).instr ≡ None
      → image_at bits items (plan_with bits spans items goals) layout k ≡ with_target (goal_address (plan_with bits spans items goals) layout k) (item_at items k).instr ∷ []
  pub near : (bits : Bits) (items : List Placed) (spans : List BlockSpan) (goals : ℕ → Goal) → ArePlaced bits items
      → (layout : List ℕ) → IsLayout (plan_with bits spans items goals) layout → (k t : ℕ) → k < length items
      → first_value near_value (item_at items k).instr ≡ Some t → is_far_at (plan_with bits spans items goals) layout k ≡ false
      → first_value near_value (last_instr (image_at bits items (plan_with bits spans items goals) layout k))
      ≡ Some (goal_address (plan_with bits spans items goals) layout k)
  pub far : (bits : Bits) (items : List Placed) (spans : List BlockSpan) (goals : ℕ → Goal) → ArePlaced bits items → (layout : List ℕ) (k t : ℕ)
      → k < length items → first_value near_value (item_at items k).instr ≡ Some t → is_far_at (plan_with bits spans items goals) layout k ≡ true
      → first_value ip_value (last_instr (image_at bits items (plan_with bits spans items goals) layout k))
      ≡ Some (slot_address (plan_with bits spans items goals) layout (block_number spans k) (goal_address (plan_with bits spans items goals) layout k))
  pub over : (bits : Bits) (items : List Placed) (spans : List BlockSpan) (goals : ℕ → Goal) (layout : List ℕ) (k n : ℕ)
      → n + 1 < length (image_at bits items (plan_with bits spans items goals) layout k)
      → first_value near_value (slice_index_or (image_at bits items (plan_with bits spans items goals) layout k) n no_instr)
      ≡ Some (modulo_width bits (place (plan_with bits spans items goals) layout k
      + pieces_length bits (take (n + 2) (image_at bits items (plan_with bits spans items goals) layout k))))

-- which items reach their goals in the least layout
pub record ReachFacts : Type 0 where
  -- what is no branch does where its operand does
  pub other-reached : (bits : Bits) (items : List Placed) (spans : List BlockSpan) → AreSpansOf items spans → ArePlaced bits items → length items ≤ 65536
      → (layout : List ℕ) → IsLeast (plan_for bits spans items) layout → first_new_pass bits (plan_for bits spans items) layout ≡ None
      → (k : ℕ) → k < length items → let fragment = fragment_at (plan_for bits spans items) layout k in
      fragment.form ≡ Itself → Reaches (fragment_reach (item_at items k).instr fragment.form fragment.reach) fragment.len fragment.place fragment.goal
      → IsReached bits items (plan_for bits spans items) layout k
  -- in 64-bit mode a branch does, also where its goal is another one that its layout reaches
  pub reached-in_64 : (items : List Placed) (spans : List BlockSpan) → AreSpansOf items spans → ArePlaced B64 items → length items ≤ 65536
      → (layout : List ℕ) → IsLeast (plan_for B64 spans items) layout → first_new_pass B64 (plan_for B64 spans items) layout ≡ None
      → (k t : ℕ) → k < length items → first_value near_value (item_at items k).instr ≡ Some t
      → IsReached B64 items (plan_for B64 spans items) layout k
  pub branch-reached-in_64 : (items : List Placed) (spans : List BlockSpan) (goals : ℕ → Goal) → AreSpansOf items spans → ArePlaced B64 items → length items ≤ 65536
      → IsWellFormed (plan_with B64 spans items goals) → (layout : List ℕ) → IsLeast (plan_with B64 spans items goals) layout
      → first_new_pass B64 (plan_with B64 spans items goals) layout ≡ None → (k : ℕ) → k < length items
      → ((c : Choice) → ReachesGoal (plan_with B64 spans items goals) layout k c (goals k)
      → Reaches c.reach c.len (place (plan_with B64 spans items goals) layout k) (goal_value (plan_with B64 spans items goals) layout (goals k)))
      → goal_address (plan_with B64 spans items goals) layout k < 2 ^ 64
      → (t : ℕ) → first_value near_value (item_at items k).instr ≡ Some t → IsReached B64 items (plan_with B64 spans items goals) layout k
  -- a branch with an offset of 32 bits is encoded where that holds the distance
  pub near-encoded : (map : Map) (opcode code t at : ℕ) → slice_get table code ≡ Some (offset_row map opcode Jz 20 B64)
      → plain_length B64 (branch_to code None t) ≤ 15 → t < 2 ^ 64
      → is_extended_of 4 64 (distance B64 (modulo_width B64 (modulo_width B64 at + plain_length B64 (branch_to code None t))) t) ≡ true
      → (bytes : List ℕ) × (encoding B64 at (branch_to code None t) ≡ Ok bytes)
  -- a number of 64 bits that is a signed one of n bytes, of which half the range is h
  pub signed : (n h x : ℕ) → 2 ^ (8 * n) ≡ 2 * h → x < 2 ^ 64 → (x < h) ⊎ (2 ^ 64 ≤ x + h) → is_extended_of n 64 x ≡ true

-- one block from which every target stays, beside its layout of last forms
pub record LastFacts : Type 0 where
  -- the goal of an item is its target, in every layout
  pub kept-address : (bits : Bits) (items : List Placed) (new_base k : ℕ) → k < length items → (layout : List ℕ)
      → goal_address (plan_outside bits items new_base) layout k ≡ unwrap_or (target_of (item_at items k).instr) 0
  -- at most two items take 1 to 53 bytes in it
  pub last-bound : (bits : Bits) (items : List Placed) (new_base : ℕ) → ArePlaced bits items → length items ≤ 2 → last_len bits items new_base ≤ 53
  pub last-some : (bits : Bits) (items : List Placed) (new_base : ℕ) → ArePlaced bits items → length items ≤ 2 → 0 < length items
      → 0 < last_len bits items new_base
  -- and no fewer than in the least layout
  pub end-below : (bits : Bits) (items : List Placed) (new_base : ℕ) → ArePlaced bits items → length items ≤ 2
      → (layout : List ℕ) → IsLeast (plan_outside bits items new_base) layout
      → new_end (plan_outside bits items new_base) layout 0 ≤ new_end (plan_outside bits items new_base) (last_layout (plan_outside bits items new_base)) 0
  pub moved-within : (bits : Bits) (items : List Placed) (new_base : ℕ) → ArePlaced bits items → length items ≤ 2
      → (m : MovedLists) → IsMovedBy bits items (plan_outside bits items new_base) m → length m.bytes ≤ last_len bits items new_base
  -- as many at an address a multiple of 16 bytes behind
  pub last-moves : (bits : Bits) (items : List Placed) (at to : ℕ) → at ≤ to → (to - at) % 16 ≡ 0 → last_len bits items to ≡ last_len bits items at

-- the near jump to an address, with an offset of the mode's own operand size
pub record JumpFacts : Type 0 where
  -- as one that stands at its target it is well placed
  pub jump-placed : (bits : Bits) (t len : ℕ) → t < 2 ^ width bits → len ≡ plain_length bits (branch_to (near_code Jump bits) None t)
      → IsPlaced bits (record { ip = t; len = len; instr = branch_to (near_code Jump bits) None t })
  -- outside 64-bit mode it is encoded at every address
  pub jump-encoded : (bits : Bits) (at t : ℕ) → (bits ≡ B64 → ⊥) → t < 2 ^ width bits
      → (bytes : List ℕ) × (encoding bits at (branch_to (near_code Jump bits) None t) ≡ Ok bytes)
