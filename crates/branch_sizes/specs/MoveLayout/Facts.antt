-- What holds of every layout: where its blocks end, and what their slots have.
use Rattle.std.specs.Prelude.{◌≡◌, ℕ, ◌+◌, ◌*◌, ◌%◌, ◌<◌, ◌≤◌, true, List, length, slice_index_or}
use Rattle.branch_sizes.specs.Plan.{BlockPlan, IsWellFormed}
use Rattle.branch_sizes.specs.Layout.{first_of_block, span_at, image_length, place}
use Rattle.branch_sizes.specs.declared.move_layout.layout.Layout.{Layout}
use Rattle.branch_sizes.specs.MoveLayout.Laid.{IsLaid, is_far_at, goal_address, far_goals, slots_of, all_slots, images_end, slots_start, new_end, slot_address, no_end}
use Rattle.branch_sizes.specs.MoveLayout.Slots.{place_among}

-- where the images, the gap and the slots of a block end
pub record EndFacts : Type 0 where
  -- each image ends at or before the end of the images
  pub place-within : (p : BlockPlan) → IsWellFormed p → (layout : List ℕ) (b i k : ℕ) → b < length p.spans → i < (span_at p.spans b).count
      → k ≡ first_of_block p.spans b + i → place p layout k + image_length p layout k ≤ images_end p layout b
  -- the slots stand at a multiple of 8 behind the images
  pub images-le-slots : (p : BlockPlan) (layout : List ℕ) (b : ℕ) → images_end p layout b ≤ slots_start p layout b
  pub slots-aligned : (p : BlockPlan) (layout : List ℕ) (b : ℕ) → slots_start p layout b % 8 ≡ 0
  -- a block ends behind its slots, and without slots where its images do
  pub images-le-end : (p : BlockPlan) (layout : List ℕ) (b : ℕ) → images_end p layout b ≤ new_end p layout b
  pub end-without-slots : (p : BlockPlan) (layout : List ℕ) (b : ℕ) → length (slots_of p layout b) ≡ 0 → new_end p layout b ≡ images_end p layout b
  pub end-with-slots : (p : BlockPlan) (layout : List ℕ) (b : ℕ) → 0 < length (slots_of p layout b)
      → new_end p layout b ≡ slots_start p layout b + 8 * length (slots_of p layout b)
  -- what is kept of a block in a layout
  pub end-images : (p : BlockPlan) (layout : List ℕ) (laid : Layout) → IsLaid p layout laid → (b : ℕ) → b < length p.spans
      → (slice_index_or laid.ends.items b no_end).images ≡ images_end p layout b
  pub end-slots : (p : BlockPlan) (layout : List ℕ) (laid : Layout) → IsLaid p layout laid → (b : ℕ) → b < length p.spans
      → (slice_index_or laid.ends.items b no_end).slots ≡ length (slots_of p layout b)
  pub end-end : (p : BlockPlan) (layout : List ℕ) (laid : Layout) → IsLaid p layout laid → (b : ℕ) → b < length p.spans
      → (slice_index_or laid.ends.items b no_end).end ≡ new_end p layout b

-- the slots of a block
pub record SlotFacts : Type 0 where
  -- there are no more than items
  pub length-far_goals : (p : BlockPlan) (layout : List ℕ) (first n : ℕ) → length (far_goals p layout first n) ≤ n
  pub few-slots : (p : BlockPlan) (layout : List ℕ) (b : ℕ) → length (slots_of p layout b) ≤ (span_at p.spans b).count
  pub length-all_slots : (p : BlockPlan) (layout : List ℕ) (b : ℕ)
      → length (all_slots p layout (b + 1)) ≡ length (all_slots p layout b) + length (slots_of p layout b)
  -- item k, which is item i of block b and has a far form, has a slot with its goal
  pub slot-number-below : (p : BlockPlan) (layout : List ℕ) (b i k : ℕ) → i < (span_at p.spans b).count → k ≡ first_of_block p.spans b + i
      → is_far_at p layout k ≡ true → place_among (slots_of p layout b) (goal_address p layout k) < length (slots_of p layout b)
  pub slot-has-goal : (p : BlockPlan) (layout : List ℕ) (b i k : ℕ) → i < (span_at p.spans b).count → k ≡ first_of_block p.spans b + i
      → is_far_at p layout k ≡ true → slice_index_or (slots_of p layout b) (place_among (slots_of p layout b) (goal_address p layout k)) 0 ≡ goal_address p layout k
  pub slot-from : (p : BlockPlan) (layout : List ℕ) (b i k : ℕ) → i < (span_at p.spans b).count → k ≡ first_of_block p.spans b + i
      → is_far_at p layout k ≡ true → slots_start p layout b ≤ slot_address p layout b (goal_address p layout k)
  pub slot-within : (p : BlockPlan) (layout : List ℕ) (b i k : ℕ) → i < (span_at p.spans b).count → k ≡ first_of_block p.spans b + i
      → is_far_at p layout k ≡ true → slot_address p layout b (goal_address p layout k) + 8 ≤ new_end p layout b
