-- What a layout says of each item and each block: where blocks end, and what the slots have.
use Rattle.std.proofs.Common.{◌≡◌, ℕ, ◌+◌, ◌*◌, ◌%◌, ◌<◌, ◌≤◌, List, length, get_or, true, arith, ap, ◌∙◌, length-append}
use Rattle.std.proofs.lemmas.Bool.{cond_both, cond-true, cond-false, eq-eqb, eqb-true, ne_eqb}
use Rattle.std.proofs.lemmas.List.Sums.{passes_at_first}
use Rattle.std.specs.Prelude.{◌==◌}
use Rattle.branch_sizes.specs.Plan.{BlockPlan}
use Rattle.branch_sizes.specs.Layout.{first_of_block, span_at}
use Rattle.branch_sizes.specs.declared.move_layout.layout.Layout.{Layout}
use Rattle.branch_sizes.specs.MoveLayout.Laid.{IsLaid, is_far_at, goal_address, slots_of, all_slots, images_end, slots_start, new_end, slot_address, end_at, no_end}
use Rattle.branch_sizes.specs.MoveLayout.Slots.{place_among}
use Rattle.branch_sizes.proofs.MoveLayout.Blocks.{length-far_goals, far_listed, slots_more}

-- ---- what is kept of a block

module _ (p : BlockPlan) (layout : List ℕ) (laid : Layout) (is : IsLaid p layout laid) (b : ℕ) (bl : b < length p.spans) where
  -- the entry of a block has the end of its images
  pub end-images : (get_or laid.ends.items b no_end).images ≡ images_end p layout b
  unfolding end_at
  end-images = ap (λ x. x.images) (is.ends b bl)

  -- the entry of a block has the number of its slots
  pub end-slots : (get_or laid.ends.items b no_end).slots ≡ length (slots_of p layout b)
  unfolding end_at
  end-slots = ap (λ x. x.slots) (is.ends b bl)

  -- the entry of a block has its new end
  pub end-end : (get_or laid.ends.items b no_end).end ≡ new_end p layout b
  unfolding end_at
  end-end = ap (λ x. x.end) (is.ends b bl)

-- ---- where a block ends

module _ (p : BlockPlan) (layout : List ℕ) (b : ℕ) where
  -- slots start after the images
  pub images-le-slots : images_end p layout b ≤ slots_start p layout b
  images-le-slots = omega arith

  -- slots start at a multiple of 8
  pub slots-aligned : slots_start p layout b % 8 ≡ 0
  slots-aligned = omega arith

  -- a block without slots ends with its images
  pub end-without-slots : length (slots_of p layout b) ≡ 0 → new_end p layout b ≡ images_end p layout b
  unfolding new_end
  end-without-slots none = cond-true _ _ _ (eq-eqb (length (slots_of p layout b)) 0 none)

  -- a block with slots ends 8 bytes after the start of its last slot
  pub end-with-slots : 0 < length (slots_of p layout b) → new_end p layout b ≡ slots_start p layout b + 8 * length (slots_of p layout b)
  unfolding new_end
  end-with-slots some = cond-false _ _ _ (ne_eqb (length (slots_of p layout b)) 0 (λ e. omega arith))

  -- the images end inside the block
  pub images-le-end : images_end p layout b ≤ new_end p layout b
  unfolding new_end
  images-le-end =
      cond_both (length (slots_of p layout b) == 0) (images_end p layout b) (slots_start p layout b + 8 * length (slots_of p layout b))
      (λ e. images_end p layout b ≤ e) (λ e. omega arith) (λ e. omega arith)

  -- a block has no more slots than items
  pub few-slots : length (slots_of p layout b) ≤ (span_at p.spans b).count
  unfolding slots_of
  few-slots = length-far_goals p layout (first_of_block p.spans b) (span_at p.spans b).count

-- ---- slots

-- a slot of the block, by its number
pub slot-at : (p : BlockPlan) (layout : List ℕ) (b n : ℕ) → n < length (slots_of p layout b)
    → slots_start p layout b + 8 * n + 8 ≤ new_end p layout b
slot-at p layout b n lt = omega (arith, end-with-slots p layout b (omega arith))

-- item k, which is item i of block b and has a far form
module _ (p : BlockPlan) (layout : List ℕ) (b i k : ℕ) (il : i < (span_at p.spans b).count) (e : k ≡ first_of_block p.spans b + i)
    (far : is_far_at p layout k ≡ true) where
  -- the goal of a far form is among the slots of its block
  pub slot-number-below : place_among (slots_of p layout b) (goal_address p layout k) < length (slots_of p layout b)
  unfolding slots_of
  slot-number-below = far_listed p layout (first_of_block p.spans b) i (span_at p.spans b).count k e il far

  -- its slot has its goal
  pub slot-has-goal : get_or (slots_of p layout b) (place_among (slots_of p layout b) (goal_address p layout k)) 0 ≡ goal_address p layout k
  slot-has-goal =
      eqb-true _ _ (passes_at_first (λ x. x == goal_address p layout k) (slots_of p layout b) 0 slot-number-below)

  -- the slot of a goal starts at or after the first slot
  pub slot-from : slots_start p layout b ≤ slot_address p layout b (goal_address p layout k)
  unfolding slot_address
  slot-from = omega arith

  -- the slot of a goal ends inside the block
  pub slot-within : slot_address p layout b (goal_address p layout k) + 8 ≤ new_end p layout b
  unfolding slot_address
  slot-within = slot-at p layout b (place_among (slots_of p layout b) (goal_address p layout k)) slot-number-below

-- the number of slots of the first blocks
pub length-all_slots : (p : BlockPlan) (layout : List ℕ) (b : ℕ)
    → length (all_slots p layout (b + 1)) ≡ length (all_slots p layout b) + length (slots_of p layout b)
length-all_slots p layout b = ap length (slots_more p layout b) ∙ length-append (all_slots p layout b) (slots_of p layout b)
