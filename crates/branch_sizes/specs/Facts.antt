-- What holds of the blocks of some items, of the lengths of their images, of sums of these, and of the list of their forms.
use Rattle.std.specs.Prelude.{◌≡◌, ℕ, suc, ◌+◌, ◌*◌, ◌<◌, ◌≤◌, true, List, length, sum_by, get_or}
use Rattle.std.specs.List.{list_all}
use Rattle.branch_sizes.specs.declared.plan.BlockSpan.{BlockSpan}
use Rattle.branch_sizes.specs.declared.plan.Branch.{Branch}
use Rattle.branch_sizes.specs.declared.plan.Choice.{Choice}
use Rattle.branch_sizes.specs.declared.plan.Form.TheVariants.{Itself}
use Rattle.branch_sizes.specs.Plan.{BlockPlan, IsWellFormed, item_at, no_choice, no_branch, lengths_rise_from, is_fit_reach, is_fit_goal, forms_differ}
use Rattle.branch_sizes.specs.Layout.{IsLayout, AtMost, total, block_number, first_of_block, span_at, image_length, forms_of}

-- an item of a plan of so many
pub record IsBranchFit (count : ℕ) (b : Branch) : Type 0 where
  pub some : 0 < length b.choices.items
  pub few : length b.choices.items ≤ 3
  pub rises : lengths_rise_from 1 b.choices.items ≡ true
  pub reach : list_all (λ c. is_fit_reach c.reach) b.choices.items ≡ true
  pub goal : is_fit_goal count (length b.choices.items) b.goal ≡ true
  pub differ : forms_differ b.choices.items ≡ true

-- where the items of a block stand among all items
pub record BlockFacts : Type 0 where
  -- a block begins at or before each of its items, and has each of them
  pub first_le : (spans : List BlockSpan) (k : ℕ) → first_of_block spans (block_number spans k) ≤ k
  pub within_block : (spans : List BlockSpan) (k : ℕ) → k < sum_by (λ s. s.count) spans
      → k < first_of_block spans (block_number spans k) + (span_at spans (block_number spans k)).count
  -- each item has a block, and its place in that block tells which
  pub block_below : (spans : List BlockSpan) (k : ℕ) → k < sum_by (λ s. s.count) spans → block_number spans k < length spans
  pub block_at : (spans : List BlockSpan) (b k : ℕ) → b < length spans → first_of_block spans b ≤ k
      → k < first_of_block spans b + (span_at spans b).count → block_number spans k ≡ b
  -- no block begins behind all items, and behind the last block all have passed
  pub first_below : (spans : List BlockSpan) (b : ℕ) → b < length spans
      → first_of_block spans b + (span_at spans b).count ≤ sum_by (λ s. s.count) spans
  pub first_of_end : (spans : List BlockSpan) → first_of_block spans (length spans) ≡ sum_by (λ s. s.count) spans
  -- an item of a block is one of all items
  pub item_below : (spans : List BlockSpan) (b i : ℕ) → b < length spans → i < (span_at spans b).count
      → first_of_block spans b + i < sum_by (λ s. s.count) spans

-- the lengths of images in a layout
pub record LengthFacts : Type 0 where
  pub fit_item : (p : BlockPlan) → IsWellFormed p → (k : ℕ) → k < length p.items → IsBranchFit (length p.items) (item_at p k)
  -- an image has at most 15 bytes, and none is longer in a lower layout
  pub image_short : (p : BlockPlan) → IsWellFormed p → (layout : List ℕ) (k : ℕ) → image_length p layout k ≤ 15
  pub image_rises : (p : BlockPlan) → IsWellFormed p → (a c : List ℕ) → AtMost a c → IsLayout p c → (k : ℕ) → image_length p a k ≤ image_length p c k
  -- no choice is shorter than the first
  pub length_at_least : (low : ℕ) (cs : List Choice) (f : ℕ) → lengths_rise_from low cs ≡ true → f < length cs → low ≤ (get_or cs f no_choice).len

-- sums of the values of a function below a number
pub record TotalFacts : Type 0 where
  -- over any stretch the larger function adds more
  pub total_more : (f g : ℕ → ℕ) → ((k : ℕ) → f k ≤ g k) → (i j : ℕ) → i ≤ j → total f j + total g i ≤ total g j + total f i
  pub total_rises : (f : ℕ → ℕ) (i j : ℕ) → i ≤ j → total f i ≤ total f j
  pub total_small : (f : ℕ → ℕ) (m : ℕ) → ((k : ℕ) → f k ≤ m) → (n : ℕ) → total f n ≤ n * m
  -- a sum is its first value and the sum of the others
  pub total-front : (f : ℕ → ℕ) (n : ℕ) → total f (suc n) ≡ f 0 + total (λ i. f (suc i)) n

-- the forms of a layout, item by item
pub record ChosenFacts : Type 0 where
  -- there are as many as items
  pub length-forms_of : (items : List Branch) (layout : List ℕ) → length layout ≡ length items → length (forms_of items layout) ≡ length items
  -- and each is that of the item's choice
  pub get_or-forms_of : (items : List Branch) (layout : List ℕ) (k : ℕ) → length layout ≡ length items → k < length items
      → get_or (forms_of items layout) k Itself ≡ (get_or (get_or items k no_branch).choices.items (get_or layout k 0) no_choice).form
