-- What stands where in a layout of moved blocks: the goals as addresses, and behind each block the gap and the slots.
use Rattle.std.specs.Prelude.{◌≡◌, ℕ, zero, suc, ◌+◌, ◌-◌, ◌*◌, ◌/◌, ◌<◌, ◌==◌, Bool, true, false, not, ◌&&◌, if◌then◌else◌, List, [], ◌∷◌, ◌++◌, length, slice_index_or}
use Rattle.std.specs.List.{list_any, flat_map, range_with_len, position_or_len}
use Rattle.branch_sizes.specs.declared.plan.Form.{Form}
use Rattle.branch_sizes.specs.declared.plan.Form.TheVariants.{Itself, Far, FarBridge}
use Rattle.branch_sizes.specs.declared.plan.Goal.{Goal}
use Rattle.branch_sizes.specs.declared.plan.Goal.TheVariants.{None as NoGoal, Inside, Outside}
use Rattle.branch_sizes.specs.declared.plan.Reach.TheVariants.{Always}
use Rattle.branch_sizes.specs.Plan.{BlockPlan, item_at}
use Rattle.branch_sizes.specs.Layout.{IsLeast, total, block_number, first_of_block, span_at, item_choice, image_length, place}
use Rattle.branch_sizes.specs.declared.move_layout.layout.Fragment.{Fragment}
use Rattle.branch_sizes.specs.declared.move_layout.layout.BlockEnd.{BlockEnd}
use Rattle.branch_sizes.specs.declared.move_layout.layout.Layout.{Layout}

-- ---- goals

-- a goal as an address: the place of an item, or the address that stays; 0 without a goal
abbrev pub goal_value : BlockPlan → List ℕ → Goal → ℕ
goal_value p layout NoGoal = 0
goal_value p layout (Inside j) = place p layout j
goal_value p layout (Outside t) = t

-- the goal of item k
abbrev pub goal_address : BlockPlan → List ℕ → ℕ → ℕ
goal_address p layout k = goal_value p layout (item_at p k).goal

-- ---- slots

-- a form that goes through a slot
abbrev pub has_far_form : Form → Bool
has_far_form Far = true
has_far_form FarBridge = true
has_far_form _ = false

-- item k has such a form
abbrev pub is_far_at : BlockPlan → List ℕ → ℕ → Bool
is_far_at p layout k = has_far_form (item_choice p layout k).form

-- a number stands in a list
abbrev pub has_number : List ℕ → ℕ → Bool
has_number xs n = list_any (λ x. x == n) xs

-- a goal behind others, where it is far and not yet among them
abbrev pub with_goal : List ℕ → Bool → ℕ → List ℕ
with_goal slots far goal = if far && not (has_number slots goal) then slots ++ goal ∷ [] else slots

-- the different goals of the far forms of n items from one on, in the order of first use
abbrev pub far_goals : BlockPlan → List ℕ → ℕ → ℕ → List ℕ
far_goals p layout first zero = []
far_goals p layout first (suc n) =
    with_goal (far_goals p layout first n) (is_far_at p layout (first + n)) (goal_address p layout (first + n))

-- the slots of block b: each has a goal of the far forms in it
unfoldable pub slots_of : BlockPlan → List ℕ → ℕ → List ℕ
slots_of p layout b = far_goals p layout (first_of_block p.spans b) (span_at p.spans b).count

-- ---- ends

-- the address behind the images of block b
unfoldable pub images_end : BlockPlan → List ℕ → ℕ → ℕ
images_end p layout b =
    let first = first_of_block p.spans b in
    let span = span_at p.spans b in
    span.new_base + (total (image_length p layout) (first + span.count) - total (image_length p layout) first)

-- the next multiple of 8
abbrev pub next_eighth : ℕ → ℕ
next_eighth n = (n + 7) / 8 * 8

-- the address of the first slot of block b
abbrev pub slots_start : BlockPlan → List ℕ → ℕ → ℕ
slots_start p layout b = next_eighth (images_end p layout b)

-- the address behind block b: behind its slots, where it has some
unfoldable pub new_end : BlockPlan → List ℕ → ℕ → ℕ
new_end p layout b =
    if length (slots_of p layout b) == 0 then images_end p layout b
    else slots_start p layout b + 8 * length (slots_of p layout b)

-- the address of the slot of block b that has a goal
unfoldable pub slot_address : BlockPlan → List ℕ → ℕ → ℕ → ℕ
slot_address p layout b goal = slots_start p layout b + 8 * position_or_len (λ x. x == goal) (slots_of p layout b)

-- ---- what is known of each item and each block

-- item k: its form, the length of its image, its place, its goal, and the address of its slot, 0 where it has none
unfoldable pub fragment_at : BlockPlan → List ℕ → ℕ → Fragment
fragment_at p layout k = record {
  form = (item_choice p layout k).form;
  len = (item_choice p layout k).len;
  reach = (item_choice p layout k).reach;
  place = place p layout k;
  goal = goal_address p layout k;
  slot = if is_far_at p layout k then slot_address p layout (block_number p.spans k) (goal_address p layout k) else 0;
}

-- block b: where its images end, how many slots it has, and where it ends
unfoldable pub end_at : BlockPlan → List ℕ → ℕ → BlockEnd
end_at p layout b = record {
  images = images_end p layout b;
  slots = length (slots_of p layout b);
  end = new_end p layout b;
}

-- what stands for a fragment that is not there
abbrev pub no_fragment : Fragment
no_fragment = record { form = Itself; len = 0; reach = Always; place = 0; goal = 0; slot = 0 }

-- and for an end
abbrev pub no_end : BlockEnd
no_end = record { images = 0; slots = 0; end = 0 }

-- the slots of the first n blocks, one behind another
abbrev pub all_slots : BlockPlan → List ℕ → ℕ → List ℕ
all_slots p layout n = flat_map (slots_of p layout) (range_with_len 0 n)

-- what is known of all items and blocks in a layout
pub record IsLaid (p : BlockPlan) (layout : List ℕ) (laid : Layout) : Type 0 where
  pub fragment_count : length laid.fragments.items ≡ length p.items
  pub fragments : (k : ℕ) → k < length p.items → slice_index_or laid.fragments.items k no_fragment ≡ fragment_at p layout k
  pub end_count : length laid.ends.items ≡ length p.spans
  pub ends : (b : ℕ) → b < length p.spans → slice_index_or laid.ends.items b no_end ≡ end_at p layout b
  pub slots : laid.slots.items ≡ all_slots p layout (length p.spans)

-- what stands where in the least layout
abbrev pub IsLaidLeast : BlockPlan → Layout → Type 0
IsLaidLeast p laid = (layout : List ℕ) × IsLeast p layout × IsLaid p layout laid
