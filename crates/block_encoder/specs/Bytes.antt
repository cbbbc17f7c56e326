-- The bytes of moved blocks: the plain spellings of the images, and behind them the gap and the slots.
use Rattle.std.specs.Prelude.{ℕ, ◌+◌, ◌-◌, ◌==◌, if◌then◌else◌, List, [], ◌∷◌, ◌++◌, length, replicate, unwrap_or, Option, Some, None, Ok, Err}
use Rattle.std.specs.List.{flat_map, range_with_len}
use Rattle.x86_values.specs.declared.Bits.{Bits}
use Rattle.x86_values.specs.declared.Instr.{Instr}
use Rattle.plain_spelling.specs.Values.{low_bytes}
use Rattle.encoder.specs.Encoding.{encoding}
use Rattle.branch_sizes.specs.Plan.{BlockPlan}
use Rattle.branch_sizes.specs.Layout.{first_of_block, span_at}
use Rattle.move_goals.specs.BranchForms.Images.{image_of}
use Rattle.move_goals.specs.declared.items.Placed.{Placed}
use Rattle.move_goals.specs.Items.{item_at}
use Rattle.branch_sizes.specs.declared.move_layout.layout.Fragment.{Fragment}
use Rattle.branch_sizes.specs.MoveLayout.Laid.{slots_of, images_end, slots_start, fragment_at}

-- bytes in front of others, which there may not be
abbrev pub in_front : List ℕ → Option (List ℕ) → Option (List ℕ)
in_front bytes None = None
in_front bytes (Some more) = Some (bytes ++ more)

-- the plain spellings of some instructions one behind another from an address on, each at its own address; none where one of them has none
unfoldable pub bytes_from : Bits → ℕ → List Instr → Option (List ℕ)
bytes_from bits at [] = Some []
bytes_from bits at (i ∷ is) =
    elim (encoding bits at i) [ Ok bytes ↦ in_front bytes (bytes_from bits (at + length bytes) is) | Err why ↦ None ]

-- the image of an instruction in its fragment
abbrev pub fragment_image : Bits → Instr → Fragment → List Instr
fragment_image bits i fragment = image_of bits i fragment.form fragment.place fragment.goal fragment.slot

-- its bytes there
abbrev pub fragment_bytes : Bits → Instr → Fragment → Option (List ℕ)
fragment_bytes bits i fragment = bytes_from bits fragment.place (fragment_image bits i fragment)

-- the image of item k in a layout
abbrev pub image_at : Bits → List Placed → BlockPlan → List ℕ → ℕ → List Instr
image_at bits items p layout k = fragment_image bits (item_at items k).instr (fragment_at p layout k)

-- its bytes there
abbrev pub image_bytes : Bits → List Placed → BlockPlan → List ℕ → ℕ → Option (List ℕ)
image_bytes bits items p layout k = fragment_bytes bits (item_at items k).instr (fragment_at p layout k)

-- the bytes of item k, nothing where it has none
abbrev pub bytes_at : Bits → List Placed → BlockPlan → List ℕ → ℕ → List ℕ
bytes_at bits items p layout k = unwrap_or (image_bytes bits items p layout k) []

-- the bytes of the images of block b
unfoldable pub block_images : Bits → List Placed → BlockPlan → List ℕ → ℕ → List ℕ
block_images bits items p layout b =
    flat_map (bytes_at bits items p layout) (range_with_len (first_of_block p.spans b) (span_at p.spans b).count)

-- the bytes between the images and the slots of block b; without a slot there is no gap
unfoldable pub gap_bytes : BlockPlan → List ℕ → ℕ → List ℕ
gap_bytes p layout b =
    if length (slots_of p layout b) == 0 then [] else replicate (slots_start p layout b - images_end p layout b) 0xCC

-- the bytes of some slots: each has its goal in 8 bytes, the lowest first
abbrev pub slot_bytes : List ℕ → List ℕ
slot_bytes slots = flat_map (low_bytes 8) slots

-- the bytes of block b
unfoldable pub block_bytes : Bits → List Placed → BlockPlan → List ℕ → ℕ → List ℕ
block_bytes bits items p layout b =
    block_images bits items p layout b ++ (gap_bytes p layout b ++ slot_bytes (slots_of p layout b))

-- the bytes of the first n blocks, one behind another
abbrev pub bytes_of_blocks : Bits → List Placed → BlockPlan → List ℕ → ℕ → List ℕ
bytes_of_blocks bits items p layout n = flat_map (block_bytes bits items p layout) (range_with_len 0 n)
