-- What is told of made code: how it is listed and moved, in six numbers.
use Rattle.std.specs.Prelude.{◌≡◌, ◌⊎◌, ℕ, if◌then◌else◌, List, [], ◌∷◌, ◌++◌, length, sum, slice_index_or, Option, codes, decimal}
use Rattle.x86_values.specs.declared.Bits.TheVariants.{B64}
use Rattle.x86_values.specs.declared.Instr.{Instr}
use Rattle.opcode_rows.specs.Sweep.{Item, IsSweep}
use Rattle.text_parts.specs.declared.style.Style.TheVariants.{Intel}
use Rattle.sweep.specs.SweepText.Listing.{listing}
use Rattle.branch_sizes.specs.declared.plan.Form.{Form}
use Rattle.branch_sizes.specs.declared.plan.Form.TheVariants.{Itself}
use Rattle.branch_sizes.specs.Plan.{no_choice, is_same_form}
use Rattle.branch_sizes.specs.Layout.{total}
use Rattle.move_goals.specs.BranchForms.Choices.{choices_of}
use Rattle.move_goals.specs.declared.items.Placed.{Placed}
use Rattle.move_goals.specs.Items.{item_at, one_span}
use Rattle.block_encoder.specs.Moved.{MovedLists, IsMoved}
use Rattle.moving_run.specs.Code.{placed_in}
use Rattle.byte_ports.specs.Ports.{with_back}
use Rattle.sweep.specs.declared.run_parts.status.Status.{Status}
use Rattle.sweep.specs.declared.run_parts.status.Status.TheVariants.{Done, WriteFault, Memory}
use Rattle.sweep.specs.RunParts.Writing.{HoldsFront}
use Rattle.listing_run.specs.SampleRun.Generator.{sample_base, sample_code}
use Rattle.listing_run.specs.declared.sample_run.summary.Summary.{Summary}

-- the address that made code is moved to
abbrev pub moved_base : ℕ
moved_base = 0x10400000

-- ---- the numbers

-- the first of the forms of an instruction
unfoldable pub first_form : Instr → Form
first_form i = (slice_index_or (choices_of B64 i) 0 no_choice).form

-- 1 where item k has another form than its first
abbrev pub grows : List Placed → List Form → ℕ → ℕ
grows items forms k = if is_same_form (slice_index_or forms k Itself) (first_form (item_at items k).instr) then 0 else 1

-- how many items do
unfoldable pub grown_count : List Placed → List Form → ℕ
grown_count items forms = total (grows items forms) (length items)

-- What is told of n instructions: their bytes are swept and listed, and moved as one block.
pub record IsSample (n : ℕ) (s : Summary) : Type 0 where
  pub items : List Item
  pub sweep : IsSweep B64 sample_base (sample_code n) items
  pub moved : MovedLists
  pub is_moved : IsMoved B64 (placed_in sample_base items) (one_span (placed_in sample_base items) moved_base) moved
  pub instructions : s.instructions ≡ n
  pub bytes : s.bytes ≡ length (sample_code n)
  pub text : s.text ≡ length (listing B64 sample_base Intel items)
  pub moved_bytes : s.moved ≡ length moved.bytes
  pub grown_items : s.grown ≡ grown_count (placed_in sample_base items) moved.forms
  pub sum_is : s.sum ≡ sum moved.bytes

-- ---- the text

-- a line: a word, a number in decimal behind a space, and a line feed
abbrev pub line : List ℕ → ℕ → List ℕ
line word n = word ++ (32 ∷ (decimal n ++ 10 ∷ []))

-- the six lines
unfoldable pub summary_text : Summary → List ℕ
summary_text s =
    line (codes "instructions") s.instructions ++ (line (codes "bytes") s.bytes ++ (line (codes "text") s.text
    ++ (line (codes "moved") s.moved ++ (line (codes "grown") s.grown ++ line (codes "sum") s.sum))))

-- ---- the command

-- the command by its status: when each may come, and what was written then
abbrev pub SamplesAs : ℕ → Option (List ℕ) → Option (List ℕ) → Type 0 → Status → Type 0
SamplesAs n held held' rose Done = (s : Summary) × (IsSample n s × (held' ≡ with_back held (summary_text s)))
SamplesAs n held held' rose WriteFault = rose × ((s : Summary) × (IsSample n s × HoldsFront held held' (summary_text s)))
SamplesAs n held held' rose Memory = held' ≡ held
SamplesAs n held held' rose _ = ⊥

-- the command that meets no fault is done, or wants memory
abbrev pub CompletesSample : Status → Type 0
CompletesSample status = (status ≡ Done) ⊎ (status ≡ Memory)
