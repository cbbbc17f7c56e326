-- The plan and the layout of some tables, and how far a layout is laid out.
use Rattle.std.specs.Prelude.{◌≡◌, ℕ, ◌<◌, List, length, slice_index_or}
use Rattle.branch_sizes.specs.Plan.{BlockPlan, plan_of}
use Rattle.branch_sizes.specs.declared.move_layout.layout.Fragment.{Fragment}
use Rattle.branch_sizes.specs.declared.move_layout.layout.BlockEnd.{BlockEnd}
use Rattle.branch_sizes.specs.declared.move_layout.tables.Tables.{Tables}
use Rattle.branch_sizes.specs.MoveLayout.Laid.{fragment_at, end_at, no_fragment, no_end}

-- the blocks and items of the tables
abbrev pub plan_in : Tables → BlockPlan
plan_in t = plan_of t.spans.now t.items.now

-- where the first n items stand
pub record AreFragments (p : BlockPlan) (layout : List ℕ) (n : ℕ) (fragments : List Fragment) : Type 0 where
  pub len : length fragments ≡ n
  pub each : (k : ℕ) → k < n → slice_index_or fragments k no_fragment ≡ fragment_at p layout k

-- where the first n blocks end
pub record AreEnds (p : BlockPlan) (layout : List ℕ) (n : ℕ) (ends : List BlockEnd) : Type 0 where
  pub len : length ends ≡ n
  pub each : (b : ℕ) → b < n → slice_index_or ends b no_end ≡ end_at p layout b
