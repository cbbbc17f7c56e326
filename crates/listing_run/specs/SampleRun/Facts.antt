-- What holds of all made code.
use Rattle.std.specs.Prelude.{◌≡◌, ℕ, ◌≤◌, List, [], ◌∷◌, None}
use Rattle.x86_values.specs.declared.Bits.TheVariants.{B64}
use Rattle.opcode_rows.specs.Sweep.{Item, IsSweep}
use Rattle.move_goals.specs.declared.items.Placed.{Placed}
use Rattle.move_goals.specs.Items.{one_span}
use Rattle.block_encoder.specs.Moved.{MovedLists, IsMoved}
use Rattle.moving_run.specs.declared.command_words.commands.BlockWords.{BlockWords}
use Rattle.sweep.specs.declared.run_parts.status.Status.{Status}
use Rattle.sweep.specs.declared.run_parts.status.Status.TheVariants.{Memory}
use Rattle.moving_run.specs.Code.{placed_in}
use Rattle.moving_run.specs.Moving.{MovesInput, IsMovingRefusal}
use Rattle.listing_run.specs.SampleRun.Generator.{sample_base, sample_code}
use Rattle.listing_run.specs.SampleRun.Sample.{moved_base}

-- the block of made code
abbrev pub made_block : List BlockWords
made_block = record { old = sample_base; new = moved_base; len = None } ∷ []

-- the code of so many instructions, as the block that is moved
pub record MadeFacts : Type 0 where
  -- its moving is refused for want of memory alone
  pub memory-alone : (n : ℕ) → n ≤ 65536 → (status : Status) → IsMovingRefusal B64 made_block (sample_code n) status → status ≡ Memory
  -- what was moved, of the items of its sweep
  pub made-moved : (n : ℕ) → n ≤ 65536 → (items : List Item) (placed : List Placed) (m : MovedLists) → IsSweep B64 sample_base (sample_code n) items →
      MovesInput B64 made_block (sample_code n) placed m →
      (placed ≡ placed_in sample_base items) × IsMoved B64 (placed_in sample_base items) (one_span (placed_in sample_base items) moved_base) m
