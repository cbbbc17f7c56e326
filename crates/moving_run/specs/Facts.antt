-- What holds of all code that is moved.
use Rattle.std.specs.Prelude.{◌≡◌, ℕ, List, All, length}
use Rattle.x86_values.specs.declared.Bits.{Bits}
use Rattle.decoder.specs.declared.DecodeError.{DecodeError}
use Rattle.opcode_rows.specs.Sweep.{Item, IsSweep}
use Rattle.branch_sizes.specs.declared.plan.BlockSpan.{BlockSpan}
use Rattle.move_goals.specs.declared.items.Placed.{Placed}
use Rattle.move_goals.specs.Items.{AreSpansOf, ArePlaced, first_old_pass}
use Rattle.block_encoder.specs.Moved.{MovedLists, IsMoved}
use Rattle.moving_run.specs.declared.command_words.commands.BlockWords.{BlockWords}
use Rattle.sweep.specs.declared.run_parts.status.Status.{Status}
use Rattle.moving_run.specs.declared.moving.Wanted.{Wanted}
use Rattle.moving_run.specs.Code.{IsInstruction, AreSwept, BlockStopsAt, IsBadAt, placed_in, all_placed, all_spans}
use Rattle.moving_run.specs.Ends.{first_pass}
use Rattle.moving_run.specs.Moving.{IsMovedReadBack, MovesInput, IsMovingAnswer}

-- the instructions of some input, and its first single byte
pub record InputFacts : Type 0 where
  pub swept_unique : (bits : Bits) (words : List BlockWords) (bytes : List ℕ) (a b : List (List Item)) → AreSwept bits words bytes a →
      AreSwept bits words bytes b → a ≡ b
  -- bytes that are instructions alone have no single byte
  pub whole_stops : (bits : Bits) (base : ℕ) (bytes : List ℕ) (offset : ℕ) (error : DecodeError) (items : List Item) → IsSweep bits base bytes items →
      All IsInstruction items → BlockStopsAt bits base bytes offset error → ⊥
  pub stops_unique : (bits : Bits) (base : ℕ) (bytes : List ℕ) (at at' : ℕ) (e f : DecodeError) → BlockStopsAt bits base bytes at e →
      BlockStopsAt bits base bytes at' f → (at ≡ at') × (e ≡ f)
  pub swept_not_bad : (bits : Bits) (words : List BlockWords) (bytes : List ℕ) (start at : ℕ) (error : DecodeError) →
      IsBadAt bits words bytes start at error → (items : List (List Item)) → AreSwept bits words bytes items → ⊥

-- the instructions of swept blocks with their old addresses
pub record PlacedFacts : Type 0 where
  -- one for each item
  pub placed_length : (base : ℕ) (items : List Item) → All IsInstruction items → length (placed_in base items) ≡ length items
  pub are_placed : (bits : Bits) (words : List BlockWords) (bytes : List ℕ) (items : List (List Item)) → AreSwept bits words bytes items →
      ArePlaced bits (all_placed words items)
  -- the first old end that passes is the one that the lengths tell
  pub ends_are : (bits : Bits) (words : List BlockWords) (bytes : List ℕ) (items : List (List Item)) → AreSwept bits words bytes items →
      first_old_pass bits (all_spans words items) (all_placed words items) ≡ first_pass bits words bytes
  -- moved blocks have a form for each instruction
  pub forms_length : (bits : Bits) (words : List BlockWords) (bytes : List ℕ) (placed : List Placed) (m : MovedLists) →
      MovesInput bits words bytes placed m → length m.forms ≡ length placed

-- some input has one answer
pub record MovingAnswerFacts : Type 0 where
  pub answer_unique : (wanted : Wanted) (bits : Bits) (words : List BlockWords) (bytes : List ℕ) (s t : Status) →
      IsMovingAnswer wanted bits words bytes s → IsMovingAnswer wanted bits words bytes t → s ≡ t

-- moved blocks are read as they were written
pub record ReadBackFacts : Type 0 where
  pub reads_back : (bits : Bits) (items : List Placed) (spans : List BlockSpan) → AreSpansOf items spans → ArePlaced bits items →
      (m : MovedLists) (moved : IsMoved bits items spans m) → IsMovedReadBack bits items spans moved.layout
