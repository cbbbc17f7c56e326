-- What the commands that move code leave, by their status.
use Rattle.std.specs.Prelude.{◌≡◌, ◌⊎◌, ℕ, ◌<◌, ◌≤◌, List, length, Option, Some, None}
use Rattle.x86_values.specs.declared.Bits.{Bits}
use Rattle.opcode_rows.specs.Sweep.{Item}
use Rattle.byte_ports.specs.Ports.{with_back}
use Rattle.branch_sizes.specs.declared.plan.BlockSpan.{BlockSpan}
use Rattle.branch_sizes.specs.Layout.{block_number}
use Rattle.move_goals.specs.declared.items.Placed.{Placed}
use Rattle.move_goals.specs.Plan.{plan_for}
use Rattle.block_encoder.specs.declared.error.MoveError.TheVariants as error
use Rattle.block_encoder.specs.Aims.{StandsAtPlace, GoesToGoal}
use Rattle.block_encoder.specs.Moved.{MovedLists, IsMoved, IsRefused}
use Rattle.block_encoder.specs.Read.{IsReadAsImages}
use Rattle.moving_run.specs.declared.command_words.commands.BlockWords.{BlockWords}
use Rattle.sweep.specs.declared.run_parts.status.Status.{Status}
use Rattle.sweep.specs.declared.run_parts.status.Status.TheVariants.{Done, BadCode, ReadFault, WriteFault, Memory, TooLarge, Wraps, TooFar, TooMany}
use Rattle.sweep.specs.RunParts.Reads.{whole_limit, ReadsAll, ReadsTooMany}
use Rattle.sweep.specs.RunParts.Writing.{HoldsFront}
use Rattle.moving_run.specs.declared.moving.Wanted.{Wanted}
use Rattle.moving_run.specs.declared.moving.Wanted.TheVariants.{MovedBytes, MapLines}
use Rattle.moving_run.specs.Code.{AreSwept, IsBadAt, all_placed, all_spans}
use Rattle.moving_run.specs.Map.{map_lines}

-- what is written of moved blocks: their bytes, or a line for each instruction
abbrev pub wanted_text : Wanted → Bits → List Placed → MovedLists → List ℕ
wanted_text MovedBytes bits items m = m.bytes
wanted_text MapLines bits items m = map_lines bits items m.starts m.forms (length items)

-- Moved blocks are read as they were written: of each block the sweep from its new base of the bytes before its gap gives the instructions of the images
-- in order, with their lengths; each image stands at its place and goes to the goal of its item.
pub record IsMovedReadBack (bits : Bits) (items : List Placed) (spans : List BlockSpan) (layout : List ℕ) : Type 0 where
  pub blocks : (b : ℕ) → b < length spans → IsReadAsImages bits items (plan_for bits spans items) layout b
  pub places : (k : ℕ) → k < length items → StandsAtPlace bits items (plan_for bits spans items) layout (block_number spans k) k
  pub goals : (k : ℕ) → k < length items → GoesToGoal bits items (plan_for bits spans items) layout (block_number spans k) k

-- the blocks of the input have instructions alone, and are moved; what is written is read back as the images
pub record MovesCode (wanted : Wanted) (bits : Bits) (words : List BlockWords) (bytes text : List ℕ) : Type 0 where
  pub items : List (List Item)
  pub swept : AreSwept bits words bytes items
  pub moved : MovedLists
  pub is_moved : IsMoved bits (all_placed words items) (all_spans words items) moved
  pub read_back : IsMovedReadBack bits (all_placed words items) (all_spans words items) is_moved.layout
  pub text_is : text ≡ wanted_text wanted bits (all_placed words items) moved

-- the blocks of the input have instructions alone, and their moving is refused
pub record RefusesBlocks (bits : Bits) (words : List BlockWords) (bytes : List ℕ) (why : Rattle.block_encoder.specs.declared.error.MoveError.MoveError) : Type 0 where
  pub items : List (List Item)
  pub swept : AreSwept bits words bytes items
  pub refused : IsRefused bits (all_placed words items) (all_spans words items) why

-- the blocks of the input have these instructions alone, and were moved
pub record MovesInput (bits : Bits) (words : List BlockWords) (bytes : List ℕ) (placed : List Placed) (m : MovedLists) : Type 0 where
  pub items : List (List Item)
  pub swept : AreSwept bits words bytes items
  pub placed_is : placed ≡ all_placed words items
  pub is_moved : IsMoved bits (all_placed words items) (all_spans words items) m

-- a status that tells why the blocks of the input are not moved
abbrev pub IsMovingRefusal : Bits → List BlockWords → List ℕ → Status → Type 0
IsMovingRefusal bits words bytes Memory = Unit {0}
IsMovingRefusal bits words bytes (BadCode offset error) = IsBadAt bits words bytes 0 offset error
IsMovingRefusal bits words bytes (TooMany count) = RefusesBlocks bits words bytes (error.TooMany count)
IsMovingRefusal bits words bytes (Wraps end) = RefusesBlocks bits words bytes (error.Wraps end)
IsMovingRefusal bits words bytes (TooFar at target) = RefusesBlocks bits words bytes (error.TooFar at target)
IsMovingRefusal bits words bytes _ = ⊥

-- the answer for some input: a status, and what is written at Done
abbrev pub IsMovingAnswer : Wanted → Bits → List BlockWords → List ℕ → Status → Type 0
IsMovingAnswer wanted bits words bytes Done = (text : List ℕ) × MovesCode wanted bits words bytes text
IsMovingAnswer wanted bits words bytes (BadCode offset error) = IsBadAt bits words bytes 0 offset error
IsMovingAnswer wanted bits words bytes (TooMany count) = RefusesBlocks bits words bytes (error.TooMany count)
IsMovingAnswer wanted bits words bytes (Wraps end) = RefusesBlocks bits words bytes (error.Wraps end)
IsMovingAnswer wanted bits words bytes (TooFar at target) = RefusesBlocks bits words bytes (error.TooFar at target)
IsMovingAnswer wanted bits words bytes _ = ⊥

-- a refusal of the code, after which nothing was written
abbrev pub RefusesMoving : Wanted → Bits → List BlockWords → Option (List ℕ) → Option (List ℕ) → Option (List ℕ) → Option (List ℕ) → Status → Type 0
RefusesMoving wanted bits words left left' held held' status =
    ((bytes : List ℕ) × (ReadsAll whole_limit left left' bytes × IsMovingAnswer wanted bits words bytes status)) × (held' ≡ held)

-- a command that moves code, by its status: when each may come, and what was written then
abbrev pub MovesAs : Wanted → Bits → List BlockWords → Option (List ℕ) → Option (List ℕ) → Option (List ℕ) → Option (List ℕ) → Type 0 → Type 0 → Status → Type 0
MovesAs wanted bits words left left' held held' source_rose out_rose Done =
    (bytes : List ℕ) × (ReadsAll whole_limit left left' bytes
    × ((text : List ℕ) × (MovesCode wanted bits words bytes text × (held' ≡ with_back held text))))
MovesAs wanted bits words left left' held held' source_rose out_rose WriteFault =
    out_rose × ((bytes : List ℕ) × (ReadsAll whole_limit left left' bytes
    × ((text : List ℕ) × (MovesCode wanted bits words bytes text × HoldsFront held held' text))))
MovesAs wanted bits words left left' held held' source_rose out_rose ReadFault = source_rose × (held' ≡ held)
MovesAs wanted bits words left left' held held' source_rose out_rose Memory = held' ≡ held
MovesAs wanted bits words left left' held held' source_rose out_rose (TooLarge limit) =
    (limit ≡ whole_limit) × (((bytes : List ℕ) × ReadsTooMany whole_limit left left' bytes) × (held' ≡ held))
MovesAs wanted bits words left left' held held' source_rose out_rose (BadCode offset error) =
    RefusesMoving wanted bits words left left' held held' (BadCode offset error)
MovesAs wanted bits words left left' held held' source_rose out_rose (TooMany count) =
    RefusesMoving wanted bits words left left' held held' (TooMany count)
MovesAs wanted bits words left left' held held' source_rose out_rose (Wraps end) = RefusesMoving wanted bits words left left' held held' (Wraps end)
MovesAs wanted bits words left left' held held' source_rose out_rose (TooFar at target) =
    RefusesMoving wanted bits words left left' held held' (TooFar at target)
MovesAs wanted bits words left left' held held' source_rose out_rose _ = ⊥

-- Such a command that meets no fault answers what the code says, or wants memory; above the limit it says so, or wants memory.
abbrev pub CompletesMoving : Wanted → Bits → List BlockWords → Option (List ℕ) → Status → Type 0
CompletesMoving wanted bits words (Some bytes) status =
    (length bytes ≤ whole_limit → (answer : Status) → IsMovingAnswer wanted bits words bytes answer → (status ≡ answer) ⊎ (status ≡ Memory))
    × (whole_limit < length bytes → (status ≡ TooLarge whole_limit) ⊎ (status ≡ Memory))
CompletesMoving wanted bits words None status = ((status ≡ ReadFault) ⊎ (status ≡ WriteFault)) → ⊥
