-- Items whose reading is fixed whatever bytes follow, and the steps through them.
use Rattle.std.specs.Prelude.{◌≡◌, ◌⊎◌, ℕ, ◌+◌, ◌<◌, ◌≤◌, Bool, true, false, List, [], All, length, drop, Option, Some, None}
use Rattle.x86_values.specs.declared.Bits.{Bits}
use Rattle.decoder.specs.declared.DecodeError.{DecodeError}
use Rattle.sweep.specs.declared.sweep_text.lines.Lines.{Lines}
use Rattle.opcode_rows.specs.Sweep.{Item, IsItemAt, Sweeps, item_len}
use Rattle.sweep.specs.SweepText.Lines.{stop_of, LineGoesOn, line_of, lines_of}
use Rattle.byte_ports.specs.Ports.{with_back}
use Rattle.sweep.specs.RunParts.Writing.{HoldsFront, Moves}
use Rattle.sweep.specs.declared.ready.Step.{Step}
use Rattle.sweep.specs.declared.ready.Step.TheVariants.{Line, Stop}
use Rattle.sweep.specs.declared.ready.Handled.{Handled}

-- Of the first n bytes of some code, 15 stand from the item's start on. An instruction has no more (SDM volume 2, 2.3.11), so it is read the same
-- whatever follows.
abbrev pub IsReady : ℕ → Item → Type 0
IsReady n item = item.offset + 15 ≤ n

-- the line of the item at the front of some bytes went to the sink or is held back, behind what was held back before
pub record WritesItem (bits : Bits) (base : ℕ) (lines : Lines) (at : ℕ) (bytes : List ℕ) (held held' : Option (List ℕ)) (before after : List ℕ) (count : ℕ) : Type 0 where
  pub item : Item
  pub is_at : IsItemAt bits base at bytes item
  pub goes_on : LineGoesOn lines item
  pub count_is : count ≡ item_len item.reading
  pub moves : Moves held held' before after (line_of bits base lines item)

-- the command ends at the item at the front of some bytes, and nothing was written
pub record StopsAtItem (bits : Bits) (base : ℕ) (lines : Lines) (at : ℕ) (bytes : List ℕ) (held held' : Option (List ℕ)) (before after : List ℕ) (error : DecodeError) : Type 0 where
  pub item : Item
  pub is_at : IsItemAt bits base at bytes item
  pub stops : stop_of lines item.reading ≡ Some error
  pub held_is : held' ≡ held
  pub kept : after ≡ before

-- a step through code
abbrev pub TakesStep : Bits → ℕ → Lines → ℕ → List ℕ → Option (List ℕ) → Option (List ℕ) → List ℕ → List ℕ → Step → Type 0
TakesStep bits base lines at bytes held held' before after (Line count) = WritesItem bits base lines at bytes held held' before after count
TakesStep bits base lines at bytes held held' before after (Stop error) = StopsAtItem bits base lines at bytes held held' before after error

-- why a command handles no more of some bytes at an offset: it ends at their first item, or fewer than 15 are left, none at the end of the input
abbrev pub HandlesEnd : Bits → ℕ → Lines → ℕ → List ℕ → Bool → Option DecodeError → Type 0
HandlesEnd bits base lines at rest ended None = (length rest < 15) × (ended ≡ true → rest ≡ [])
HandlesEnd bits base lines at rest ended (Some error) =
    (last : Item) × (IsItemAt bits base at rest last × ((stop_of lines last.reading ≡ Some error) × ((15 ≤ length rest) ⊎ (ended ≡ true))))

-- the lines of the items at the front of some bytes, which stand at an offset, were written, as far as the items are ready or the input has ended
pub record HandlesItems (bits : Bits) (base : ℕ) (lines : Lines) (at : ℕ) (bytes : List ℕ) (ended : Bool) (held held' : Option (List ℕ)) (handled : Handled) : Type 0 where
  pub items : List Item
  pub within : handled.used ≤ length bytes
  pub sweeps : Sweeps bits base at bytes items (drop handled.used bytes)
  pub all : All (LineGoesOn lines) items
  pub ready : ended ≡ false → All (IsReady (at + length bytes)) items
  pub count_is : handled.count ≡ length items
  pub written : held' ≡ with_back held (lines_of bits base lines items)
  pub ends : HandlesEnd bits base lines (at + handled.used) (drop handled.used bytes) ended handled.stop

-- the front of those lines was written, again of items that are ready, unless the input has ended
pub record HandlesFront (bits : Bits) (base : ℕ) (lines : Lines) (at : ℕ) (bytes : List ℕ) (ended : Bool) (held held' : Option (List ℕ)) : Type 0 where
  pub items : List Item
  pub rest : List ℕ
  pub sweeps : Sweeps bits base at bytes items rest
  pub all : All (LineGoesOn lines) items
  pub ready : ended ≡ false → All (IsReady (at + length bytes)) items
  pub written : HoldsFront held held' (lines_of bits base lines items)
