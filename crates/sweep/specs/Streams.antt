-- What a stream of code leaves in its source and its sink, by its answer.
use Rattle.std.specs.Prelude.{◌≡◌, ◌⊎◌, ℕ, ◌+◌, ◌<◌, ◌≤◌, List, [], ◌∷◌, ◌++◌, All, length, take, Option, Some, Result, Ok, Err}
use Rattle.x86_values.specs.declared.Bits.{Bits}
use Rattle.decoder.specs.declared.DecodeError.{DecodeError}
use Rattle.sweep.specs.declared.sweep_text.lines.Lines.{Lines}
use Rattle.opcode_rows.specs.Sweep.{Item, IsSweep, BeginsSweep, Sweeps}
use Rattle.sweep.specs.SweepText.Lines.{stop_of, LineGoesOn, lines_of}
use Rattle.byte_ports.specs.Ports.{with_front, with_back}
use Rattle.sweep.specs.RunParts.Reads.{code_limit, ReadsAll, ReadsTooMany}
use Rattle.sweep.specs.RunParts.Writing.{HoldsFront}
use Rattle.sweep.specs.declared.error.StreamError.{StreamError}
use Rattle.sweep.specs.declared.error.StreamError.TheVariants.{BadCode, ReadFault, WriteFault, TooLarge}
use Rattle.sweep.specs.Steps.{IsReady}

-- the lines of all items of the sweep of some bytes were written, and the command goes on behind each of these so many items
pub record WritesLines (bits : Bits) (base : ℕ) (lines : Lines) (bytes : List ℕ) (count : ℕ) (held held' : Option (List ℕ)) : Type 0 where
  pub items : List Item
  pub sweep : IsSweep bits base bytes items
  pub all : All (LineGoesOn lines) items
  pub count_is : count ≡ length items
  pub written : held' ≡ with_back held (lines_of bits base lines items)

-- these are the items of the sweep of the bytes that were seen, as far as 15 bytes of each were seen
pub record AreHandled (bits : Bits) (base : ℕ) (seen : List ℕ) (items : List Item) : Type 0 where
  pub rest : List ℕ
  pub sweeps : Sweeps bits base 0 seen items rest
  pub ready : All (IsReady (length seen)) items
  pub short : length rest < 15

-- the lines of just those were written, and the command goes on behind each
pub record WritesHandled (bits : Bits) (base : ℕ) (lines : Lines) (seen : List ℕ) (held held' : Option (List ℕ)) : Type 0 where
  pub items : List Item
  pub handled : AreHandled bits base seen items
  pub all : All (LineGoesOn lines) items
  pub written : held' ≡ with_back held (lines_of bits base lines items)

-- the lines before an offset were written: there stands the first item at which the command ends, with this error
pub record WritesLinesBefore (bits : Bits) (base : ℕ) (lines : Lines) (seen : List ℕ) (offset : ℕ) (error : DecodeError) (held held' : Option (List ℕ)) : Type 0 where
  pub items : List Item
  pub last : Item
  pub sweep : BeginsSweep bits base seen (items ++ last ∷ [])
  pub all : All (LineGoesOn lines) items
  pub offset_is : last.offset ≡ offset
  pub stops : stop_of lines last.reading ≡ Some error
  pub written : held' ≡ with_back held (lines_of bits base lines items)

-- the bytes that count: those that were taken of the source, as far as the limit goes
pub record Sees (left left' : Option (List ℕ)) (seen : List ℕ) : Type 0 where
  pub taken : List ℕ
  pub read : left ≡ with_front taken left'
  pub within : length taken ≤ code_limit + 1
  pub seen_is : seen ≡ take code_limit taken

-- the bytes that count, where no byte past the limit was taken: all that were taken of the source
pub record Reads (left left' : Option (List ℕ)) (seen : List ℕ) : Type 0 where
  pub read : left ≡ with_front seen left'
  pub within : length seen ≤ code_limit

-- the item at an offset may be handled: 15 bytes of it were seen, or the input has ended
abbrev pub MayHandle : Option (List ℕ) → Option (List ℕ) → List ℕ → ℕ → Type 0
MayHandle left left' seen offset = (offset + 15 ≤ length seen) ⊎ ReadsAll code_limit left left' seen

-- the front of the lines was written: first bytes of the lines of first items, each of which may be handled, and behind each of which the command goes on
pub record WritesLinesFront (bits : Bits) (base : ℕ) (lines : Lines) (left left' : Option (List ℕ)) (seen : List ℕ) (held held' : Option (List ℕ)) : Type 0 where
  pub items : List Item
  pub sweep : BeginsSweep bits base seen items
  pub all : All (LineGoesOn lines) items
  pub may : All (λ item. MayHandle left left' seen item.offset) items
  pub written : HoldsFront held held' (lines_of bits base lines items)

-- a stream by its answer: when each may come, and what was written then
abbrev pub StreamsAs : Bits → ℕ → Lines → Option (List ℕ) → Option (List ℕ) → Option (List ℕ) → Option (List ℕ) → Type 0 → Type 0 →
    Result ℕ StreamError → Type 0
StreamsAs bits base lines left left' held held' source_rose out_rose (Ok count) =
    (bytes : List ℕ) × (ReadsAll code_limit left left' bytes × WritesLines bits base lines bytes count held held')
StreamsAs bits base lines left left' held held' source_rose out_rose (Err (BadCode offset error)) =
    (seen : List ℕ) × (Sees left left' seen × (MayHandle left left' seen offset × WritesLinesBefore bits base lines seen offset error held held'))
StreamsAs bits base lines left left' held held' source_rose out_rose (Err ReadFault) =
    source_rose × ((seen : List ℕ) × (Reads left left' seen × WritesHandled bits base lines seen held held'))
StreamsAs bits base lines left left' held held' source_rose out_rose (Err WriteFault) =
    out_rose × ((seen : List ℕ) × (Sees left left' seen × WritesLinesFront bits base lines left left' seen held held'))
StreamsAs bits base lines left left' held held' source_rose out_rose (Err (TooLarge limit)) =
    (limit ≡ code_limit) × ((bytes : List ℕ) × (ReadsTooMany code_limit left left' bytes × WritesHandled bits base lines (take code_limit bytes) held held'))
