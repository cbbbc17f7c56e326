-- What a run leaves, by its command and its status.
use Rattle.std.specs.Prelude.{◌≡◌, ℕ, List, [], ◌∷◌, Option, None, Result, Ok, Err}
use Rattle.byte_ports.specs.Ports.{with_back}
use Rattle.x86_values.specs.declared.Bits.{Bits}
use Rattle.sweep.specs.declared.sweep_text.lines.Lines.{Lines}
use Rattle.sweep.specs.declared.sweep_text.lines.Lines.TheVariants.{Listing, Info as InfoLines, Recode as RecodeLines}
use Rattle.moving_run.specs.declared.command_words.commands.Command.{Command}
use Rattle.moving_run.specs.declared.command_words.commands.Command.TheVariants.{Help, Version, List as ListCommand, Info, Recode, Flow, Asm, Move, Map, Blocks, Slots, Rows, Sample, Wrong}
use Rattle.moving_run.specs.declared.command_words.commands.BlockWords.{BlockWords}
use Rattle.sweep.specs.declared.run_parts.status.Status.{Status}
use Rattle.sweep.specs.declared.run_parts.status.Status.TheVariants.{Done, Usage, BadCode, ReadFault, WriteFault, TooLarge}
use Rattle.sweep.specs.RunParts.Writing.{HoldsFront}
use Rattle.sweep.specs.declared.error.StreamError.{StreamError}
use Rattle.sweep.specs.declared.error.StreamError.TheVariants.{BadCode as StreamBadCode, ReadFault as StreamReadFault, WriteFault as StreamWriteFault, TooLarge as StreamTooLarge}
use Rattle.sweep.specs.Streams.{StreamsAs}
use Rattle.sweep.specs.Ends.{CompletesStream, CompletesListing}
use Rattle.listing_run.specs.FlowRun.Flowing.{FlowsAs, CompletesFlow}
use Rattle.listing_run.specs.AsmRun.Assembling.{AssemblesAs, CompletesAssembling}
use Rattle.moving_run.specs.declared.moving.Wanted.TheVariants.{MovedBytes, MapLines}
use Rattle.moving_run.specs.Moving.{MovesAs, CompletesMoving}
use Rattle.listing_run.specs.SampleRun.Sample.{SamplesAs, CompletesSample}
use Rattle.moving_run.specs.SlotsRun.Slotting.{SlotsAs, CompletesSlots}
use Rattle.listing_run.specs.Texts.{help_text, version_text}
use Rattle.listing_run.specs.Rows.{rows_text}

-- a command that goes through code, by its status: what the stream of its lines leaves by the answer that the status tells
abbrev pub GoesThroughAs : Bits → ℕ → Lines → Option (List ℕ) → Option (List ℕ) → Option (List ℕ) → Option (List ℕ) → Type 0 → Type 0 → Status → Type 0
GoesThroughAs bits base lines left left' held held' source_rose out_rose Done =
    (count : ℕ) × StreamsAs bits base lines left left' held held' source_rose out_rose (Ok count)
GoesThroughAs bits base lines left left' held held' source_rose out_rose (BadCode offset error) =
    StreamsAs bits base lines left left' held held' source_rose out_rose (Err (StreamBadCode offset error))
GoesThroughAs bits base lines left left' held held' source_rose out_rose ReadFault =
    StreamsAs bits base lines left left' held held' source_rose out_rose (Err StreamReadFault)
GoesThroughAs bits base lines left left' held held' source_rose out_rose WriteFault =
    StreamsAs bits base lines left left' held held' source_rose out_rose (Err StreamWriteFault)
GoesThroughAs bits base lines left left' held held' source_rose out_rose (TooLarge limit) =
    StreamsAs bits base lines left left' held held' source_rose out_rose (Err (StreamTooLarge limit))
GoesThroughAs bits base lines left left' held held' source_rose out_rose _ = ⊥

-- a command that reads nothing and writes a text, by its status
abbrev pub WritesAs : List ℕ → Option (List ℕ) → Option (List ℕ) → Type 0 → Status → Type 0
WritesAs text held held' out_rose Done = held' ≡ with_back held text
WritesAs text held held' out_rose WriteFault = out_rose × HoldsFront held held' text
WritesAs text held held' out_rose _ = ⊥

-- the input as one block of code: all its bytes, at an old and at a new address
abbrev pub one_block_words : ℕ → ℕ → List BlockWords
one_block_words old new = record { old = old; new = new; len = None } ∷ []

-- a run by its command and its status
abbrev pub RunsAs : Command → Option (List ℕ) → Option (List ℕ) → Option (List ℕ) → Option (List ℕ) → Type 0 → Type 0 → Status → Type 0
RunsAs (Wrong word) left left' held held' source_rose out_rose status = status ≡ Usage word
RunsAs Help left left' held held' source_rose out_rose status = WritesAs help_text held held' out_rose status
RunsAs Version left left' held held' source_rose out_rose status = WritesAs version_text held held' out_rose status
RunsAs (Sample count) left left' held held' source_rose out_rose status = SamplesAs count held held' out_rose status
RunsAs Rows left left' held held' source_rose out_rose status = WritesAs rows_text held held' out_rose status
RunsAs (ListCommand bits base syntax) left left' held held' source_rose out_rose status =
    GoesThroughAs bits base (Listing syntax) left left' held held' source_rose out_rose status
RunsAs (Info bits base) left left' held held' source_rose out_rose status =
    GoesThroughAs bits base InfoLines left left' held held' source_rose out_rose status
RunsAs (Recode bits base to new_base) left left' held held' source_rose out_rose status =
    GoesThroughAs bits base (RecodeLines to new_base) left left' held held' source_rose out_rose status
RunsAs (Flow bits base) left left' held held' source_rose out_rose status = FlowsAs bits base left left' held held' source_rose out_rose status
RunsAs (Asm bits base) left left' held held' source_rose out_rose status = AssemblesAs bits base left left' held held' source_rose out_rose status
RunsAs (Move bits old new) left left' held held' source_rose out_rose status =
    MovesAs MovedBytes bits (one_block_words old new) left left' held held' source_rose out_rose status
RunsAs (Map bits old new) left left' held held' source_rose out_rose status =
    MovesAs MapLines bits (one_block_words old new) left left' held held' source_rose out_rose status
RunsAs (Blocks bits blocks) left left' held held' source_rose out_rose status =
    MovesAs MovedBytes bits blocks.items left left' held held' source_rose out_rose status
RunsAs (Slots old range) left left' held held' source_rose out_rose status = SlotsAs range old left left' held held' source_rose out_rose status

-- the command reads
abbrev pub ReadsInput : Command → Type 0
ReadsInput (ListCommand bits base syntax) = Unit {0}
ReadsInput (Info bits base) = Unit {0}
ReadsInput (Recode bits base to new_base) = Unit {0}
ReadsInput (Flow bits base) = Unit {0}
ReadsInput (Asm bits base) = Unit {0}
ReadsInput (Move bits old new) = Unit {0}
ReadsInput (Map bits old new) = Unit {0}
ReadsInput (Blocks bits blocks) = Unit {0}
ReadsInput (Slots old range) = Unit {0}
ReadsInput _ = ⊥

-- the command writes lines as it goes through the code, before it has seen all of it: what stands then is by the bytes that were seen
abbrev pub Streams : Command → Type 0
Streams (ListCommand bits base syntax) = Unit {0}
Streams (Info bits base) = Unit {0}
Streams (Recode bits base to new_base) = Unit {0}
Streams _ = ⊥

-- the command is one
abbrev pub IsWrong : Command → Type 0
IsWrong (Wrong word) = Unit {0}
IsWrong _ = ⊥

-- the status that tells the answer of a stream
abbrev pub stream_status : Result ℕ StreamError → Status
stream_status (Ok count) = Done
stream_status (Err (StreamBadCode offset error)) = BadCode offset error
stream_status (Err StreamReadFault) = ReadFault
stream_status (Err StreamWriteFault) = WriteFault
stream_status (Err (StreamTooLarge limit)) = TooLarge limit

-- a command that goes through code and meets no fault ends as the stream of its lines does
abbrev pub CompletesThrough : Bits → ℕ → Lines → Option (List ℕ) → Status → Type 0
CompletesThrough bits base lines left status = (result : Result ℕ StreamError) × (CompletesStream bits base lines left result × (status ≡ stream_status result))

-- so does a listing
abbrev pub CompletesList : Option (List ℕ) → Status → Type 0
CompletesList left status = (result : Result ℕ StreamError) × (CompletesListing left result × (status ≡ stream_status result))

-- The command of a run that meets no fault is done, or ends as its bytes say: a listing is done whatever the bytes are, unless they are too many.
-- Those that take their input as a whole may want memory.
abbrev pub Completes : Command → Option (List ℕ) → Status → Type 0
Completes (Wrong word) left status = status ≡ Usage word
Completes (ListCommand bits base syntax) left status = CompletesList left status
Completes (Info bits base) left status = CompletesThrough bits base InfoLines left status
Completes (Recode bits base to new_base) left status = CompletesThrough bits base (RecodeLines to new_base) left status
Completes (Flow bits base) left status = CompletesFlow left status
Completes (Asm bits base) left status = CompletesAssembling bits base left status
Completes (Move bits old new) left status = CompletesMoving MovedBytes bits (one_block_words old new) left status
Completes (Map bits old new) left status = CompletesMoving MapLines bits (one_block_words old new) left status
Completes (Blocks bits blocks) left status = CompletesMoving MovedBytes bits blocks.items left status
Completes (Slots old range) left status = CompletesSlots range old left status
Completes (Sample count) left status = CompletesSample status
Completes _ left status = status ≡ Done
