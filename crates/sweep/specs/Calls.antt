-- The calls of a stream in their order: the source is asked, the lines of what can be handled are put, and only then is the source asked again.
use Rattle.std.specs.Prelude.{◌≡◌, ℕ, ◌+◌, ◌<◌, ◌≤◌, List, length, Option, Result, Ok, Err}
use Rattle.x86_values.specs.declared.Bits.{Bits}
use Rattle.sweep.specs.declared.sweep_text.lines.Lines.{Lines}
use Rattle.byte_ports.specs.declared.failed.Failed.{Failed}
use Rattle.sweep.specs.RunParts.Writing.{Puts, PutsToFault}
use Rattle.sweep.specs.declared.error.StreamError.{StreamError}
use Rattle.sweep.specs.declared.error.StreamError.TheVariants.{BadCode, ReadFault, WriteFault, TooLarge}
use Rattle.sweep.specs.Streams.{Reads, WritesHandled}

-- the bytes of a window: no call asks for more
unfoldable pub window_len : ℕ
window_len = 16384

-- a source is asked for at most a window of bytes, and gives this answer
pub record Pull {S : Type 0} (gives : S → List ℕ → Result ℕ Failed → S → List ℕ → Type 0) (old : S) (answer : Result ℕ Failed) (new : S) : Type 0 where
  pub buffer : List ℕ
  pub filled : List ℕ
  pub few : length buffer ≤ window_len
  pub gave : gives old buffer answer new filled

-- of the bytes that were seen so far just the items of which 15 bytes were seen are handled: their lines stand in the sink
pub record IsWritten (bits : Bits) (base : ℕ) (lines : Lines) (left left' held held' : Option (List ℕ)) (seen : List ℕ) : Type 0 where
  pub read : Reads left left' seen
  pub handled : WritesHandled bits base lines seen held held'

-- rounds of a stream: a pull that gives bytes, puts of which none fails, and then what was seen is written
pub data Rounds {S K : Type 0} (left : S → Option (List ℕ)) (pulls : S → List ℕ → Result ℕ Failed → S → List ℕ → Type 0)
    (held : K → Option (List ℕ)) (puts : K → List ℕ → Result ℕ Failed → K → Type 0) (bits : Bits) (base : ℕ) (lines : Lines) (source : S) (sink : K) : S → K → Type 0 where
  no_round : Rounds left pulls held puts bits base lines source sink source sink
  then_round : {s s' : S} {k k' : K} {count : ℕ} {seen : List ℕ} → Rounds left pulls held puts bits base lines source sink s k → 0 < count →
      Pull pulls s (Ok count) s' → Puts puts k k' → IsWritten bits base lines (left source) (left s') (held sink) (held k') seen →
      Rounds left pulls held puts bits base lines source sink s' k'

-- the last round by the answer of the stream: no call follows one that failed
abbrev pub IsLastRound : {S K : Type 0} → (S → List ℕ → Result ℕ Failed → S → List ℕ → Type 0) → (K → List ℕ → Result ℕ Failed → K → Type 0) → S → S → K → K →
    Result ℕ StreamError → Type 0
IsLastRound pulls puts source source' sink sink' (Err ReadFault) = ((why : Failed) × Pull pulls source (Err why) source') × (sink' ≡ sink)
IsLastRound pulls puts source source' sink sink' (Err WriteFault) = ((count : ℕ) × Pull pulls source (Ok count) source') × PutsToFault puts sink sink'
IsLastRound pulls puts source source' sink sink' _ = ((count : ℕ) × Pull pulls source (Ok count) source') × Puts puts sink sink'

-- the last pull was needed: of the bad code at this offset fewer than 15 bytes had been seen before it
abbrev pub IsNeeded : List ℕ → Result ℕ StreamError → Type 0
IsNeeded seen (Err (BadCode offset error)) = length seen < offset + 15
IsNeeded seen _ = Unit {0}

-- All calls of a stream: its rounds, and the last one. Before its pull these bytes were seen, and what was seen was written.
pub record IsCalled {S K : Type 0} (left : S → Option (List ℕ)) (pulls : S → List ℕ → Result ℕ Failed → S → List ℕ → Type 0)
    (held : K → Option (List ℕ)) (puts : K → List ℕ → Result ℕ Failed → K → Type 0) (bits : Bits) (base : ℕ) (lines : Lines) (source source' : S) (sink sink' : K)
    (result : Result ℕ StreamError) : Type 0 where
  pub last_source : S
  pub last_sink : K
  pub seen : List ℕ
  pub rounds : Rounds left pulls held puts bits base lines source sink last_source last_sink
  pub written : IsWritten bits base lines (left source) (left last_source) (held sink) (held last_sink) seen
  pub last : IsLastRound pulls puts last_source source' last_sink sink' result
  pub needed : IsNeeded seen result
