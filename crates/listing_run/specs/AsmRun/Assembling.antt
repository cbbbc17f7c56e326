-- What the command `asm` leaves, by its status.
use Rattle.std.specs.Prelude.{◌≡◌, ◌⊎◌, ℕ, ◌<◌, ◌≤◌, List, length, Option, Some, None}
use Rattle.x86_values.specs.declared.Bits.{Bits}
use Rattle.byte_ports.specs.Ports.{with_back}
use Rattle.sweep.specs.declared.run_parts.status.Status.{Status}
use Rattle.sweep.specs.declared.run_parts.status.Status.TheVariants.{Done, ReadFault, WriteFault, Memory, TooLarge, BadText}
use Rattle.sweep.specs.RunParts.Reads.{whole_limit, ReadsAll, ReadsTooMany}
use Rattle.sweep.specs.RunParts.Writing.{HoldsFront}
use Rattle.listing_run.specs.AsmRun.Lines.{lines_in, IsCodeOfLines, IsBadLine}

-- the lines of a text stand for this code
abbrev pub IsCodeOf : Bits → ℕ → List ℕ → List ℕ → Type 0
IsCodeOf bits base text code = IsCodeOfLines bits base (lines_in text) code

-- the answer for a text that was read: it is code, or a line of it is bad
abbrev pub IsTextAnswer : Bits → ℕ → List ℕ → Status → Type 0
IsTextAnswer bits base text Done = (code : List ℕ) × IsCodeOf bits base text code
IsTextAnswer bits base text (BadText line) = IsBadLine bits base (lines_in text) line
IsTextAnswer bits base text _ = ⊥

-- the command by its status: when each may come, and what was written then
abbrev pub AssemblesAs : Bits → ℕ → Option (List ℕ) → Option (List ℕ) → Option (List ℕ) → Option (List ℕ) → Type 0 → Type 0 → Status → Type 0
AssemblesAs bits base left left' held held' source_rose out_rose Done =
    (text : List ℕ) × (ReadsAll whole_limit left left' text × ((code : List ℕ) × (IsCodeOf bits base text code × (held' ≡ with_back held code))))
AssemblesAs bits base left left' held held' source_rose out_rose WriteFault =
    out_rose
    × ((text : List ℕ) × (ReadsAll whole_limit left left' text × ((code : List ℕ) × (IsCodeOf bits base text code × HoldsFront held held' code))))
AssemblesAs bits base left left' held held' source_rose out_rose ReadFault = source_rose × (held' ≡ held)
AssemblesAs bits base left left' held held' source_rose out_rose Memory = held' ≡ held
AssemblesAs bits base left left' held held' source_rose out_rose (TooLarge limit) =
    (limit ≡ whole_limit) × (((text : List ℕ) × ReadsTooMany whole_limit left left' text) × (held' ≡ held))
AssemblesAs bits base left left' held held' source_rose out_rose (BadText line) =
    ((text : List ℕ) × (ReadsAll whole_limit left left' text × IsBadLine bits base (lines_in text) line)) × (held' ≡ held)
AssemblesAs bits base left left' held held' source_rose out_rose _ = ⊥

-- The command that meets no fault is done where every line stands for bytes, and tells the first that does not; or it wants memory. Above the limit it says
-- so, or wants memory.
abbrev pub CompletesAssembling : Bits → ℕ → Option (List ℕ) → Status → Type 0
CompletesAssembling bits base (Some text) status =
    (length text ≤ whole_limit → (answer : Status) → IsTextAnswer bits base text answer → (status ≡ answer) ⊎ (status ≡ Memory))
    × (whole_limit < length text → (status ≡ TooLarge whole_limit) ⊎ (status ≡ Memory))
CompletesAssembling bits base None status = ((status ≡ ReadFault) ⊎ (status ≡ WriteFault)) → ⊥

-- a status that tells why a text that was read has no code here
abbrev pub IsTextRefusal : Bits → ℕ → List ℕ → Status → Type 0
IsTextRefusal bits base text Memory = Unit {0}
IsTextRefusal bits base text (BadText line) = IsBadLine bits base (lines_in text) line
IsTextRefusal bits base text _ = ⊥
