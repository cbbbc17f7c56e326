-- What the command `slots` leaves, by its status.
use Rattle.std.specs.Prelude.{◌≡◌, ◌⊎◌, ℕ, ◌<◌, ◌≤◌, List, length, Option, Some, None}
use Rattle.byte_ports.specs.Ports.{with_back}
use Rattle.moving_run.specs.CommandWords.Ranges.{Range}
use Rattle.sweep.specs.declared.run_parts.status.Status.{Status}
use Rattle.sweep.specs.declared.run_parts.status.Status.TheVariants.{Done, BadCode, ReadFault, WriteFault, Memory, TooLarge, TooFar, RegionFull}
use Rattle.sweep.specs.RunParts.Reads.{whole_limit, ReadsAll, ReadsTooMany}
use Rattle.sweep.specs.RunParts.Writing.{HoldsFront}
use Rattle.moving_run.specs.Code.{BlockStopsAt}
use Rattle.moving_run.specs.SlotsRun.Slotted.{MakesSlots, RefusesSlot}

-- a status that tells why some bytes do not all get slots
abbrev pub IsSlotsRefusal : Range → ℕ → List ℕ → Status → Type 0
IsSlotsRefusal range base bytes Memory = Unit {0}
IsSlotsRefusal range base bytes (BadCode offset error) = BlockStopsAt range.bits base bytes offset error
IsSlotsRefusal range base bytes (RegionFull len largest) = RefusesSlot range base bytes (RegionFull len largest)
IsSlotsRefusal range base bytes (TooFar at target) = RefusesSlot range base bytes (TooFar at target)
IsSlotsRefusal range base bytes _ = ⊥

-- the answer for some bytes: a status, and an image at Done
abbrev pub IsSlotsAnswer : Range → ℕ → List ℕ → Status → Type 0
IsSlotsAnswer range base bytes Done = (image : List ℕ) × MakesSlots range base bytes image
IsSlotsAnswer range base bytes (BadCode offset error) = BlockStopsAt range.bits base bytes offset error
IsSlotsAnswer range base bytes (RegionFull len largest) = RefusesSlot range base bytes (RegionFull len largest)
IsSlotsAnswer range base bytes (TooFar at target) = RefusesSlot range base bytes (TooFar at target)
IsSlotsAnswer range base bytes _ = ⊥

-- a refusal of the bytes, after which nothing was written
abbrev pub RefusesSlots : Range → ℕ → Option (List ℕ) → Option (List ℕ) → Option (List ℕ) → Option (List ℕ) → Status → Type 0
RefusesSlots range base left left' held held' status =
    ((bytes : List ℕ) × (ReadsAll whole_limit left left' bytes × IsSlotsAnswer range base bytes status)) × (held' ≡ held)

-- the command by its status: when each may come, and what was written then
abbrev pub SlotsAs : Range → ℕ → Option (List ℕ) → Option (List ℕ) → Option (List ℕ) → Option (List ℕ) → Type 0 → Type 0 → Status → Type 0
SlotsAs range base left left' held held' source_rose out_rose Done =
    (bytes : List ℕ) × (ReadsAll whole_limit left left' bytes
    × ((image : List ℕ) × (MakesSlots range base bytes image × (held' ≡ with_back held image))))
SlotsAs range base left left' held held' source_rose out_rose WriteFault =
    out_rose × ((bytes : List ℕ) × (ReadsAll whole_limit left left' bytes
    × ((image : List ℕ) × (MakesSlots range base bytes image × HoldsFront held held' image))))
SlotsAs range base left left' held held' source_rose out_rose ReadFault = source_rose × (held' ≡ held)
SlotsAs range base left left' held held' source_rose out_rose Memory = held' ≡ held
SlotsAs range base left left' held held' source_rose out_rose (TooLarge limit) =
    (limit ≡ whole_limit) × (((bytes : List ℕ) × ReadsTooMany whole_limit left left' bytes) × (held' ≡ held))
SlotsAs range base left left' held held' source_rose out_rose (BadCode offset error) =
    RefusesSlots range base left left' held held' (BadCode offset error)
SlotsAs range base left left' held held' source_rose out_rose (RegionFull len largest) =
    RefusesSlots range base left left' held held' (RegionFull len largest)
SlotsAs range base left left' held held' source_rose out_rose (TooFar at target) =
    RefusesSlots range base left left' held held' (TooFar at target)
SlotsAs range base left left' held held' source_rose out_rose _ = ⊥

-- The command that meets no fault answers what its bytes say, or wants memory; above the limit it says so, or wants memory.
abbrev pub CompletesSlots : Range → ℕ → Option (List ℕ) → Status → Type 0
CompletesSlots range base (Some bytes) status =
    (length bytes ≤ whole_limit → (answer : Status) → IsSlotsAnswer range base bytes answer → (status ≡ answer) ⊎ (status ≡ Memory))
    × (whole_limit < length bytes → (status ≡ TooLarge whole_limit) ⊎ (status ≡ Memory))
CompletesSlots range base None status = ((status ≡ ReadFault) ⊎ (status ≡ WriteFault)) → ⊥
