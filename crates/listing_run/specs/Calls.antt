-- The calls of a run in their order.
use Rattle.std.specs.Prelude.{◌≡◌, ℕ, List, Option, Result}
use Rattle.x86_values.specs.declared.Bits.{Bits}
use Rattle.byte_ports.specs.declared.failed.Failed.{Failed}
use Rattle.sweep.specs.declared.sweep_text.lines.Lines.{Lines}
use Rattle.sweep.specs.declared.sweep_text.lines.Lines.TheVariants.{Listing, Info as InfoLines, Recode as RecodeLines}
use Rattle.moving_run.specs.declared.command_words.commands.Command.{Command}
use Rattle.moving_run.specs.declared.command_words.commands.Command.TheVariants.{List as ListCommand, Info, Recode}
use Rattle.sweep.specs.declared.run_parts.status.Status.{Status}
use Rattle.sweep.specs.declared.error.StreamError.{StreamError}
use Rattle.sweep.specs.Calls.{IsCalled}
use Rattle.listing_run.specs.Outcome.{stream_status}

-- the calls of a command that goes through code are those of the stream of its lines
abbrev pub IsCalledThrough : {S K : Type 0} → (S → Option (List ℕ)) → (S → List ℕ → Result ℕ Failed → S → List ℕ → Type 0) → (K → Option (List ℕ)) →
    (K → List ℕ → Result ℕ Failed → K → Type 0) → Bits → ℕ → Lines → S → S → K → K → Status → Type 0
IsCalledThrough left pulls held puts bits base lines source source' sink sink' status =
    (result : Result ℕ StreamError) × (IsCalled left pulls held puts bits base lines source source' sink sink' result × (status ≡ stream_status result))

-- of the other commands it is not said
abbrev pub IsCalledBy : {S K : Type 0} → (S → Option (List ℕ)) → (S → List ℕ → Result ℕ Failed → S → List ℕ → Type 0) → (K → Option (List ℕ)) →
    (K → List ℕ → Result ℕ Failed → K → Type 0) → Command → S → S → K → K → Status → Type 0
IsCalledBy left pulls held puts (ListCommand bits base syntax) source source' sink sink' status =
    IsCalledThrough left pulls held puts bits base (Listing syntax) source source' sink sink' status
IsCalledBy left pulls held puts (Info bits base) source source' sink sink' status =
    IsCalledThrough left pulls held puts bits base InfoLines source source' sink sink' status
IsCalledBy left pulls held puts (Recode bits base to new_base) source source' sink sink' status =
    IsCalledThrough left pulls held puts bits base (RecodeLines to new_base) source source' sink sink' status
IsCalledBy left pulls held puts _ source source' sink sink' status = Unit {0}
