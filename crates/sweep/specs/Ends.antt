-- How a stream of code ends that meets no fault.
use Rattle.std.specs.Prelude.{◌≡◌, ◌⊎◌, ℕ, ◌<◌, ◌≤◌, List, [], ◌∷◌, length, take, Option, Some, None, Result, Ok, Err}
use Rattle.x86_values.specs.declared.Bits.{Bits}
use Rattle.sweep.specs.declared.sweep_text.lines.Lines.{Lines}
use Rattle.opcode_rows.specs.Sweep.{Item, IsSweep}
use Rattle.sweep.specs.SweepText.Lines.{stop_of}
use Rattle.sweep.specs.RunParts.Reads.{code_limit}
use Rattle.sweep.specs.declared.error.StreamError.{StreamError}
use Rattle.sweep.specs.declared.error.StreamError.TheVariants.{BadCode, ReadFault, WriteFault, TooLarge}
use Rattle.sweep.specs.declared.error.ListError.{ListError}
use Rattle.sweep.specs.declared.error.ListError.TheVariants.{ReadFault as ListReadFault, WriteFault as ListWriteFault, TooLarge as ListTooLarge}
use Rattle.sweep.specs.declared.stream.Streamed.{Streamed}
use Rattle.sweep.specs.Streams.{AreHandled}

-- a way through items ends at the first item behind which the command does not go on, else as it ends behind all
abbrev pub end_of : Lines → List Item → Result ℕ StreamError → Result ℕ StreamError
end_of lines [] last = last
end_of lines (item ∷ items) last = elim (stop_of lines item.reading) [ None ↦ end_of lines items last | Some error ↦ Err (BadCode item.offset error) ]

-- the answer of a listing, which has no bad code
abbrev pub of_listing : Result ℕ ListError → Result ℕ StreamError
of_listing (Ok count) = Ok count
of_listing (Err ListReadFault) = Err ReadFault
of_listing (Err ListWriteFault) = Err WriteFault
of_listing (Err (ListTooLarge limit)) = Err (TooLarge limit)

-- the answer of a stream by how far it went: bad code where its command ended at an item
abbrev pub of_streamed : Result Streamed ListError → Result ℕ StreamError
of_streamed (Ok streamed) = elim streamed.stop [ None ↦ Ok streamed.count | Some bad ↦ Err (BadCode bad.offset bad.error) ]
of_streamed (Err ListReadFault) = Err ReadFault
of_streamed (Err ListWriteFault) = Err WriteFault
of_streamed (Err (ListTooLarge limit)) = Err (TooLarge limit)

-- no port failed
abbrev pub IsNoFault : Result ℕ StreamError → Type 0
IsNoFault (Err ReadFault) = ⊥
IsNoFault (Err WriteFault) = ⊥
IsNoFault _ = Unit {0}

-- A stream that meets no fault ends as its bytes say: within the limit as their sweep does, and above it as the items do that are handled before the
-- byte past the limit is told.
abbrev pub CompletesStream : Bits → ℕ → Lines → Option (List ℕ) → Result ℕ StreamError → Type 0
CompletesStream bits base lines (Some bytes) result =
    (length bytes ≤ code_limit → (items : List Item) → IsSweep bits base bytes items → result ≡ end_of lines items (Ok (length items)))
    × (code_limit < length bytes → (items : List Item) → AreHandled bits base (take code_limit bytes) items
    → result ≡ end_of lines items (Err (TooLarge code_limit)))
CompletesStream bits base lines None result = IsNoFault result

-- A listing that meets no fault comes to the end of its input, whatever the bytes are, or tells that there are too many.
abbrev pub CompletesListing : Option (List ℕ) → Result ℕ StreamError → Type 0
CompletesListing (Some bytes) result =
    (length bytes ≤ code_limit → (count : ℕ) × (result ≡ Ok count)) × (code_limit < length bytes → result ≡ Err (TooLarge code_limit))
CompletesListing None result = ((count : ℕ) × (result ≡ Ok count)) ⊎ (result ≡ Err (TooLarge code_limit))
