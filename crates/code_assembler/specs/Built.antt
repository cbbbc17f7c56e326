-- What is added to a routine, and when nothing is.
use Rattle.std.specs.Prelude.{◌≡◌, ℕ, ◌<◌, nat_lt, is_none, is_some, if◌then◌else◌, List, [], ◌∷◌, ◌++◌, length, map, replicate, slice_set, unwrap_or, Option, Some, None, Result, Ok, Err, nat_le, ◌+◌}
use Rattle.x86_values.specs.declared.Bits.{Bits}
use Rattle.x86_values.specs.declared.Instr.{Instr}
use Rattle.plain_spelling.specs.declared.NoSpelling.{NoSpelling}
use Rattle.encoder.specs.Encoding.{encoding}
use Rattle.move_goals.specs.MovedTargets.Targets.{target_of, plain_length}
use Rattle.move_goals.specs.declared.items.Placed.{Placed}
use Rattle.code_assembler.specs.declared.error.BuildError.{BuildError}
use Rattle.code_assembler.specs.declared.error.BuildError.TheVariants.{TooMany, Unknown, PlacedTwice, NoTarget, NotEncoded}
use Rattle.code_assembler.specs.StandIn.{stand_in}
use Rattle.code_assembler.specs.Routine.{RoutineState, no_lines, label_place}

-- ---- labels

-- a label more, without a place
abbrev pub with_label : RoutineState → RoutineState
with_label s = record s { labels = s.labels ++ None ∷ [] }

-- no label is made where there are 65,536
abbrev pub label_refusal : RoutineState → Option BuildError
label_refusal s = if nat_lt (length s.labels) 65536 then None else Some TooMany

-- a routine with so many labels, and nothing else
abbrev pub with_labels : Bits → ℕ → RoutineState
with_labels bits count = record (no_lines bits) { labels = replicate count None }

-- none is made with more than 65,536
abbrev pub labels_refusal : ℕ → Option BuildError
labels_refusal count = if nat_le count 65536 then None else Some TooMany

-- a label stands behind the last item
abbrev pub with_place : RoutineState → ℕ → RoutineState
with_place s label = record s { labels = slice_set s.labels label (Some (length s.items)) }

-- a label gets no place where there is no such label, or it has one
abbrev pub place_refusal : RoutineState → ℕ → Option BuildError
place_refusal s label =
    if nat_lt label (length s.labels)
    then (if is_some (label_place s.labels label) then Some (PlacedTwice label) else None)
    else Some (Unknown label)

-- ---- instructions

-- where an instruction is taken to stand before it has a place: at its own target, which it reaches from there
abbrev pub own_address : Instr → ℕ
own_address i = unwrap_or (target_of i) 0

-- an instruction there, as long as its plain spelling
abbrev pub item_of : Bits → Instr → Placed
item_of bits i = record { ip = own_address i; len = plain_length bits i; instr = i }

-- an instruction more, with its label
abbrev pub with_item : RoutineState → Instr → Option ℕ → RoutineState
with_item s i aim = record s { items = s.items ++ item_of s.bits i ∷ []; aims = s.aims ++ aim ∷ []; filled = s.filled ++ None ∷ [] }

-- an instruction cannot go to its label: there is no such label, or the instruction has no target
abbrev pub label_fault : List (Option ℕ) → Instr → Option ℕ → Option BuildError
label_fault labels i None = None
label_fault labels i (Some label) =
    if nat_lt label (length labels) then (if is_none (target_of i) then Some NoTarget else None) else Some (Unknown label)

-- an instruction has no encoding, for this cause
abbrev pub not_encoded : NoSpelling → BuildError
not_encoded why = NotEncoded why

-- it has no encoding
abbrev pub encoding_refusal : Result (List ℕ) NoSpelling → Option BuildError
encoding_refusal (Ok bytes) = None
encoding_refusal (Err why) = Some (NotEncoded why)

-- the first of some causes
abbrev pub first_of : Option BuildError → Option BuildError → Option BuildError
first_of (Some why) other = Some why
first_of None other = other

-- why no instruction is added to so many in a mode, with these labels, memory apart
unfoldable pub push_fault : Bits → ℕ → List (Option ℕ) → Instr → Option ℕ → Option BuildError
push_fault bits count labels i aim =
    if nat_lt count 65536 then first_of (label_fault labels i aim) (encoding_refusal (encoding bits (own_address i) i)) else Some TooMany

-- nothing but its encoding is in the way of an instruction: there are few others, and it can go to its label
abbrev pub IsOpen : ℕ → List (Option ℕ) → Instr → Option ℕ → Type 0
IsOpen count labels i aim = (count < 65536) × (label_fault labels i aim ≡ None)

-- why none is added to a routine
abbrev pub push_refusal : RoutineState → Instr → Option ℕ → Option BuildError
push_refusal s i aim = push_fault s.bits (length s.items) s.labels i aim

-- ---- data

-- bytes of data more: each is an item, without a label
abbrev pub with_bytes : RoutineState → List ℕ → RoutineState
with_bytes s bytes = record s {
  items = s.items ++ replicate (length bytes) (stand_in s.bits);
  aims = s.aims ++ replicate (length bytes) None;
  filled = s.filled ++ map Some bytes;
}

-- none are added where there would be more than 65,536 items
abbrev pub bytes_refusal : RoutineState → List ℕ → Option BuildError
bytes_refusal s bytes = if nat_le (length s.items + length bytes) 65536 then None else Some TooMany
