-- What a routine as text becomes, with its labels, and what is left in the rooms.
use Rattle.std.specs.Prelude.{◌≡◌, ℕ, ◌%◌, ◌^◌, nat_le, Bool, true, false, ◌&&◌, ℤ, pos, List, length, map, slice_index_or, unwrap_or, Option, Some, None, Result, Ok, Err, if◌then◌else◌}
use Rattle.std.specs.List.{range_with_len}
use Rattle.x86_values.specs.declared.Bits.{Bits}
use Rattle.code_assembler.specs.declared.error.BuildError.{BuildError}
use Rattle.code_assembler.specs.declared.error.BuildError.TheVariants as build
use Rattle.code_assembler.specs.declared.error.FinishError.{FinishError}
use Rattle.code_assembler.specs.declared.error.FinishError.TheVariants as finish
use Rattle.code_assembler.specs.Finished.{AssembledState, label_address}
use Rattle.assembly_text.specs.declared.text_labels.LabelLine.{LabelLine}
use Rattle.assembly_text.specs.declared.text_error.LineError.{LineError}
use Rattle.assembly_text.specs.declared.text_error.LineError.TheVariants as line
use Rattle.assembly_text.specs.declared.text_error.AssembleError.{AssembleError}
use Rattle.assembly_text.specs.declared.text_error.AssembleError.TheVariants as text_error
use Rattle.assembly_text.specs.TextLabels.{label_lines}
use Rattle.assembly_text.specs.Rounds.{IsAnswerBy}
use Rattle.c_calls.specs.declared.refusal.Refusal.{Refusal}
use Rattle.c_calls.specs.declared.refusal.Refusal.TheVariants as why
use Rattle.c_calls.specs.declared.flat.FlatLabel.{FlatLabel}
use Rattle.c_calls.specs.declared.flat.FlatRoutine.{FlatRoutine}
use Rattle.c_calls.specs.declared.routines.TextRoutine.{TextRoutine}
use Rattle.c_calls.specs.declared.routines.RoutineRefusal.{RoutineRefusal}
use Rattle.c_calls.specs.declared.routines.RoutineRefusal.TheVariants.{Mode, NoRoutine, Room}
use Rattle.c_calls.specs.Refusals.{refusal_status}
use Rattle.c_calls.specs.Numbers.{bits_numbered}
use Rattle.c_calls.specs.Moving.{room_left}

-- ---- labels

-- 1 where there is an address
abbrev pub is_there : Option ℕ → ℕ
is_there None = 0
is_there (Some address) = 1

-- a label with its address, 0 where it has none
unfoldable pub flat_label : Option ℕ → LabelLine → FlatLabel
flat_label address label = record {
  address = unwrap_or address 0;
  offset = label.offset;
  len = label.len;
  line = label.line;
  has_address = is_there address;
}

-- what stands for a label that is not there
abbrev pub no_label : LabelLine
no_label = record { line = 0; offset = 0; len = 0 }

-- the label of a number, from 0
unfoldable pub label_numbered : AssembledState → List LabelLine → ℕ → FlatLabel
label_numbered a lines k = flat_label (label_address a k) (slice_index_or lines k no_label)

-- the first so many labels
unfoldable pub first_labels : AssembledState → List LabelLine → ℕ → List FlatLabel
first_labels a lines n = map (label_numbered a lines) (range_with_len 0 n)

-- the labels of a text, by what it became
abbrev pub labels_of : AssembledState → List ℕ → List FlatLabel
labels_of a text = first_labels a (label_lines text) (length (label_lines text))

-- ---- the answer

-- a text with names became this, with slots or without, with these labels
pub record IsRoutine (slots : Bool) (bits : Bits) (base : ℕ) (names text : List ℕ) (r : TextRoutine) : Type 0 where
  pub made : IsAnswerBy slots bits base names text (Ok r.made)
  pub labels : r.labels.items ≡ labels_of r.made text

-- what a text with names became, or why it became nothing
abbrev pub IsRoutineIn : Bool → Bits → ℕ → List ℕ → List ℕ → Result TextRoutine RoutineRefusal → Type 0
IsRoutineIn slots bits base names text (Ok r) = IsRoutine slots bits base names text r
IsRoutineIn slots bits base names text (Err (NoRoutine cause)) = IsAnswerBy slots bits base names text (Err cause)
IsRoutineIn slots bits base names text (Err Mode) = ⊥
IsRoutineIn slots bits base names text (Err Room) = ⊥

-- the same, where the number of the mode names one
abbrev pub IsRoutineAnswer : Bool → Option Bits → ℕ → List ℕ → List ℕ → Result TextRoutine RoutineRefusal → Type 0
IsRoutineAnswer slots None base names text answer = answer ≡ Err Mode
IsRoutineAnswer slots (Some bits) base names text answer = IsRoutineIn slots bits base names text answer

-- ---- what is said and left

-- both rooms hold what they are for
unfoldable pub routine_within : ℕ → ℕ → Result TextRoutine RoutineRefusal → Result TextRoutine RoutineRefusal
routine_within room label_room (Ok r) = if nat_le (length r.made.bytes) room && nat_le (length r.labels.items) label_room then Ok r else Err Room
routine_within room label_room (Err e) = Err e

-- why a routine adds nothing, by the refusals of all calls; the operand of an instruction without an encoding is not told
abbrev pub build_refusal : BuildError → Refusal
build_refusal build.Memory = why.Memory
build_refusal build.TooMany = why.TooMany
build_refusal (build.Unknown label) = why.Unknown
build_refusal (build.PlacedTwice label) = why.Twice
build_refusal build.NoTarget = why.Text
build_refusal (build.NotEncoded cause) = why.Spelling cause 0

-- why a line adds nothing
abbrev pub line_refusal : LineError → Refusal
line_refusal line.NotCode = why.Text
line_refusal line.SizeNeeded = why.Size
line_refusal line.NotData = why.Data
line_refusal line.UnknownName = why.Unknown
line_refusal (line.Refused cause) = build_refusal cause
line_refusal line.DoesNotFit = why.Unfit
line_refusal line.BadAlignment = why.Alignment
line_refusal line.BadLabel = why.Label

-- why a routine has no bytes
abbrev pub finish_refusal : FinishError → Refusal
finish_refusal finish.Memory = why.Memory
finish_refusal (finish.Unplaced at) = why.Unplaced
finish_refusal (finish.Wraps end) = why.Wraps
finish_refusal (finish.TooFar at target) = why.TooFar

-- why a text has none
abbrev pub text_refusal : AssembleError → Refusal
text_refusal text_error.NoMemory = why.Memory
text_refusal (text_error.AtName number) = why.NameLine
text_refusal text_error.TooManyLabels = why.Labels
text_refusal (text_error.AtLine number column cause) = line_refusal cause
text_refusal (text_error.Unfinished number column cause) = finish_refusal cause
text_refusal text_error.Unsettled = why.Unsettled

-- why nothing is written
abbrev pub routine_refusal : RoutineRefusal → Refusal
routine_refusal Mode = why.Mode
routine_refusal (NoRoutine cause) = text_refusal cause
routine_refusal Room = why.Room

-- what the call says
abbrev pub routine_said : Result TextRoutine RoutineRefusal → ℤ
routine_said (Ok r) = pos 0
routine_said (Err e) = refusal_status (routine_refusal e)

-- what the room of the bytes holds
abbrev pub bytes_left : List ℕ → Result TextRoutine RoutineRefusal → List ℕ
bytes_left = room_left (λ (r : TextRoutine). r.made.bytes)

-- what the room of the labels holds
abbrev pub labels_left : List FlatLabel → Result TextRoutine RoutineRefusal → List FlatLabel
labels_left = room_left (λ (r : TextRoutine). r.labels.items)

-- ---- the report

-- no numbers
abbrev pub nothing_made : FlatRoutine
nothing_made = record { bytes = 0; slots = 0; labels = 0; line = 0; column = 0; at = 0; address = 0 }

-- the numbers of why a routine has no bytes: its item and the address it does not reach, or its end modulo 2 ^ 64
abbrev pub finish_report : FinishError → FlatRoutine
finish_report finish.Memory = nothing_made
finish_report (finish.Unplaced at) = record nothing_made { at = at }
finish_report (finish.Wraps end) = record nothing_made { address = end % 2 ^ 64 }
finish_report (finish.TooFar at target) = record nothing_made { at = at; address = target }

-- the numbers of why a text has none: the line and the column, of names the line
abbrev pub text_report : AssembleError → FlatRoutine
text_report text_error.NoMemory = nothing_made
text_report (text_error.AtName number) = record nothing_made { line = number }
text_report text_error.TooManyLabels = nothing_made
text_report (text_error.AtLine number column cause) = record nothing_made { line = number; column = column }
text_report (text_error.Unfinished number column cause) = record (finish_report cause) { line = number; column = column }
text_report text_error.Unsettled = nothing_made

-- the numbers of a refusal
abbrev pub refusal_report : RoutineRefusal → FlatRoutine
refusal_report (NoRoutine cause) = text_report cause
refusal_report e = nothing_made

-- how many bytes, slots and labels there are, also where a room does not hold them; or the numbers of the refusal
abbrev pub routine_report : Result TextRoutine RoutineRefusal → FlatRoutine
routine_report (Ok r) = record nothing_made { bytes = length r.made.bytes; slots = length r.made.moved.slots; labels = length r.labels.items }
routine_report (Err e) = refusal_report e

-- what a call says and leaves, with slots or without
pub record IsRoutineCallBy (slots : Bool) (bits base : ℕ) (text names : List ℕ) (code code' : List ℕ) (labels labels' : List FlatLabel) (report : FlatRoutine) (said : ℤ) : Type 0 where
  pub answer : Result TextRoutine RoutineRefusal
  pub is : IsRoutineAnswer slots (bits_numbered bits) base names text answer
  pub said_is : said ≡ routine_said (routine_within (length code) (length labels) answer)
  pub code_is : code' ≡ bytes_left code (routine_within (length code) (length labels) answer)
  pub labels_are : labels' ≡ labels_left labels (routine_within (length code) (length labels) answer)
  pub report_is : report ≡ routine_report answer

-- the call with slots
abbrev pub IsRoutineCall : ℕ → ℕ → List ℕ → List ℕ → List ℕ → List ℕ → List FlatLabel → List FlatLabel → FlatRoutine → ℤ → Type 0
IsRoutineCall = IsRoutineCallBy true

-- the call without slots
abbrev pub IsNearRoutineCall : ℕ → ℕ → List ℕ → List ℕ → List ℕ → List ℕ → List FlatLabel → List FlatLabel → FlatRoutine → ℤ → Type 0
IsNearRoutineCall = IsRoutineCallBy false
