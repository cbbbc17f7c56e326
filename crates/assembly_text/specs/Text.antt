-- Routines as text: which instruction a line stands for, which label it goes to, and what the lines of a text add to a routine in a round.
use Rattle.std.specs.Prelude.{◌≡◌, ◌⊎◌, ℕ, ◌+◌, ◌<◌, Bool, true, false, not, ◌&&◌, ◌||◌, if◌then◌else◌, List, [], ◌∷◌, ◌++◌, length, Option, Some, None, Result, Ok, Err, bytes_eq, is_some, alloc_error}
use Rattle.std.specs.declared.alloc.AllocError.{AllocError}
use Rattle.x86_values.specs.declared.Bits.{Bits}
use Rattle.x86_values.specs.declared.Instr.{Instr}
use Rattle.intel_reader.specs.Assembled.{IsAssembled as IsReadAs, IsNoText}
use Rattle.move_goals.specs.MovedTargets.Targets.{target_of}
use Rattle.code_assembler.specs.declared.error.BuildError.{BuildError}
use Rattle.code_assembler.specs.declared.error.BuildError.TheVariants.{Memory, PlacedTwice}
use Rattle.code_assembler.specs.Routine.{RoutineState}
use Rattle.code_assembler.specs.Built.{with_label, with_labels, with_place, with_item, with_bytes, label_refusal, place_refusal, push_refusal, bytes_refusal, first_of}
use Rattle.assembly_text.specs.declared.code.Code.{Code}
use Rattle.assembly_text.specs.declared.code.Code.TheVariants.{Plain, Named, Unsized, Nothing}
use Rattle.assembly_text.specs.declared.round.Trace.{Trace}
use Rattle.assembly_text.specs.declared.text_error.LineError.{LineError}
use Rattle.assembly_text.specs.declared.text_error.LineError.TheVariants.{NotCode, SizeNeeded, NotData, UnknownName, Refused, DoesNotFit, BadAlignment, BadLabel}
use Rattle.assembly_text.specs.Lines.{shown, shown_column, body_column, label_of, body_of, name_at, without_name}
use Rattle.assembly_text.specs.Names.{first_word, behind_word}
use Rattle.assembly_text.specs.Data.{data_of, data_width}
use Rattle.assembly_text.specs.Constants.{bad_from, resolved}
use Rattle.assembly_text.specs.Readings.{IsFreeCode}
use Rattle.assembly_text.specs.Labels.{is_label_name, begins_label, number_of, labels_from}
use Rattle.assembly_text.specs.Placing.{View, zeroed, no_trace, place_at, placed, has_labels, placed_text, freed, IsPlacedCode, is_whole, is_nothing, IsUnfit, IsUnknown}
use Rattle.assembly_text.specs.Padding.{is_align, alignment_in, gap, padding}

-- ---- instructions

-- With 0x0 in place of the name at a place the text stands for no instruction, or for one that goes nowhere.
abbrev pub IsNotNamed : Bits → List ℕ → ℕ → Type 0
IsNotNamed bits text at =
    IsNoText bits 0 (without_name text at) ⊎ ((i : Instr) × (IsReadAs bits 0 (without_name text at) i × (target_of i ≡ None)))

-- With 0x0 in place of the name at a place the text stands for this instruction, which goes somewhere.
pub record IsAimedAt (bits : Bits) (text : List ℕ) (at : ℕ) (i : Instr) : Type 0 where
  pub read : IsReadAs bits 0 (without_name text at) i
  pub goes : is_some (target_of i) ≡ true

-- the first name with which the text stands for an instruction that goes somewhere
pub record IsNamed (bits : Bits) (text : List ℕ) (at : ℕ) (i : Instr) : Type 0 where
  pub begins : begins_label text at ≡ true
  pub within : at < length text
  pub aimed : IsAimedAt bits text at i
  pub first : (j : ℕ) → j < at → begins_label text j ≡ true → IsNotNamed bits text j

-- with no name does the text stand for an instruction that goes somewhere
abbrev pub IsUnnamed : Bits → List ℕ → Type 0
IsUnnamed bits text = (j : ℕ) → j < length text → begins_label text j ≡ true → IsNotNamed bits text j

-- what a text stands for that `asm` does not read: with a name in place of its target, or as people write it
abbrev pub IsFurtherCode : Bits → ℕ → List ℕ → Code → Type 0
IsFurtherCode bits base text code =
    ((at : ℕ) × ((i : Instr) × (IsNamed bits text at i × (code ≡ Named at i)))) ⊎ (IsUnnamed bits text × IsFreeCode bits base text code)

-- what a text stands for: an instruction as `asm` reads it, or else what it stands for otherwise
abbrev pub IsCode : Bits → ℕ → List ℕ → Code → Type 0
IsCode bits base text code =
    ((i : Instr) × (IsReadAs bits base text i × (code ≡ Plain i))) ⊎ (IsNoText bits base text × IsFurtherCode bits base text code)

-- ---- what a line adds

-- what the answer of a routine says of a line
abbrev pub told : Result (Unit {0}) BuildError → Result (Option LineError) AllocError
told (Ok u) = Ok None
told (Err Memory) = Err alloc_error
told (Err why) = Ok (Some (Refused why))

-- what an instruction adds
abbrev pub AddsCode : List (List ℕ) → List ℕ → Code → RoutineState → RoutineState → Type 0
AddsCode lines text (Plain i) s t = (push_refusal s i None ≡ None) × (t ≡ with_item s i None)
AddsCode lines text (Named at i) s t =
    (n : ℕ) × ((number_of lines (length s.labels) (name_at text at) ≡ Some n) × ((push_refusal s i (Some n) ≡ None) × (t ≡ with_item s i (Some n))))
AddsCode lines text code s t = ⊥

-- and why it adds nothing
abbrev pub RefusesCode : List (List ℕ) → List ℕ → Code → RoutineState → LineError → Type 0
RefusesCode lines text (Plain i) s (Refused why) = push_refusal s i None ≡ Some why
RefusesCode lines text (Named at i) s UnknownName = number_of lines (length s.labels) (name_at text at) ≡ None
RefusesCode lines text (Named at i) s (Refused why) =
    (n : ℕ) × ((number_of lines (length s.labels) (name_at text at) ≡ Some n) × (push_refusal s i (Some n) ≡ Some why))
RefusesCode lines text Nothing s NotCode = Unit {0}
RefusesCode lines text Unsized s SizeNeeded = Unit {0}
RefusesCode lines text code s why = ⊥

-- what the label of a line adds
abbrev pub AddsLabel : List (List ℕ) → Option (List ℕ) → RoutineState → RoutineState → Type 0
AddsLabel lines None s t = t ≡ s
AddsLabel lines (Some name) s t =
    (is_label_name name ≡ true) × ((n : ℕ) × ((number_of lines (length s.labels) name ≡ Some n) × ((place_refusal s n ≡ None) × (t ≡ with_place s n))))

-- and why it adds nothing
abbrev pub RefusesLabel : List (List ℕ) → Option (List ℕ) → RoutineState → LineError → Type 0
RefusesLabel lines (Some name) s BadLabel = is_label_name name ≡ false
RefusesLabel lines (Some name) s UnknownName = (is_label_name name ≡ true) × (number_of lines (length s.labels) name ≡ None)
RefusesLabel lines (Some name) s (Refused why) =
    (is_label_name name ≡ true) × ((n : ℕ) × ((number_of lines (length s.labels) name ≡ Some n) × (place_refusal s n ≡ Some why)))
RefusesLabel lines label s why = ⊥

-- ---- labels as numbers

-- A line that is no instruction as it stands is read again if it has names of labels, with their addresses in their place.
unfoldable pub is_open : View → List ℕ → Code → Bool
is_open v text code = not (is_whole code) && not (bytes_eq (placed_text v text) text)

-- what an instruction adds, if it is one with addresses in place of names
abbrev pub AddsPlaced : View → List ℕ → RoutineState → RoutineState → Type 0
AddsPlaced v text s t =
    (code : Code) × (IsPlacedCode s.bits v.base text (placed_text v text) code
    × ((is_nothing code ≡ false) × AddsCode v.all (placed_text v text) code s t))

-- Why a text is no instruction with addresses: with 0 as the address of each label it would be one, or it has an unknown name, or neither.
abbrev pub IsUnplaced : Bits → View → List ℕ → LineError → Type 0
IsUnplaced bits v text why =
    (IsUnfit bits v text true × (why ≡ DoesNotFit)) ⊎ (IsUnfit bits v text false × IsUnknown bits v.base text why)

-- why it adds nothing
abbrev pub RefusesPlaced : View → List ℕ → RoutineState → LineError → Type 0
RefusesPlaced v text s why =
    (code : Code) × (IsPlacedCode s.bits v.base text (placed_text v text) code
    × (((is_nothing code ≡ true) × IsUnplaced s.bits v text why) ⊎ ((is_nothing code ≡ false) × RefusesCode v.all (placed_text v text) code s why)))

-- what the text of an instruction adds, and what is passed on: with addresses or without
abbrev pub AddsStated : View → List ℕ → RoutineState → Trace → RoutineState → Trace → Type 0
AddsStated v text s f t g =
    (code : Code) × (IsCode s.bits v.base text code
    × (((is_open v text code ≡ false) × (AddsCode v.all text code s t × (g ≡ record f { after_data = false })))
    ⊎ ((is_open v text code ≡ true) × (AddsPlaced v text s t × (g ≡ record { after_data = false; placed = true })))))

-- why what has no names of labels adds nothing
abbrev pub RefusesClosed : View → List ℕ → Code → RoutineState → LineError → Type 0
RefusesClosed v text code s why =
    ((is_nothing code ≡ true) × IsUnknown s.bits v.base text why) ⊎ ((is_nothing code ≡ false) × RefusesCode v.all text code s why)

-- and why it adds nothing
abbrev pub RefusesStated : View → List ℕ → RoutineState → LineError → Type 0
RefusesStated v text s why =
    (code : Code) × (IsCode s.bits v.base text code
    × (((is_open v text code ≡ false) × RefusesClosed v text code s why) ⊎ ((is_open v text code ≡ true) × RefusesPlaced v text s why)))

-- ---- data

-- what data adds, each number of which has so many bytes
abbrev pub AddsData : View → ℕ → List ℕ → RoutineState → RoutineState → Type 0
AddsData v width text s t =
    (bytes : List ℕ) × ((data_of width (placed v text) ≡ Some bytes) × ((bytes_refusal s bytes ≡ None) × (t ≡ with_bytes s bytes)))

-- it would be data with 0 as the address of each label
abbrev pub is_ever_data : View → ℕ → List ℕ → Bool
is_ever_data v width text = is_some (data_of width (placed (zeroed v) text))

-- it would be data with 0 in place of each name
abbrev pub is_free_data : ℕ → List ℕ → Bool
is_free_data width text = is_some (data_of width (freed text))

-- why a text is no data: an address does not fit, a name is unknown, or neither
abbrev pub data_refusal : View → ℕ → List ℕ → LineError
data_refusal v width text =
    if is_ever_data v width text then DoesNotFit else (if is_free_data width text then UnknownName else NotData)

-- and why it adds nothing
abbrev pub RefusesData : View → ℕ → List ℕ → RoutineState → LineError → Type 0
RefusesData v width text s (Refused why) =
    (bytes : List ℕ) × ((data_of width (placed v text) ≡ Some bytes) × (bytes_refusal s bytes ≡ Some why))
RefusesData v width text s why = (data_of width (placed v text) ≡ None) × (why ≡ data_refusal v width text)

-- ---- alignment

-- a label more, which has its place here
abbrev pub with_mark : RoutineState → RoutineState
with_mark s = with_place (with_label s) (length s.labels)

-- none is made, or it has a place
abbrev pub mark_refusal : RoutineState → Option BuildError
mark_refusal s = first_of (label_refusal s) (place_refusal (with_label s) (length s.labels))

-- what fills up to a multiple of a number, by the address that the place had in the round before
abbrev pub padding_here : View → ℕ → RoutineState → Trace → List ℕ
padding_here v n s f = padding s.bits f.after_data (gap n (place_at v (length s.labels)))

-- what an alignment adds
abbrev pub AddsPadding : View → List ℕ → RoutineState → Trace → RoutineState → Type 0
AddsPadding v text s f t =
    (n : ℕ) × ((alignment_in text ≡ Some n) × ((mark_refusal s ≡ None)
    × ((bytes_refusal (with_mark s) (padding_here v n s f) ≡ None) × (t ≡ with_bytes (with_mark s) (padding_here v n s f)))))

-- and why it adds nothing
abbrev pub RefusesPadding : View → List ℕ → RoutineState → Trace → LineError → Type 0
RefusesPadding v text s f BadAlignment = alignment_in text ≡ None
RefusesPadding v text s f (Refused why) =
    (n : ℕ) × ((alignment_in text ≡ Some n) × ((mark_refusal s ≡ Some why)
    ⊎ ((mark_refusal s ≡ None) × (bytes_refusal (with_mark s) (padding_here v n s f) ≡ Some why))))
RefusesPadding v text s f why = ⊥

-- ---- the words of a line

-- how many bytes the numbers of a line have, 0 of a line that is no data
abbrev pub width_of : List ℕ → ℕ
width_of body = data_width (first_word body)

-- what a line adds that is not empty and no data: an alignment or an instruction
abbrev pub AddsFurther : View → List ℕ → RoutineState → Trace → RoutineState → Trace → Type 0
AddsFurther v body s f t g =
    ((is_align (first_word body) ≡ true) × (AddsPadding v (behind_word body) s f t × (g ≡ record f { placed = true })))
    ⊎ ((is_align (first_word body) ≡ false) × AddsStated v body s f t g)

-- and why it adds nothing
abbrev pub RefusesFurther : View → List ℕ → RoutineState → Trace → LineError → Type 0
RefusesFurther v body s f why =
    ((is_align (first_word body) ≡ true) × RefusesPadding v (behind_word body) s f why)
    ⊎ ((is_align (first_word body) ≡ false) × RefusesStated v body s why)

-- what is passed on behind data
abbrev pub behind_data : View → List ℕ → Trace → Trace
behind_data v text f = record { after_data = true; placed = f.placed || has_labels v text }

-- what a line that is not empty adds: data, or something else
abbrev pub AddsWords : View → List ℕ → RoutineState → Trace → RoutineState → Trace → Type 0
AddsWords v body s f t g =
    ((0 < width_of body) × (AddsData v (width_of body) (behind_word body) s t × (g ≡ behind_data v (behind_word body) f)))
    ⊎ ((width_of body ≡ 0) × AddsFurther v body s f t g)

-- and why it adds nothing
abbrev pub RefusesWords : View → List ℕ → RoutineState → Trace → LineError → Type 0
RefusesWords v body s f why =
    ((0 < width_of body) × RefusesData v (width_of body) (behind_word body) s why) ⊎ ((width_of body ≡ 0) × RefusesFurther v body s f why)

-- what the rest of a line adds: nothing, or what its words say with the numbers of the caller's names in their place
unfoldable pub AddsBody : View → List ℕ → RoutineState → Trace → RoutineState → Trace → Type 0
AddsBody v body s f t g = ((length body ≡ 0) × ((t ≡ s) × (g ≡ f))) ⊎ ((0 < length body) × AddsWords v (resolved v.names body) s f t g)

-- and why it adds nothing
unfoldable pub RefusesBody : View → List ℕ → RoutineState → Trace → LineError → Type 0
RefusesBody v body s f why = (0 < length body) × RefusesWords v (resolved v.names body) s f why

-- ---- lines

-- what a line adds: its label, and behind it the rest
abbrev pub AddsLine : View → List ℕ → RoutineState → Trace → RoutineState → Trace → Type 0
AddsLine v line s f t g = (u : RoutineState) × (AddsLabel v.all (label_of (shown line)) s u × AddsBody v (body_of (shown line)) u f t g)

-- and why it adds nothing, memory apart
abbrev pub RefusesLine : View → List ℕ → RoutineState → Trace → LineError → Type 0
RefusesLine v line s f why =
    RefusesLabel v.all (label_of (shown line)) s why
    ⊎ ((u : RoutineState) × (AddsLabel v.all (label_of (shown line)) s u × RefusesBody v (body_of (shown line)) u f why))

-- what some lines of a text add, one behind another
abbrev pub AddLines : View → List (List ℕ) → RoutineState → Trace → RoutineState → Trace → Type 0
AddLines v [] s f t g = (s ≡ t) × (f ≡ g)
AddLines v (line ∷ lines) s f t g = (u : RoutineState) × ((h : Trace) × (AddsLine v line s f u h × AddLines v lines u h t g))

-- a routine with the labels of a text
abbrev pub first_state : Bits → View → RoutineState
first_state bits v = with_labels bits (labels_from v.all 0)

-- the routine of a text in a round, where each line of names is one, and what is passed on behind its last line
abbrev pub IsRoutineOf : Bits → View → RoutineState → Trace → Type 0
IsRoutineOf bits v s f = (bad_from v.names 0 ≡ None) × AddLines v v.all (first_state bits v) no_trace s f

-- the column of what is refused in a line: a label that is none or has a place already, or what the line says besides its label
unfoldable pub column_of : List ℕ → LineError → ℕ
column_of line BadLabel = shown_column line
column_of line (Refused (PlacedTwice label)) = shown_column line
column_of line why = body_column line

-- the line of this number, counted from 1, is the first that adds nothing in a round, at this column and for this cause
pub record IsRefusedLine (bits : Bits) (v : View) (number : ℕ) (column : ℕ) (why : LineError) : Type 0 where
  pub before : List (List ℕ)
  pub line : List ℕ
  pub behind : List (List ℕ)
  pub good : bad_from v.names 0 ≡ None
  pub are : v.all ≡ before ++ line ∷ behind
  pub state : RoutineState
  pub trace : Trace
  pub built : AddLines v before (first_state bits v) no_trace state trace
  pub refused : RefusesLine v line state trace why
  pub number_is : number ≡ length before + 1
  pub column_is : column ≡ column_of line why
