-- Texts that are assembled in rounds: until the labels have the addresses with which the lines were read.
use Rattle.std.specs.Prelude.{◌≡◌, ◌⊎◌, ℕ, zero, suc, ◌+◌, ◌<◌, Bool, true, false, not, ◌||◌, List, [], ◌∷◌, length, unwrap_or, bytes_eq, Result, Ok, Err, None, Some}
use Rattle.x86_values.specs.declared.Bits.{Bits}
use Rattle.code_assembler.specs.Routine.{RoutineState}
use Rattle.code_assembler.specs.Finished.{AssembledState, IsFinished, label_address}
use Rattle.code_assembler.specs.Near.{IsFinishedNear}
use Rattle.code_assembler.specs.declared.error.FinishError.{FinishError}
use Rattle.assembly_text.specs.declared.round.Trace.{Trace}
use Rattle.assembly_text.specs.declared.text_error.AssembleError.{AssembleError}
use Rattle.assembly_text.specs.declared.text_error.AssembleError.TheVariants.{NoMemory, AtName, TooManyLabels, AtLine, Unfinished, Unsettled}
use Rattle.assembly_text.specs.Lines.{lines_in}
use Rattle.assembly_text.specs.Labels.{labels_from}
use Rattle.assembly_text.specs.Constants.{bad_from}
use Rattle.assembly_text.specs.Placing.{View}
use Rattle.assembly_text.specs.Text.{IsRoutineOf, IsRefusedLine}
use Rattle.assembly_text.specs.Origins.{IsPlaceOf, item_of}

-- why a text has no routine in a round
abbrev pub IsNoRoutine : Bits → View → AssembleError → Type 0
IsNoRoutine bits v NoMemory = Unit {0}
IsNoRoutine bits v (AtName number) = bad_from v.names 0 ≡ Some number
IsNoRoutine bits v TooManyLabels = (bad_from v.names 0 ≡ None) × (65536 < labels_from v.all 0)
IsNoRoutine bits v (AtLine number column why) = IsRefusedLine bits v number column why
IsNoRoutine bits v (Unfinished number column why) = ⊥
IsNoRoutine bits v Unsettled = ⊥

-- the answer for a routine: with slots for what its branches do not reach, or without
abbrev pub IsFinishedBy : Bool → RoutineState → ℕ → Result AssembledState FinishError → Type 0
IsFinishedBy true s base answer = IsFinished s base answer
IsFinishedBy false s base answer = IsFinishedNear s base answer

-- what a round gives: the routine of the text, and its bytes
abbrev pub IsRound : Bool → Bits → View → RoutineState → Trace → AssembledState → Type 0
IsRound slots bits v s f a = IsRoutineOf bits v s f × IsFinishedBy slots s v.base (Ok a)

-- why a round gives no bytes: at the line that added the item in question
abbrev pub IsNoRound : Bool → Bits → View → AssembleError → Type 0
IsNoRound slots bits v (Unfinished number column why) =
    (s : RoutineState) × ((f : Trace) × (IsRoutineOf bits v s f
    × (IsFinishedBy slots s v.base (Err why) × IsPlaceOf bits v s f (item_of why (length s.items)) number column)))
IsNoRound slots bits v why = IsNoRoutine bits v why

-- ---- addresses

-- the addresses of so many labels from one on; for a label without one it is that of the routine
unfoldable pub places_from : AssembledState → ℕ → ℕ → ℕ → List ℕ
places_from a base label zero = []
places_from a base label (suc count) = unwrap_or (label_address a label) base ∷ places_from a base (label + 1) count

-- the addresses of the labels of a routine
abbrev pub places_of : AssembledState → ℕ → RoutineState → List ℕ
places_of a base s = places_from a base 0 (length s.labels)

-- the lines were read without addresses of labels, or with those that the labels have
unfoldable pub is_settled : Trace → List ℕ → List ℕ → Bool
is_settled f before after = not f.placed || bytes_eq after before

-- ---- the answer

-- what a round knows by the addresses that the round before gave
abbrev pub view : ℕ → List ℕ → List ℕ → List ℕ → View
view base names text places = record { base = base; names = lines_in names; all = lines_in text; places = places }

-- a round that is settled
abbrev pub IsLastRound : Bool → Bits → View → AssembledState → Type 0
IsLastRound slots bits v a =
    (s : RoutineState) × ((f : Trace) × (IsRound slots bits v s f a × (is_settled f v.places (places_of a v.base s) ≡ true)))

-- a round that is not, and the addresses that it gave
abbrev pub IsOtherRound : Bool → Bits → View → AssembledState → List ℕ → Type 0
IsOtherRound slots bits v a next =
    (s : RoutineState) × ((f : Trace) × (IsRound slots bits v s f a
    × ((is_settled f v.places (places_of a v.base s) ≡ false) × (next ≡ places_of a v.base s))))

-- The answer by so many rounds, the first of which knows these addresses: that of the first round that is settled or gives no bytes.
unfoldable pub IsAnswerIn : ℕ → Bool → Bits → ℕ → List ℕ → List ℕ → List ℕ → Result AssembledState AssembleError → Type 0
IsAnswerIn zero slots bits base names text places answer = answer ≡ Err Unsettled
IsAnswerIn (suc rounds) slots bits base names text places answer =
    ((why : AssembleError) × (IsNoRound slots bits (view base names text places) why × (answer ≡ Err why)))
    ⊎ (((a : AssembledState) × (IsLastRound slots bits (view base names text places) a × (answer ≡ Ok a)))
    ⊎ ((a : AssembledState) × ((next : List ℕ) × (IsOtherRound slots bits (view base names text places) a next
    × IsAnswerIn rounds slots bits base names text next answer))))

-- The answer for a text with names, with slots or without them: that of 16 rounds, the first of which takes the address of the routine for that of each label.
abbrev pub IsAnswerBy : Bool → Bits → ℕ → List ℕ → List ℕ → Result AssembledState AssembleError → Type 0
IsAnswerBy slots bits base names text answer = IsAnswerIn 16 slots bits base names text [] answer

-- the answer with slots
abbrev pub IsNamedAnswer : Bits → ℕ → List ℕ → List ℕ → Result AssembledState AssembleError → Type 0
IsNamedAnswer bits base names text answer = IsAnswerBy true bits base names text answer

-- the answer for a text without names
abbrev pub IsTextAnswer : Bits → ℕ → List ℕ → Result AssembledState AssembleError → Type 0
IsTextAnswer bits base text answer = IsNamedAnswer bits base [] text answer

-- The bytes are those of a round whose lines were read without addresses of labels, or with the addresses that the labels have.
abbrev pub IsSettledBy : Bool → Bits → ℕ → List ℕ → List ℕ → AssembledState → Type 0
IsSettledBy slots bits base names text a =
    (places : List ℕ) × ((s : RoutineState) × ((f : Trace) × (IsRound slots bits (view base names text places) s f a
    × (f.placed ≡ true → places ≡ places_of a base s))))

-- such bytes with slots
abbrev pub IsSettled : Bits → ℕ → List ℕ → List ℕ → AssembledState → Type 0
IsSettled bits base names text a = IsSettledBy true bits base names text a
