-- Which line of a text added an item of a routine, and where a routine without bytes is refused.
use Rattle.std.specs.Prelude.{◌≡◌, ◌⊎◌, ℕ, ◌+◌, ◌-◌, ◌<◌, ◌≤◌, nat_lt, if◌then◌else◌, List, ◌∷◌, ◌++◌, length, Option, Some, None}
use Rattle.std.specs.List.{find}
use Rattle.x86_values.specs.declared.Bits.{Bits}
use Rattle.code_assembler.specs.Routine.{RoutineState}
use Rattle.code_assembler.specs.declared.error.FinishError.{FinishError}
use Rattle.code_assembler.specs.declared.error.FinishError.TheVariants.{Memory, Unplaced, Wraps, TooFar}
use Rattle.assembly_text.specs.declared.origins.Origin.{Origin}
use Rattle.assembly_text.specs.declared.round.Trace.{Trace}
use Rattle.assembly_text.specs.Lines.{body_column}
use Rattle.assembly_text.specs.Placing.{View, no_trace}
use Rattle.assembly_text.specs.Text.{AddsLine, AddLines, first_state, IsRoutineOf}

-- ---- the line of an item

-- The lines build a routine, and the line of this number, from 1, adds this item of it: before the line there are at most so many items, and behind it there
-- are more. The column is that of what it says besides its label.
pub record IsItemLine (v : View) (first : RoutineState) (lines : List (List ℕ)) (s : RoutineState) (f : Trace) (at number column : ℕ) : Type 0 where
  pub before : List (List ℕ)
  pub line : List ℕ
  pub behind : List (List ℕ)
  pub are : lines ≡ before ++ line ∷ behind
  pub state : RoutineState
  pub trace : Trace
  pub built : AddLines v before first no_trace state trace
  pub after : RoutineState
  pub more : Trace
  pub step : AddsLine v line state trace after more
  pub rest : AddLines v behind after more s f
  pub from : length state.items ≤ at
  pub past : at < length after.items
  pub number_is : number ≡ length before + 1
  pub column_is : column ≡ body_column line

-- where an item of the routine of a text stands in it; 0 and 0 without such an item
abbrev pub IsPlaceOf : Bits → View → RoutineState → Trace → ℕ → ℕ → ℕ → Type 0
IsPlaceOf bits v s f at number column =
    ((at < length s.items) × IsItemLine v (first_state bits v) v.all s f at number column) ⊎ ((length s.items ≤ at) × ((number ≡ 0) × (column ≡ 0)))

-- the item of so many that a cause is about: if the end passes the address space the last one, without memory none
unfoldable pub item_of : FinishError → ℕ → ℕ
item_of Memory count = count
item_of (Unplaced at) count = at
item_of (Wraps end) count = count - 1
item_of (TooFar at target) count = at

-- ---- how it is found

-- the first of some lines behind which there are more than so many items
abbrev pub origin_of : List Origin → ℕ → Option Origin
origin_of lines at = find (λ (line : Origin). nat_lt at line.end) lines

-- its number and its column
abbrev pub place_by : Option Origin → ℕ × ℕ
place_by None = (0, 0)
place_by (Some line) = (line.number, line.column)

-- those of an item of so many
unfoldable pub place_of : List Origin → ℕ → ℕ → ℕ × ℕ
place_of lines count at = if nat_lt at count then place_by (origin_of lines at) else (0, 0)

-- those of what a cause is about
abbrev pub place_by_cause : List Origin → ℕ → FinishError → ℕ × ℕ
place_by_cause lines count why = place_of lines count (item_of why count)

-- this is the line of an item
abbrev pub IsOrigin : View → RoutineState → List (List ℕ) → RoutineState → Trace → ℕ → Option Origin → Type 0
IsOrigin v first lines s f at None = ⊥
IsOrigin v first lines s f at (Some line) = IsItemLine v first lines s f at line.number line.column

-- the routine of a text, and the lines of its items
abbrev pub IsBuilt : Bits → View → RoutineState → Trace → List Origin → Type 0
IsBuilt bits v s f origins =
    IsRoutineOf bits v s f × ((at : ℕ) → at < length s.items → IsOrigin v (first_state bits v) v.all s f at (origin_of origins at))
