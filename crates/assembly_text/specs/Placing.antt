-- Labels as numbers: what a round of assembling knows, and the texts in which the addresses of labels take the place of their names.
use Rattle.std.specs.Prelude.{◌≡◌, ℕ, ◌-◌, Bool, true, false, not, ◌&&◌, ◌||◌, if◌then◌else◌, is_some, List, ◌++◌, take, drop, length, slice_index_or, bytes_eq, Option, Some, None}
use Rattle.x86_values.specs.declared.Bits.{Bits}
use Rattle.move_goals.specs.MovedTargets.Targets.{target_of}
use Rattle.assembly_text.specs.declared.code.Code.{Code}
use Rattle.assembly_text.specs.declared.code.Code.TheVariants.{Plain, Named, Unsized, Nothing}
use Rattle.assembly_text.specs.declared.drafts.Draft.{Draft}
use Rattle.assembly_text.specs.declared.numbers.Numbers.{Numbers}
use Rattle.assembly_text.specs.declared.numbers.Numbers.TheVariants.{Names, Labels, Free}
use Rattle.assembly_text.specs.declared.round.Round.{Round}
use Rattle.assembly_text.specs.declared.round.Trace.{Trace}
use Rattle.assembly_text.specs.declared.statements.Statement.{Statement}
use Rattle.assembly_text.specs.declared.text_error.LineError.{LineError}
use Rattle.assembly_text.specs.declared.text_error.LineError.TheVariants.{NotCode, SizeNeeded, UnknownName}
use Rattle.assembly_text.specs.Lines.{lines_in}
use Rattle.assembly_text.specs.Labels.{number_from}
use Rattle.assembly_text.specs.Constants.{constant_from, is_free_name, resolved_from}
use Rattle.assembly_text.specs.Drafts.{is_relative}
use Rattle.assembly_text.specs.Statements.{operands_text, statement_of}
use Rattle.assembly_text.specs.Readings.{lowered, IsSpelledCode}

-- ---- rounds

-- what a round knows: the address of the routine, the lines of the caller's names, those of the text, and the addresses that its labels had in the round before
pub record View : Type 0 where
  pub base : ℕ
  pub names : List (List ℕ)
  pub all : List (List ℕ)
  pub places : List ℕ

-- what is passed on in a round
abbrev pub view_of : Round → View
view_of r = record { base = r.base; names = lines_in r.names.now; all = lines_in r.labels.now.text.now; places = r.places.now }

-- the same with 0 as the address of each label
abbrev pub zeroed : View → View
zeroed v = record v { base = 0; places = List.[] }

-- before the first line
unfoldable pub no_trace : Trace
no_trace = record { after_data = false; placed = false }

-- ---- numbers of labels

-- the address of a label in the round before, or where it had none that of the routine
abbrev pub place_at : View → ℕ → ℕ
place_at v n = slice_index_or v.places n v.base

-- the address of the label of this number, if its name is no word of an operand
unfoldable pub place_by : View → List ℕ → Option ℕ → Option ℕ
place_by v name None = None
place_by v name (Some n) = if is_free_name name then Some (place_at v n) else None

-- the address of the first label of a name
abbrev pub label_number : View → List ℕ → Option ℕ
label_number v name = place_by v name (number_from v.all name 0)

-- 0 for a name that is no word of an operand
unfoldable pub free_number : List ℕ → Option ℕ
free_number name = if is_free_name name then Some 0 else None

-- the number of a word, which is a name of the caller or of a label, or any name
unfoldable pub number_in : Numbers → (List ℕ → Option ℕ)
number_in (Names names) = constant_from (lines_in names.now)
number_in (Labels r) = λ word. label_number (view_of r) word
number_in Free = λ word. free_number word

-- a text with addresses in place of the names of labels
abbrev pub placed : View → List ℕ → List ℕ
placed v text = resolved_from (λ word. label_number v word) 0 0 text

-- a text with 0 in place of each name, of a label or not
abbrev pub freed : List ℕ → List ℕ
freed text = resolved_from (λ word. free_number word) 0 0 text

-- a text has such names
abbrev pub has_labels : View → List ℕ → Bool
has_labels v text = not (bytes_eq (placed v text) text)

-- ---- instructions

-- where the operands of a text in lower case begin
abbrev pub operands_at : List ℕ → ℕ
operands_at low = length low - length (operands_text low)

-- a text with addresses in place of the names of labels behind a place
abbrev pub placed_behind : View → ℕ → List ℕ → List ℕ
placed_behind v at text = take at text ++ placed v (drop at text)

-- the text of an instruction with addresses in place of the names of labels in its operands
abbrev pub placed_text : View → List ℕ → List ℕ
placed_text v text = placed_behind v (operands_at (lowered text)) text

-- the text of an instruction with 0 in place of each name in its operands
abbrev pub freed_text : List ℕ → List ℕ
freed_text text = take (operands_at (lowered text)) text ++ freed (drop (operands_at (lowered text)) text)

-- an operand with an address in place of a name is relative where it was with the name
unfoldable pub placed_part : Bits → Option Draft → Option Draft → Option Draft
placed_part bits (Some d) (Some e) = Some (record e { rel = e.rel || (is_some d.name && is_relative bits d) })
placed_part bits named part = part

-- what a text says with addresses, by what it says with names
unfoldable pub placed_statement : Bits → Statement → Statement → Statement
placed_statement bits s p = record {
  first = placed_part bits s.first p.first;
  second = placed_part bits s.second p.second;
  third = placed_part bits s.third p.third;
  fourth = placed_part bits s.fourth p.fourth;
  closed = p.closed;
}

-- what a text stands for with addresses in place of names
abbrev pub IsPlacedCode : Bits → ℕ → List ℕ → List ℕ → Code → Type 0
IsPlacedCode bits ip text placed code =
    IsSpelledCode bits ip (lowered placed) (placed_statement bits (statement_of (lowered text)) (statement_of (lowered placed))) code

-- an instruction, which goes to its name if it has one
unfoldable pub is_whole : Code → Bool
is_whole (Plain i) = true
is_whole (Named at i) = is_some (target_of i)
is_whole Unsized = false
is_whole Nothing = false

-- no instruction
unfoldable pub is_nothing : Code → Bool
is_nothing Nothing = true
is_nothing _ = false

-- an instruction that goes to no name
unfoldable pub is_nameless : Code → Bool
is_nameless (Plain i) = true
is_nameless Unsized = true
is_nameless _ = false

-- with 0 as the address of each label a text stands for an instruction, or for none
abbrev pub IsUnfit : Bits → View → List ℕ → Bool → Type 0
IsUnfit bits v text unfit =
    (code : Code) × (IsPlacedCode bits v.base text (placed_text (zeroed v) text) code × (is_nameless code ≡ unfit))

-- why a text stands for no instruction, by what it stands for with 0 in place of each name
unfoldable pub refusal_of : Code → LineError
refusal_of Nothing = NotCode
refusal_of Unsized = SizeNeeded
refusal_of _ = UnknownName

-- why a text stands for no instruction: with 0 in place of each name it stands for one, for several, or for none
abbrev pub IsUnknown : Bits → ℕ → List ℕ → LineError → Type 0
IsUnknown bits base text why = (code : Code) × (IsPlacedCode bits base text (freed_text text) code × (why ≡ refusal_of code))
