-- The labels of a text: their numbers, in the order of their lines.
use Rattle.std.specs.Prelude.{◌≡◌, ℕ, ◌+◌, Bool, not, ◌&&◌, nat_lt, if◌then◌else◌, List, [], ◌∷◌, map, Option, Some, None, bytes_eq}
use Rattle.assembly_text.specs.Constants.{is_free_name}
use Rattle.assembly_text.specs.Lines.{lower_byte, lines_in, shown, has_label, label_of, begins_name, name_at}
use Rattle.assembly_text.specs.Names.{is_instruction_name}

-- a name may be that of a label: in no case is it a word of an operand, the name of an instruction or a prefix
unfoldable pub is_label_name : List ℕ → Bool
is_label_name name = is_free_name name && not (is_instruction_name (map lower_byte name))

-- a name that may be that of a label begins at a place of a text
unfoldable pub begins_label : List ℕ → ℕ → Bool
begins_label text at = begins_name text at && is_label_name (name_at text at)

-- the number of a name by the label of a line, and by the lines behind it
abbrev pub number_by : Option (List ℕ) → (ℕ → Option ℕ) → List ℕ → ℕ → Option ℕ
number_by None behind name count = behind count
number_by (Some label) behind name count = if bytes_eq label name then Some count else behind (count + 1)

-- the number of the first label of a name among some lines, behind so many labels
unfoldable pub number_from : List (List ℕ) → List ℕ → ℕ → Option ℕ
number_from [] name count = None
number_from (line ∷ lines) name count = number_by (label_of (shown line)) (number_from lines name) name count

-- the first of two numbers, if there is one
abbrev pub first_number : Option ℕ → Option ℕ → Option ℕ
first_number (Some n) other = Some n
first_number None other = other

-- a number below another
abbrev pub below : Option ℕ → ℕ → Option ℕ
below None count = None
below (Some n) count = if nat_lt n count then Some n else None

-- the number of a name, of so many labels
abbrev pub number_of : List (List ℕ) → ℕ → List ℕ → Option ℕ
number_of lines count name = below (number_from lines name 0) count

-- how many labels some lines have, behind so many
unfoldable pub labels_from : List (List ℕ) → ℕ → ℕ
labels_from [] count = count
labels_from (line ∷ lines) count = labels_from lines (if has_label (shown line) then count + 1 else count)

-- the labels of one text are those of another
pub record HasLabelsOf (text : List ℕ) (rest : List ℕ) : Type 0 where
  pub names : (name : List ℕ) (count : ℕ) → number_from (lines_in text) name count ≡ number_from (lines_in rest) name count
  pub total : (count : ℕ) → labels_from (lines_in text) count ≡ labels_from (lines_in rest) count
