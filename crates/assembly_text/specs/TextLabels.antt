-- Where the labels of a text stand in it.
use Rattle.std.specs.Prelude.{ℕ, ◌+◌, ◌-◌, if◌then◌else◌, List, [], ◌∷◌, ◌++◌, length}
use Rattle.assembly_text.specs.declared.text_labels.LabelLine.{LabelLine}
use Rattle.assembly_text.specs.Lines.{lines_in, shown, shown_column, has_label, name_len}

-- the label of a line of this number, from 1, whose first byte has this offset: its name begins at what the line shows
unfoldable pub label_at : ℕ → ℕ → List ℕ → List LabelLine
label_at number offset line =
    if has_label (shown line)
    then record { line = number; offset = offset + (shown_column line - 1); len = name_len (shown line) } ∷ []
    else []

-- the labels of some lines in order, the first of which has this number and this offset; a line feed ends each line
unfoldable pub labels_at : ℕ → ℕ → List (List ℕ) → List LabelLine
labels_at number offset [] = []
labels_at number offset (line ∷ lines) = label_at number offset line ++ labels_at (number + 1) (offset + (length line + 1)) lines

-- the labels of a text
abbrev pub label_lines : List ℕ → List LabelLine
label_lines text = labels_at 1 0 (lines_in text)
