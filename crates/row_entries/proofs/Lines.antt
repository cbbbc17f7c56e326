-- The rows of a text: those of its first line, then those of what stands behind it.
use Rattle.std.proofs.Common.{◌≡◌, ℕ, ◌<◌, List, [], ◌∷◌, ◌++◌, length, Option, None, Some, refl, ap, append_assoc, arith}
use Rattle.instruction_parts.specs.declared.row_types.RowKind.{RowKind}
use Rattle.row_entries.specs.declared.entry.Entry.{Entry}
use Rattle.row_entries.specs.declared.rows.Section.{Section}
use Rattle.row_entries.specs.declared.rows.Line.TheVariants as line
use Rattle.row_entries.specs.Text.{text_front, text_behind}
use Rattle.row_entries.specs.Words.{split}
use Rattle.row_entries.specs.Variants.{lengths}
use Rattle.row_entries.specs.Entries.{names_of}
use Rattle.row_entries.specs.Rows.{Named, rows_at_each, entry_line, before, section_rows}
use Rattle.row_entries.proofs.Splits.{split_front}

-- a text without lines has no rows
pub rows_none : (kind : RowKind) (at : Section) (text : List ℕ) → length text < 1 → section_rows kind at (split text 10) ≡ Some []
unfolding section_rows split
rows_none kind at [] h = refl
rows_none kind at (c ∷ text) h = absurd (omega arith)

-- a comment or an empty line adds no row
pub rows_idle : (kind : RowKind) (at : Section) (text : List ℕ) → 0 < length text → entry_line kind at (text_front text 10) ≡ Some line.Idle
    → section_rows kind at (split text 10) ≡ section_rows kind at (split (text_behind text 10) 10)
unfolding section_rows
rows_idle kind at [] h e = absurd (omega arith)
rows_idle kind at (c ∷ text) h e = rw (split_front c text 10) (rw (e, section_rows) refl)

-- a heading begins a section
pub rows_begins : (kind : RowKind) (at section : Section) (text : List ℕ) → 0 < length text → entry_line kind at (text_front text 10) ≡ Some (line.Begins section)
    → section_rows kind at (split text 10) ≡ section_rows kind section (split (text_behind text 10) 10)
unfolding section_rows
rows_begins kind at section [] h e = absurd (omega arith)
rows_begins kind at section (c ∷ text) h e = rw (split_front c text 10) (rw (e, section_rows) refl)

-- an entry adds its rows
pub rows_entry : (kind : RowKind) (at : Section) (entry : Entry) (text : List ℕ) → 0 < length text → entry_line kind at (text_front text 10) ≡ Some (line.Entry entry)
    → section_rows kind at (split text 10)
    ≡ before (rows_at_each at.version entry (lengths entry) (names_of (text_front text 10))) (section_rows kind at (split (text_behind text 10) 10))
unfolding section_rows
rows_entry kind at entry [] h e = absurd (omega arith)
rows_entry kind at entry (c ∷ text) h e = rw (split_front c text 10) (rw (e, section_rows) refl)

-- rows before others, in two steps
pub before_both : (a b : List Named) (rows : Option (List Named)) → before (a ++ b) rows ≡ before a (before b rows)
before_both a b None = refl
before_both a b (Some rows) = ap (λ x. Some x) (append_assoc a b rows)
