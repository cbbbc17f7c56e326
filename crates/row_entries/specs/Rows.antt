-- The rows that the lines of a file of entries stand for (docs/entries.md).
use Rattle.std.specs.Prelude.{◌≡◌, ℕ, ◌+◌, ◌-◌, Bool, true, false, ◌&&◌, ◌||◌, ◌==◌, nat_le, if◌then◌else◌, List, [], ◌∷◌, ◌++◌, map, Option, Some, None, codes, bytes_eq}
use Rattle.instruction_parts.specs.declared.row_types.RowKind.{RowKind}
use Rattle.instruction_parts.specs.declared.row_types.Map.{Map}
use Rattle.instruction_parts.specs.declared.row_types.Marks.{Marks}
use Rattle.instruction_parts.specs.declared.row_types.ModRmRule.{ModRmRule}
use Rattle.instruction_parts.specs.declared.row_types.ModRmRule.TheVariants as rule
use Rattle.instruction_parts.specs.declared.row_types.Place.{Place}
use Rattle.instruction_parts.specs.declared.row_types.Place.TheVariants as place
use Rattle.instruction_parts.specs.declared.row_types.LBit.{LBit}
use Rattle.instruction_parts.specs.declared.row_types.Row.{Row}
use Rattle.row_entries.specs.declared.entry.Entry.{Entry}
use Rattle.row_entries.specs.declared.variants.Trait.TheVariants as trait
use Rattle.row_entries.specs.declared.variants.Variant.{Variant}
use Rattle.row_entries.specs.declared.rows.NamedRow.{NamedRow}
use Rattle.row_entries.specs.declared.rows.Section.{Section}
use Rattle.row_entries.specs.declared.rows.Line.{Line}
use Rattle.row_entries.specs.declared.rows.Line.TheVariants as line
use Rattle.row_entries.specs.Text.{text_front, text_behind, next_names}
use Rattle.row_entries.specs.Words.{value_among, map_words, split}
use Rattle.row_entries.specs.Variants.{any_has, variants, lengths}
use Rattle.row_entries.specs.Entries.{◌>>=◌, entry_of, names_of}

-- a row with its version and its name, in capital letters
pub record Named : Type 0 where
  pub version : ℕ
  pub row : Row
  pub name : List ℕ

-- what is said of a row of a file
abbrev pub view : NamedRow → Named
view x = record { version = x.version; row = x.row; name = x.name.now }

-- ---- the rows of an entry

-- the value of a flag that is set, else 0
abbrev pub flag : Bool → ℕ → ℕ
flag set value = if set then value else 0

-- the marks, as the flags of a row
abbrev pub marks : Entry → Marks
marks e = record { 0 = flag e.lockable 1 + flag e.address 2 + flag e.sized 4 + flag e.caret 8 + flag e.bang 16 }

-- the entry limits its ModRM to memory or to a register
abbrev pub has_place : Place → Bool
has_place place.Any = false
has_place place.Memory = true
has_place place.Register = true

-- what the rows say of ModRM, where the first word does not
abbrev pub rule_by_operands : Entry → ModRmRule
rule_by_operands e = if has_place e.place || any_has e.ops trait.ReadsModRm then rule.Any else rule.No

-- the rule for ModRM that is named, else another
abbrev pub rule_or : Option ModRmRule → ModRmRule → ModRmRule
rule_or (Some r) other = r
rule_or None other = other

-- what the rows say of ModRM
unfoldable pub rule_of : Entry → ModRmRule
rule_of e = rule_or e.rule (rule_by_operands e)

-- the limit by a mark, or else by the kinds of the operands
unfoldable pub named_place : Entry → Place
named_place e =
    if has_place e.place then e.place
    else if any_has e.ops trait.RegisterOnly then place.Register
    else if any_has e.ops trait.MemoryOnly then place.Memory
    else place.Any

-- a limit under a rule of ModRM: none without a ModRM byte, nor with a fixed one
abbrev pub place_under : ModRmRule → Place → Place
place_under rule.No p = place.Any
place_under (rule.Fixed _) p = place.Any
place_under rule.Any p = p
place_under (rule.Digit _) p = p

-- the limit of the rows to memory or a register
abbrev pub entry_place : Entry → Place
entry_place e = place_under (rule_of e) (named_place e)

-- the row of an entry at an L
unfoldable pub row : Entry → LBit → Variant → Row
row e x v = record {
  kind = e.kind;
  map = e.map;
  class = e.class;
  opcode = e.opcode;
  plus = e.plus;
  modrm = rule_of e;
  place = entry_place e;
  size = v.size;
  w = v.w;
  l = x;
  modes = record { 0 = v.modes };
  ops = e.ops;
  marks = marks e;
}

-- the rows of an entry at an L, with the names of some on
unfoldable pub entry_rows : ℕ → Entry → LBit → List Variant → List ℕ → List Named
entry_rows version e x [] names = []
entry_rows version e x (v ∷ vs) names =
    if v.modes == 0 then entry_rows version e x vs names
    else record { version = version; row = row e x v; name = text_front names 124 } ∷ entry_rows version e x vs (next_names names)

-- the rows of an entry at each of some L
unfoldable pub rows_at_each : ℕ → Entry → List LBit → List ℕ → List Named
rows_at_each version e [] names = []
rows_at_each version e (x ∷ xs) names = entry_rows version e x (variants e) names ++ rows_at_each version e xs names

-- ---- the lines of a file

-- the number of a version, 1 to 9
abbrev pub version_number : List ℕ → Option ℕ
version_number (c ∷ []) = if nat_le 49 c && nat_le c 57 then Some (c - 48) else None
version_number _ = None

-- the version, and the map, that are named last
abbrev pub version_section : ℕ → Option Section
version_section v = Some (record { version = v; map = None })

-- the section of a map, in the version that was named last
abbrev pub map_section : Section → Map → Option Section
map_section at m = Some (record { version = at.version; map = Some m })

-- what a line that begins a version or a map begins
unfoldable pub section_of : Section → List ℕ → Option Section
section_of at text =
    if bytes_eq (text_front text 32) (codes "version") then version_number (text_behind text 32) >>= version_section
    else if bytes_eq (text_front text 32) (codes "map") then value_among map_words (text_behind text 32) >>= map_section at
    else None

-- the entry of a line, where a map was named
abbrev pub entry_in_map : RowKind → Option Map → List ℕ → Option Line
entry_in_map kind named text = do
  m ← named
  e ← entry_of kind m text
  Some (line.Entry e)

-- a line begins a section, or else is an entry
abbrev pub section_or_entry : RowKind → Section → List ℕ → Option Section → Option Line
section_or_entry kind at text (Some section) = Some (line.Begins section)
section_or_entry kind at text None = entry_in_map kind at.map text

-- what a line is: a heading begins with a hash
unfoldable pub entry_line : RowKind → Section → List ℕ → Option Line
entry_line kind at [] = Some line.Idle
entry_line kind at (c ∷ text) = if c == 35 then Some line.Idle else section_or_entry kind at (c ∷ text) (section_of at (c ∷ text))

-- rows before others that are there
abbrev pub before : List Named → Option (List Named) → Option (List Named)
before rows None = None
before rows (Some others) = Some (rows ++ others)

-- the rows of some lines, none at all where one is nothing that a line can be
unfoldable pub section_rows : RowKind → Section → List (List ℕ) → Option (List Named)
section_rows kind at [] = Some []
section_rows kind at (text ∷ lines) =
    elim (entry_line kind at text) [
      | None ↦ None
      | Some found ↦ elim (found) [
        | line.Idle ↦ section_rows kind at lines
        | line.Begins section ↦ section_rows kind section lines
        | line.Entry e ↦ before (rows_at_each at.version e (lengths e) (names_of text)) (section_rows kind at lines)
      ]
    ]

-- the rows behind some rows are those of a file
abbrev pub IsGrownBy : List NamedRow → List NamedRow → Option (List Named) → Type 0
IsGrownBy old new rows = Some (map view new) ≡ before (map view old) rows
