-- What a line of entries says (docs/entries.md).
use Rattle.std.specs.Prelude.{ℕ, ◌+◌, ◌-◌, ◌*◌, Bool, true, false, ◌&&◌, ◌||◌, ◌==◌, nat_le, nat_lt, if◌then◌else◌, List, [], ◌∷◌, length, Option, Some, None, option_and_then}
use Rattle.instruction_parts.specs.declared.row_types.RowKind.{RowKind}
use Rattle.instruction_parts.specs.declared.row_types.RowKind.TheVariants.{Legacy, Vex}
use Rattle.instruction_parts.specs.declared.row_types.Map.{Map}
use Rattle.instruction_parts.specs.declared.row_types.Class.{Class}
use Rattle.instruction_parts.specs.declared.row_types.Class.TheVariants as class
use Rattle.instruction_parts.specs.declared.row_types.Plus.{Plus}
use Rattle.instruction_parts.specs.declared.row_types.Plus.TheVariants as plus
use Rattle.instruction_parts.specs.declared.row_types.ModRmRule.TheVariants as rule
use Rattle.instruction_parts.specs.declared.row_types.OpKind.{OpKind}
use Rattle.instruction_parts.specs.declared.row_types.OpKind.TheVariants as op
use Rattle.instruction_parts.specs.declared.row_types.Place.TheVariants as place
use Rattle.row_entries.specs.declared.words.Mark.{Mark}
use Rattle.row_entries.specs.declared.words.Mark.TheVariants as mark
use Rattle.row_entries.specs.declared.entry.Entry.{Entry}
use Rattle.row_entries.specs.declared.entry.Head.{Head}
use Rattle.row_entries.specs.declared.entry.Modes.TheVariants as modes
use Rattle.row_entries.specs.declared.entry.Sizes.{Sizes}
use Rattle.row_entries.specs.declared.entry.Sizes.TheVariants as sizes
use Rattle.row_entries.specs.declared.entry.VexW.{VexW}
use Rattle.row_entries.specs.declared.entry.VexW.TheVariants as w
use Rattle.row_entries.specs.declared.entry.VexL.{VexL}
use Rattle.row_entries.specs.declared.entry.VexL.TheVariants as l
use Rattle.row_entries.specs.Text.{text_front, text_behind, separators}
use Rattle.row_entries.specs.Words.{value_among, kind_words, class_words, mark_words, split}
use Rattle.row_entries.specs.Variants.{variants, variant_count}

infixl 10 ◌>>=◌
-- what a function gives of a value that is there
abbrev pub ◌>>=◌ : {A B : Type 0} → Option A → (A → Option B) → Option B
o >>= f = option_and_then f o

-- ---- the first word

-- the value of a hexadecimal digit in upper case
abbrev pub digit : ℕ → Option ℕ
digit c = if nat_le 48 c && nat_le c 57 then Some (c - 48) else if nat_le 65 c && nat_le c 70 then Some (c - 55) else None

-- the byte of two digits
abbrev pub byte : ℕ → ℕ → Option ℕ
byte a b = do
  high ← digit a
  low ← digit b
  Some (high * 16 + low)

-- a digit of ModRM, below 8
abbrev pub with_digit : ℕ → ℕ → Option Head
with_digit opcode d = if nat_lt d 8 then Some (record { opcode = opcode; plus = plus.No; rule = Some (rule.Digit d) }) else None

-- a register that is added to the opcode byte, `+r`, or a digit, `/4`
abbrev pub added_or_digit : ℕ → ℕ → ℕ → Option Head
added_or_digit opcode a b =
    if a == 43 && b == 114 then Some (record { opcode = opcode; plus = plus.Register; rule = None })
    else if a == 47 then digit b >>= with_digit opcode
    else None

-- the head with a fixed ModRM byte
abbrev pub with_fixed : ℕ → Plus → ℕ → Option Head
with_fixed opcode p modrm = Some (record { opcode = opcode; plus = p; rule = Some (rule.Fixed modrm) })

-- a fixed ModRM byte, `.C8`
abbrev pub fixed_modrm : ℕ → Plus → ℕ → ℕ → ℕ → Option Head
fixed_modrm opcode p point a b = if point == 46 then byte a b >>= with_fixed opcode p else None

-- what stands behind the opcode byte
abbrev pub head_behind : ℕ → List ℕ → Option Head
head_behind opcode [] = Some (record { opcode = opcode; plus = plus.No; rule = None })
head_behind opcode (a ∷ b ∷ []) = added_or_digit opcode a b
head_behind opcode (point ∷ a ∷ b ∷ []) = fixed_modrm opcode plus.No point a b
head_behind opcode (point ∷ a ∷ b ∷ p ∷ i ∷ []) = if p == 43 && i == 105 then fixed_modrm opcode plus.Stack point a b else None
head_behind opcode _ = None

-- the first word of an entry
abbrev pub first_word : List ℕ → Option Head
first_word (a ∷ b ∷ text) = byte a b >>= (λ opcode. head_behind opcode text)
first_word _ = None

-- ---- the words behind it

-- the kind of the first of some operands
abbrev pub first_kind : List ℕ → Option OpKind
first_kind [] = Some op.Absent
first_kind (c ∷ text) = value_among kind_words (text_front (c ∷ text) 44)

-- the kinds of four operands, each with the text from it on
abbrev pub four_kinds : List ℕ → List ℕ → List ℕ → List ℕ → List ℕ → Option (List OpKind)
four_kinds a b c d [] = do
  op0 ← first_kind a
  op1 ← first_kind b
  op2 ← first_kind c
  op3 ← first_kind d
  Some (op0 ∷ op1 ∷ op2 ∷ op3 ∷ [])
four_kinds a b c d (_ ∷ _) = None

-- the kinds of at most four operands, with commas between them
unfoldable pub kinds : List ℕ → Option (List OpKind)
kinds text =
    let second = text_behind text 44 in
    let third = text_behind second 44 in
    let fourth = text_behind third 44 in
    four_kinds text second third fourth (text_behind fourth 44)

-- the class of an entry, where its second word names one
unfoldable pub named_class : List ℕ → Option Class
named_class line = value_among class_words (text_front (text_behind line 32) 32)

-- a text from its second word on where there is something, else the text
abbrev pub behind_if : {A : Type 0} → Option A → List ℕ → List ℕ
behind_if (Some _) text = text_behind text 32
behind_if None text = text

-- the line from the names on
unfoldable pub from_names : List ℕ → List ℕ
from_names line = behind_if (named_class line) (text_behind line 32)

-- the names of an entry, with strokes between them
unfoldable pub names_of : List ℕ → List ℕ
names_of line = text_front (from_names line) 32

-- the kinds of the operands, where a word names them
unfoldable pub named_kinds : List ℕ → Option (List OpKind)
named_kinds line = kinds (text_front (text_behind (from_names line) 32) 32)

-- the line from the marks on
unfoldable pub from_marks : List ℕ → List ℕ
from_marks line = behind_if (named_kinds line) (text_behind (from_names line) 32)

-- ---- marks

-- the entry with a mark of VEX entries alone
abbrev pub with_vex_mark : Entry → VexW → VexL → Option Entry
with_vex_mark e x y = elim e.kind [ Legacy ↦ None | Vex ↦ Some (record e { w = x; l = y }) ]

-- the entry with W 0 or W 1: on a legacy entry its operand size, behind a VEX its W
abbrev pub with_w : Entry → Sizes → VexW → Entry
with_w e s x = elim e.kind [ Legacy ↦ record e { sizes = s } | Vex ↦ record e { w = x } ]

-- the entry with a mark
unfoldable pub with_mark : Entry → Mark → Option Entry
with_mark e mark.Memory = Some (record e { place = place.Memory })
with_mark e mark.Register = Some (record e { place = place.Register })
with_mark e mark.Outside64 = Some (record e { modes = modes.Outside64 })
with_mark e mark.Only64 = Some (record e { modes = modes.Only64 })
with_mark e mark.Caret = Some (record e { caret = true })
with_mark e mark.Bang = Some (record e { bang = true })
with_mark e mark.Lockable = Some (record e { lockable = true })
with_mark e mark.Address = Some (record e { address = true })
with_mark e mark.Sized = Some (record e { sized = true })
with_mark e mark.By16 = Some (record e { sizes = sizes.By16 })
with_mark e mark.ByW = Some (record e { sizes = sizes.ByW })
with_mark e mark.O16O32 = Some (record e { sizes = sizes.O16O32 })
with_mark e mark.O32O64 = Some (record e { sizes = sizes.O32O64 })
with_mark e mark.AllSizes = Some (record e { sizes = sizes.All })
with_mark e mark.W0 = Some (with_w e sizes.W0 w.W0)
with_mark e mark.W1 = Some (with_w e sizes.W1 w.W1)
with_mark e mark.BothW = with_vex_mark e w.Both e.l
with_mark e mark.L128 = with_vex_mark e e.w l.L128
with_mark e mark.L256 = with_vex_mark e e.w l.L256
with_mark e mark.Lig = with_vex_mark e e.w l.Lig
with_mark e mark.Lz = with_vex_mark e e.w l.Lz

-- the entry with the marks of these words
unfoldable pub with_marks : Entry → List (List ℕ) → Option Entry
with_marks e [] = Some e
with_marks e (word ∷ words) = do
  m ← value_among mark_words word
  marked ← with_mark e m
  with_marks marked words

-- ---- the entry

-- the class: of a legacy entry any where it names none, behind a VEX no prefix
abbrev pub class_or : RowKind → Option Class → Class
class_or kind (Some c) = c
class_or Legacy None = class.Any
class_or Vex None = class.Np

-- the class of prefixes of an entry
unfoldable pub class_of : RowKind → List ℕ → Class
class_of kind line = class_or kind (named_class line)

-- the kinds of the operands
abbrev pub kinds_or : Option (List OpKind) → List OpKind
kinds_or (Some ks) = ks
kinds_or None = op.Absent ∷ op.Absent ∷ op.Absent ∷ op.Absent ∷ []

-- the kinds of the four operands of an entry, absent ones behind those that it names
unfoldable pub kinds_of : List ℕ → List OpKind
kinds_of line = kinds_or (named_kinds line)

-- the entry with this first word, and without marks
abbrev pub entry_with : RowKind → Map → List ℕ → Head → Entry
entry_with kind m line h = record {
  kind = kind;
  map = m;
  class = class_of kind line;
  opcode = h.opcode;
  plus = h.plus;
  rule = h.rule;
  more_names = separators (names_of line) 124;
  ops = kinds_of line;
  place = place.Any;
  modes = modes.All;
  sizes = sizes.Implied;
  w = w.Wig;
  l = l.Both;
  lockable = false;
  address = false;
  sized = false;
  caret = false;
  bang = false;
}

-- an entry without marks
unfoldable pub plain_entry : RowKind → Map → List ℕ → Option Entry
plain_entry kind m line = first_word (text_front line 32) >>= (λ h. Some (entry_with kind m line h))

-- the entry has a name, and one for all rows of an L or one for each of them
abbrev pub are_named : List ℕ → Entry → Bool
are_named names e =
    nat_lt 0 (length names)
    && (e.more_names == 0 || (nat_lt 0 (variant_count (variants e)) && variant_count (variants e) - 1 == e.more_names))

-- the entry, where its names fit
abbrev pub if_named : List ℕ → Entry → Option Entry
if_named names e = if are_named names e then Some e else None

-- the entry of a line in a map, None where the line is no entry
unfoldable pub entry_of : RowKind → Map → List ℕ → Option Entry
entry_of kind m line = do
  plain ← plain_entry kind m line
  e ← with_marks plain (split (from_marks line) 32)
  if_named (names_of line) e
