-- Names with numbers from the caller, and the texts in which the numbers take the place of the names.
use Rattle.std.specs.Prelude.{ℕ, zero, suc, ◌+◌, ◌-◌, ◌==◌, Bool, true, false, not, ◌&&◌, ◌||◌, nat_lt, if◌then◌else◌, is_some, List, [], ◌∷◌, ◌++◌, take, drop, length, map, bytes_eq, Option, Some, None}
use Rattle.text_parts.specs.declared.style.Style.TheVariants.{Intel}
use Rattle.text_parts.specs.Numbers.{number}
use Rattle.assembly_text.specs.declared.classes.Class.{Class}
use Rattle.assembly_text.specs.declared.classes.Class.TheVariants.{Name as NameWord}
use Rattle.assembly_text.specs.declared.drafts.Draft.{Draft}
use Rattle.assembly_text.specs.Lines.{byte_at, is_digit, lower_byte, name_len, quote_behind, shown}
use Rattle.assembly_text.specs.Names.{first_word, behind_word}
use Rattle.assembly_text.specs.Classes.{class_of}
use Rattle.assembly_text.specs.Drafts.{operand_in, word_len, wrapped}
use Rattle.assembly_text.specs.Data.{is_datum}

-- ---- definitions

-- a text is a name, `=` and more
unfoldable pub has_equals : List ℕ → Bool
has_equals text = nat_lt 0 (name_len text) && (not (is_digit (byte_at text 0)) && byte_at (behind_word text) 0 == 61)

-- a word is a name
unfoldable pub is_name_class : Class → Bool
is_name_class NameWord = true
is_name_class _ = false

-- a name is no word of an operand, in no case
unfoldable pub is_free_name : List ℕ → Bool
is_free_name name = is_name_class (class_of (map lower_byte name))

-- the number of an operand of at most eight bytes
unfoldable pub whole_number : Draft → Option ℕ
whole_number d = if is_datum 8 d then Some (wrapped d) else None

-- the number behind `=`
unfoldable pub value_of : List ℕ → Option ℕ
value_of text = whole_number (operand_in 0 (map lower_byte (drop 1 (behind_word text))))

-- the number of the name that a text defines
unfoldable pub definition_of : List ℕ → Option ℕ
definition_of text = if has_equals text && is_free_name (first_word text) then value_of text else None

-- the number of a name: that of the first line of the name
unfoldable pub constant_from : List (List ℕ) → List ℕ → Option ℕ
constant_from [] name = None
constant_from (line ∷ lines) name =
    if bytes_eq (first_word (shown line)) name then definition_of (shown line) else constant_from lines name

-- a line has nothing but comment, or is a definition
unfoldable pub is_names_line : List ℕ → Bool
is_names_line text = length text == 0 || is_some (definition_of text)

-- the first line that is neither, counted from 1 behind so many
unfoldable pub bad_from : List (List ℕ) → ℕ → Option ℕ
bad_from [] count = None
bad_from (line ∷ lines) count = if is_names_line (shown line) then bad_from lines (count + 1) else Some (count + 1)

-- ---- numbers in place of names

-- the number, if there is one, in place of a word
unfoldable pub number_or : Option ℕ → List ℕ → List ℕ
number_or None word = word
number_or (Some n) word = number Intel n

-- where no quote is open, the number of a word in its place
unfoldable pub part_for : (List ℕ → Option ℕ) → ℕ → List ℕ → List ℕ
part_for numbers quote word = if quote == 0 then number_or (numbers word) word else word

-- how many bytes the front of a text has: a word, or one byte where a quote is open
unfoldable pub part_len : ℕ → List ℕ → ℕ
part_len quote text = if quote == 0 then word_len text else 1

-- a text with numbers in place of words, where a quote is open or none, and so many bytes belong to a word before
unfoldable pub resolved_from : (List ℕ → Option ℕ) → ℕ → ℕ → List ℕ → List ℕ
resolved_from numbers quote skip [] = []
resolved_from numbers quote (suc skip) (c ∷ cs) = resolved_from numbers quote skip cs
resolved_from numbers quote zero (c ∷ cs) =
    part_for numbers quote (take (part_len quote (c ∷ cs)) (c ∷ cs))
    ++ resolved_from numbers (quote_behind quote c) (part_len quote (c ∷ cs) - 1) cs

-- a text with numbers in place of names
abbrev pub resolved : List (List ℕ) → List ℕ → List ℕ
resolved names text = resolved_from (constant_from names) 0 0 text
