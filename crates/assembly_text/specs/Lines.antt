-- The lines of a text of code, and the parts of a line: its comment, its label and what it says besides.
use Rattle.std.specs.Prelude.{◌≡◌, ℕ, suc, ◌+◌, ◌-◌, ◌<◌, Bool, true, not, ◌&&◌, ◌||◌, ◌==◌, nat_lt, nat_le, if◌then◌else◌, List, [], ◌∷◌, ◌++◌, length, take, drop, slice_index_or, Option, Some, None, codes}
use Rattle.std.specs.Int.{trailing_zeros, w64}
use Rattle.std.specs.List.{prefix_len, suffix_len}
use Rattle.assembly_text.specs.declared.line.LineKind.{LineKind}
use Rattle.assembly_text.specs.declared.line.LineKind.TheVariants.{Plain, Quiet, Any}

-- ---- bytes

-- a space, a tab or a carriage return
unfoldable pub is_blank : ℕ → Bool
is_blank c = c == 32 || (c == 9 || c == 13)

-- a decimal digit
unfoldable pub is_digit : ℕ → Bool
is_digit c = nat_le 48 c && nat_le c 57

-- a byte of a name: a letter, a digit or one of `_`, `.`, `$` and `@`
unfoldable pub is_name_byte : ℕ → Bool
is_name_byte c =
    (nat_le 97 c && nat_le c 122) || ((nat_le 65 c && nat_le c 90) || (is_digit c || (c == 95 || (c == 46 || (c == 36 || c == 64)))))

-- a letter in lower case
unfoldable pub lower_byte : ℕ → ℕ
lower_byte c = if nat_le 65 c && nat_le c 90 then c + 32 else c

-- a single or a double quote
unfoldable pub is_quote : ℕ → Bool
is_quote c = c == 39 || c == 34

-- ---- comments

-- a comment begins: `;` or `#` where no quote is open
unfoldable pub begins_comment : ℕ → ℕ → Bool
begins_comment quote c = quote == 0 && (c == 59 || c == 35)

-- the quote that is open behind a byte, 0 for none
unfoldable pub quote_behind : ℕ → ℕ → ℕ
quote_behind quote c = if quote == 0 then (if is_quote c then c else 0) else (if c == quote then 0 else quote)

-- a byte with which neither a comment nor a quote begins
unfoldable pub is_quiet : ℕ → Bool
is_quiet c = not (begins_comment 0 c) && not (is_quote c)

-- how many bytes a line has before its comment, where a quote is open or none
unfoldable pub code_len : ℕ → List ℕ → ℕ
code_len quote [] = 0
code_len quote (c ∷ cs) = if begins_comment quote c then 0 else suc (code_len (quote_behind quote c) cs)

-- a line without its comment
abbrev pub code_of : List ℕ → List ℕ
code_of line = take (code_len 0 line) line

-- ---- blanks

-- a text without the blanks at its front
abbrev pub unindented : List ℕ → List ℕ
unindented text = drop (prefix_len is_blank text) text

-- a text without the blanks at its end
abbrev pub unpadded : List ℕ → List ℕ
unpadded text = take (length text - suffix_len is_blank text) text

-- a text without blanks at either end
abbrev pub trimmed : List ℕ → List ℕ
trimmed text = unpadded (unindented text)

-- ---- labels

-- a byte of a text, 0 past its end
abbrev pub byte_at : List ℕ → ℕ → ℕ
byte_at text at = slice_index_or text at 0

-- how many bytes the name at the front has
abbrev pub name_len : List ℕ → ℕ
name_len text = prefix_len is_name_byte text

-- a text begins with a name that is no number, and a colon
unfoldable pub has_label : List ℕ → Bool
has_label text = (nat_lt 0 (name_len text) && not (is_digit (slice_index_or text 0 0))) && slice_index_or text (name_len text) 0 == 58

-- the label at the front of a line, if there is one
abbrev pub label_of : List ℕ → Option (List ℕ)
label_of text = if has_label text then Some (take (name_len text) text) else None

-- what a line says besides its label
abbrev pub body_of : List ℕ → List ℕ
body_of text = if has_label text then unindented (drop 1 (drop (name_len text) text)) else text

-- a line without its comment, and without blanks at its ends
abbrev pub shown : List ℕ → List ℕ
shown line = trimmed (code_of line)

-- ---- columns

-- the column of what a line shows, from 1
abbrev pub shown_column : List ℕ → ℕ
shown_column line = prefix_len is_blank (code_of line) + 1

-- the column of what a line says besides its label, from 1
abbrev pub body_column : List ℕ → ℕ
body_column line = shown_column line + (length (shown line) - length (body_of (shown line)))

-- ---- the lines of a text

-- a byte in front of the first line of some lines
unfoldable pub with_byte_in_front : ℕ → List (List ℕ) → List (List ℕ)
with_byte_in_front c [] = (c ∷ []) ∷ []
with_byte_in_front c (line ∷ lines) = (c ∷ line) ∷ lines

-- the lines of some bytes, each ended by a line feed, which is no part of it; bytes behind the last line feed are one more line
unfoldable pub lines_in : List ℕ → List (List ℕ)
lines_in [] = []
lines_in (c ∷ bytes) = if c == 10 then [] ∷ lines_in bytes else with_byte_in_front c (lines_in bytes)

-- ---- plain lines

-- a byte that neither ends a line nor begins a comment or a quote
unfoldable pub is_inner : ℕ → Bool
is_inner c = not (c == 10) && is_quiet c

-- such a byte that does not end a label either
unfoldable pub is_plain : ℕ → Bool
is_plain c = not (c == 58) && is_inner c

-- a line of such bytes
abbrev pub IsPlain : List ℕ → Type 0
IsPlain line = (k : ℕ) → k < length line → is_plain (slice_index_or line k 0) ≡ true

-- what is known of a line
abbrev pub IsKind : LineKind → List ℕ → Type 0
IsKind Plain line = IsPlain line
IsKind Quiet line = (k : ℕ) → k < length line → is_inner (slice_index_or line k 0) ≡ true
IsKind Any line = Unit {0}

-- a byte that does not end a label
unfoldable pub is_no_colon : ℕ → Bool
is_no_colon c = not (c == 58)

-- the place of the lowest bit that is set, or another number
abbrev pub first_set : ℕ → ℕ → ℕ
first_set mask other = if mask == 0 then other else trailing_zeros w64 mask

-- ---- names in a text

-- a name begins at a place of a text: a byte of a name that is no digit, behind none of a name
unfoldable pub begins_name : List ℕ → ℕ → Bool
begins_name text at =
    (is_name_byte (byte_at text at) && not (is_digit (byte_at text at))) && (at == 0 || not (is_name_byte (byte_at text (at - 1))))

-- the name at a place
abbrev pub name_at : List ℕ → ℕ → List ℕ
name_at text at = take (name_len (drop at text)) (drop at text)

-- the text with 0x0 in place of the name at a place
abbrev pub without_name : List ℕ → ℕ → List ℕ
without_name text at = take at text ++ (codes "0x0" ++ drop (name_len (drop at text)) (drop at text))
