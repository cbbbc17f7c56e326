-- Lines of data: the bytes of numbers and strings.
use Rattle.std.specs.Prelude.{◌≡◌, ℕ, zero, suc, ◌+◌, ◌-◌, ◌*◌, ◌/◌, ◌%◌, ◌^◌, ◌==◌, Bool, true, false, not, ◌&&◌, nat_lt, nat_le, if◌then◌else◌, is_none, List, [], ◌∷◌, ◌++◌, take, drop, length, map, replicate, Option, Some, None}
use Rattle.std.specs.List.{prefix_len}
use Rattle.assembly_text.specs.declared.drafts.Draft.{Draft}
use Rattle.assembly_text.specs.declared.drafts.Place.TheVariants.{Front}
use Rattle.assembly_text.specs.Lines.{byte_at, is_quote, quote_behind, lower_byte, trimmed, with_byte_in_front}
use Rattle.assembly_text.specs.Drafts.{operand_in, below_zero, wrapped}

-- ---- items

-- the items of a text, which commas separate where no quote is open
unfoldable pub items_in : ℕ → List ℕ → List (List ℕ)
items_in quote [] = [] ∷ []
items_in quote (c ∷ cs) =
    if quote == 0 && c == 44 then [] ∷ items_in 0 cs else with_byte_in_front c (items_in (quote_behind quote c) cs)

-- how many bytes the first item has
unfoldable pub item_len : ℕ → List ℕ → ℕ
item_len quote [] = 0
item_len quote (c ∷ cs) = if quote == 0 && c == 44 then 0 else suc (item_len (quote_behind quote c) cs)

-- ---- numbers

-- so many bytes of a number, the lowest first
unfoldable pub low_bytes : ℕ → ℕ → List ℕ
low_bytes zero n = []
low_bytes (suc count) n = n % 256 ∷ low_bytes count (n / 256)

-- a number fits so many bytes, with a sign or without
unfoldable pub fits_bytes : ℕ → Draft → Bool
fits_bytes count d = nat_lt (d.plus - d.minus) (2 ^ (8 * count)) && nat_le (2 * below_zero d) (2 ^ (8 * count))

-- an operand has no brackets
unfoldable pub is_front : Draft → Bool
is_front d = elim d.place [ Front ↦ true | _ ↦ false ]

-- an operand is a number, and fits
unfoldable pub is_datum : ℕ → Draft → Bool
is_datum count d = (d.sound && (is_front d && (is_none d.base && (is_none d.name && is_none d.selector)))) && fits_bytes count d

-- the bytes of a number
unfoldable pub number_bytes : ℕ → Draft → Option (List ℕ)
number_bytes count d = if is_datum count d then Some (low_bytes count (wrapped d)) else None

-- ---- strings

-- a byte is not this quote
unfoldable pub is_other : ℕ → ℕ → Bool
is_other quote c = not (c == quote)

-- how many bytes a string has behind its quote
abbrev pub string_len : ℕ → List ℕ → ℕ
string_len quote text = prefix_len (is_other quote) text

-- how many bytes fill the last number of a string up
unfoldable pub missing : ℕ → ℕ → ℕ
missing count len = (count - len % count) % count

-- the bytes of a string, filled up with zeros
abbrev pub padded : ℕ → List ℕ → List ℕ
padded count bytes = bytes ++ replicate (missing count (length bytes)) 0

-- the bytes of a string, whose second quote is its last byte
unfoldable pub string_bytes : ℕ → ℕ → List ℕ → Option (List ℕ)
string_bytes count quote text =
    if string_len quote text + 1 == length text then Some (padded count (take (string_len quote text) text)) else None

-- ---- a line

-- the bytes of an item, each number of which has so many
unfoldable pub item_bytes : ℕ → List ℕ → Option (List ℕ)
item_bytes count item =
    if is_quote (byte_at item 0) then string_bytes count (byte_at item 0) (drop 1 item)
    else number_bytes count (operand_in 0 (map lower_byte item))

-- bytes behind others
unfoldable pub both : Option (List ℕ) → Option (List ℕ) → Option (List ℕ)
both None other = None
both (Some bytes) None = None
both (Some bytes) (Some more) = Some (bytes ++ more)

-- the bytes of some items
unfoldable pub bytes_of : ℕ → List (List ℕ) → Option (List ℕ)
bytes_of count [] = Some []
bytes_of count (item ∷ items) = both (item_bytes count (trimmed item)) (bytes_of count items)

-- the bytes of a text of data, each number of which has so many
abbrev pub data_of : ℕ → List ℕ → Option (List ℕ)
data_of count text = bytes_of count (items_in 0 text)

-- What is put behind other bytes, if there is something to put.
abbrev pub IsPut : Bool → Option (List ℕ) → List ℕ → List ℕ → Type 0
IsPut true (Some bytes) old new = new ≡ old ++ bytes
IsPut false None old new = Unit {0}
IsPut _ _ old new = ⊥

-- how many bytes the numbers have behind a d and this letter, 0 for another letter
unfoldable pub width_by : ℕ → ℕ
width_by c = if c == 98 then 1 else (if c == 119 then 2 else (if c == 100 then 4 else (if c == 113 then 8 else 0)))

-- how many bytes the numbers of a line have by its first word: `db`, `dw`, `dd` or `dq`; 0 for another line
unfoldable pub data_width : List ℕ → ℕ
data_width word =
    if length word == 2 && lower_byte (byte_at word 0) == 100 then width_by (lower_byte (byte_at word 1)) else 0
