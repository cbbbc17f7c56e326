-- What a text says as an instruction: its operands, and the texts of the printer that it may stand for.
use Rattle.std.specs.Prelude.{ℕ, ◌+◌, ◌-◌, ◌*◌, ◌^◌, ◌==◌, Bool, true, false, not, ◌&&◌, ◌||◌, nat_lt, nat_le, if◌then◌else◌, is_none, is_some, List, [], ◌∷◌, ◌++◌, take, drop, length, codes, Option, Some, None}
use Rattle.std.specs.List.{prefix_len}
use Rattle.x86_values.specs.declared.Bits.{Bits}
use Rattle.x86_values.specs.declared.Bits.TheVariants.{B16}
use Rattle.x86_values.specs.declared.Segment.{Segment}
use Rattle.x86_values.specs.declared.Register.{Register}
use Rattle.x86_values.specs.declared.Register.TheVariants.{R16, R32, R64, Eip}
use Rattle.x86_values.specs.Wrapping.{width, modulo_width}
use Rattle.text_parts.specs.declared.style.Style.TheVariants.{Intel}
use Rattle.text_parts.specs.Addresses.{is_instruction_pointer}
use Rattle.text_parts.specs.Numbers.{number}
use Rattle.text_parts.specs.Registers.{register, segment_name}
use Rattle.intel_words.specs.declared.words.SizeName.{SizeName}
use Rattle.intel_words.specs.declared.words.SizeName.TheVariants.{None as NoSize, Byte, Word, Dword, Qword, Tbyte, Xmmword, Ymmword, Far16, Far32, Far64}
use Rattle.assembly_text.specs.declared.drafts.Draft.{Draft}
use Rattle.assembly_text.specs.declared.drafts.Place.TheVariants.{Behind}
use Rattle.assembly_text.specs.declared.statements.Statement.{Statement}
use Rattle.assembly_text.specs.declared.statements.Width.{Width}
use Rattle.assembly_text.specs.declared.statements.Width.TheVariants.{W64, W32, W16, W8}
use Rattle.assembly_text.specs.Digits.{last_byte}
use Rattle.assembly_text.specs.Names.{named_text, behind_word, head_text}
use Rattle.assembly_text.specs.Drafts.{operand_in, wrapped, below_zero, address_bits, is_relative, has_no_size}

-- ---- numbers

-- the half of the numbers of a width
unfoldable pub half_of : Width → ℕ
half_of W64 = 0x8000000000000000
half_of W32 = 0x80000000
half_of W16 = 0x8000
half_of W8 = 0x80

-- a number below 0 in the width of which this is the half, if it fits, else in 64 bits
unfoldable pub negative_in : ℕ → ℕ → ℕ
negative_in half n = if nat_le n half then half + (half - n) else 2 ^ 64 - n

-- what the numbers of an operand come to, in a width
unfoldable pub value_in : Width → Draft → ℕ
value_in w d = if nat_le d.minus d.plus then d.plus - d.minus else negative_in (half_of w) (below_zero d)

-- ---- addresses

-- the word of a size, with a space
unfoldable pub size_text : SizeName → List ℕ
size_text NoSize = []
size_text Byte = codes "byte "
size_text Word = codes "word "
size_text Dword = codes "dword "
size_text Qword = codes "qword "
size_text Tbyte = codes "tbyte "
size_text Xmmword = codes "xmmword "
size_text Ymmword = codes "ymmword "
size_text Far16 = codes "far16 "
size_text Far32 = codes "far32 "
size_text Far64 = codes "far64 "

-- the size that an address has, or one for those without
unfoldable pub size_or : SizeName → SizeName → SizeName
size_or NoSize other = other
size_or size other = size

-- a segment and a colon
unfoldable pub segment_text : Option Segment → List ℕ
segment_text None = []
segment_text (Some s) = segment_name s ++ codes ":"

-- the word in front of a target
unfoldable pub relative_text : Option Register → List ℕ
relative_text (Some Eip) = codes "rel32 "
relative_text _ = codes "rel "

-- a register or nothing
unfoldable pub register_text : Option Register → List ℕ
register_text None = []
register_text (Some r) = register Intel r

-- a plus behind a base
unfoldable pub joint : Option Register → List ℕ
joint None = []
joint (Some r) = codes "+"

-- the digit of a scale: 1, 2, 4 or 8
unfoldable pub scale_digit : ℕ → ℕ
scale_digit scale = if scale == 1 then 49 else (if scale == 2 then 50 else (if scale == 4 then 52 else 56))

-- a scale, which 16-bit addressing does not have
unfoldable pub scale_text : Bits → ℕ → List ℕ
scale_text B16 scale = []
scale_text _ scale = codes "*" ++ scale_digit scale ∷ []

-- an index with its scale
unfoldable pub index_text : Draft → List ℕ
index_text d = elim d.index [ None ↦ [] | Some r ↦ joint d.base ++ (register Intel r ++ scale_text (address_bits d) d.scale) ]

-- a base that has no encoding without a displacement: BP without an index, EBP, R13D, RBP and R13
unfoldable pub is_never_alone : Bool → Register → Bool
is_never_alone indexed (R16 n) = n == 5 && not indexed
is_never_alone indexed (R32 n) = n == 5 || n == 13
is_never_alone indexed (R64 n) = n == 5 || n == 13
is_never_alone indexed _ = false

-- a displacement is needed, even if it is 0: for such a base, or where there is none
unfoldable pub needs_displacement : Draft → Bool
needs_displacement d = elim d.base [ None ↦ true | Some r ↦ is_never_alone (is_some d.index) r ]

-- a displacement of this many bits beside a register, with its sign
unfoldable pub signed_text : Bits → ℕ → List ℕ
signed_text bits x =
    if nat_lt (2 ^ width bits - 1) (2 * x) then codes "-" ++ number Intel (2 ^ width bits - x) else codes "+" ++ number Intel x

-- a displacement beside a register, if one is needed
unfoldable pub displacement_text : Draft → List ℕ
displacement_text d =
    if modulo_width (address_bits d) (wrapped d) == 0 && not (needs_displacement d) then []
    else signed_text (address_bits d) (modulo_width (address_bits d) (wrapped d))

-- what stands in the brackets
unfoldable pub inside_text : Bits → Draft → List ℕ
inside_text bits d =
    if is_relative bits d then relative_text d.base ++ number Intel (modulo_width bits (wrapped d))
    else (if is_none d.base && is_none d.index then number Intel (modulo_width bits (wrapped d))
    else register_text d.base ++ (index_text d ++ displacement_text d))

-- an address
unfoldable pub address_text : Bits → SizeName → Draft → List ℕ
address_text bits size d =
    size_text (size_or d.size size) ++ (segment_text d.seg ++ (codes "[" ++ (inside_text bits d ++ codes "]")))

-- ---- operands

-- the selector of a far pointer, with a colon
unfoldable pub selector_text : Option ℕ → List ℕ
selector_text None = []
selector_text (Some n) = number Intel n ++ codes ":"

-- an operand without brackets
unfoldable pub plain_text : Width → Draft → List ℕ
plain_text w d = elim d.base [ Some r ↦ register Intel r | None ↦ selector_text d.selector ++ number Intel (value_in w d) ]

-- an operand: with this size for an address without, and with a number below 0 in this width
unfoldable pub operand_text : Bits → SizeName → Width → Draft → List ℕ
operand_text bits size w d = elim d.place [ Behind ↦ address_text bits size d | _ ↦ plain_text w d ]

-- an operand behind what separates it, if there is one
unfoldable pub part_text : Bits → SizeName → Width → List ℕ → Option Draft → List ℕ
part_text bits size w between None = []
part_text bits size w between (Some d) = between ++ operand_text bits size w d

-- the text of the printer for a front and operands
unfoldable pub full_text : Bits → SizeName → Width → List ℕ → Statement → List ℕ
full_text bits size w low s =
    head_text low ++ (part_text bits size w (codes " ") s.first ++ (part_text bits size w (codes ", ") s.second
    ++ (part_text bits size w (codes ", ") s.third ++ part_text bits size w (codes ", ") s.fourth)))

-- ---- the operands of a text

-- no comma
unfoldable pub is_no_comma : ℕ → Bool
is_no_comma c = not (c == 44)

-- how many bytes stand before the first comma
abbrev pub comma_at : List ℕ → ℕ
comma_at text = prefix_len is_no_comma text

-- what stands behind the first comma
abbrev pub behind_comma : List ℕ → List ℕ
behind_comma text = drop (comma_at text + 1) text

-- the operand in front of the first comma of a text that begins at a place; a text of no bytes has none
unfoldable pub operand_at : ℕ → List ℕ → Option Draft
operand_at at [] = None
operand_at at (c ∷ cs) = Some (operand_in at (take (comma_at (c ∷ cs)) (c ∷ cs)))

-- a text has no comma at its end
abbrev pub is_closed : List ℕ → Bool
is_closed text = not (last_byte text == 44)

-- nothing is left behind the fourth operand
unfoldable pub is_empty : List ℕ → Bool
is_empty [] = true
is_empty (c ∷ cs) = false

-- where the text behind the first comma begins
abbrev pub next_place : ℕ → List ℕ → ℕ
next_place at text = at + comma_at text + 1

-- the operands of a text that begins at a place
unfoldable pub operands_from : ℕ → List ℕ → Statement
operands_from at text = record {
  first = operand_at at text;
  second = operand_at (next_place at text) (behind_comma text);
  third = operand_at (next_place (next_place at text) (behind_comma text)) (behind_comma (behind_comma text));
  fourth = operand_at (next_place (next_place (next_place at text) (behind_comma text)) (behind_comma (behind_comma text)))
      (behind_comma (behind_comma (behind_comma text)));
  closed = is_closed text && is_empty (behind_comma (behind_comma (behind_comma (behind_comma text))));
}

-- the operands of a text, behind its prefix words and its name
abbrev pub operands_text : List ℕ → List ℕ
operands_text low = behind_word (named_text low)

-- what a text in lower case says
abbrev pub statement_of : List ℕ → Statement
statement_of low = operands_from (length low - length (operands_text low)) (operands_text low)

-- ---- what is open

-- beside the instruction pointer stands a name, or what is known to be a target
abbrev pub is_aimed : Draft → Bool
is_aimed d = not (is_instruction_pointer d.base) || (is_some d.name || d.rel)

-- an operand is none, or has passed; beside a name stands no number
unfoldable pub is_sound_part : Option Draft → Bool
is_sound_part None = true
is_sound_part (Some d) = (d.sound && is_aimed d) && (is_none d.name || (d.plus == 0 && d.minus == 0))

-- the place of the name of an operand
unfoldable pub name_in : Option Draft → Option ℕ
name_in None = None
name_in (Some d) = d.name

-- 1 for an operand with a name
abbrev pub names_in : Option Draft → ℕ
names_in part = if is_some (name_in part) then 1 else 0

-- the first of two places
unfoldable pub either : Option ℕ → Option ℕ → Option ℕ
either (Some at) other = Some at
either None other = other

-- the place of the name
unfoldable pub name_of : Statement → Option ℕ
name_of s = either (name_in s.first) (either (name_in s.second) (either (name_in s.third) (name_in s.fourth)))

-- the operands are those of an instruction, with one name at most
unfoldable pub is_sound : Statement → Bool
is_sound s =
    s.closed && ((is_sound_part s.first && (is_sound_part s.second && (is_sound_part s.third && is_sound_part s.fourth)))
    && nat_le (names_in s.first + (names_in s.second + (names_in s.third + names_in s.fourth))) 1)

-- a number below 0 outside of brackets
unfoldable pub is_negative_part : Option Draft → Bool
is_negative_part None = false
is_negative_part (Some d) = elim d.place [ Behind ↦ false | _ ↦ nat_lt 0 (below_zero d) ]

-- an operand is a number below 0
unfoldable pub has_negative : Statement → Bool
has_negative s = is_negative_part s.first || (is_negative_part s.second || (is_negative_part s.third || is_negative_part s.fourth))

-- an address without a size
unfoldable pub is_unsized_part : Option Draft → Bool
is_unsized_part None = false
is_unsized_part (Some d) = elim d.place [ Behind ↦ has_no_size d.size | _ ↦ false ]

-- an operand is an address without a size
unfoldable pub is_unsized : Statement → Bool
is_unsized s = is_unsized_part s.first || (is_unsized_part s.second || (is_unsized_part s.third || is_unsized_part s.fourth))

-- the widths of numbers, of which the first that fits is taken: each if one is below 0
unfoldable pub widths_of : Statement → List Width
widths_of s = if has_negative s then W64 ∷ W32 ∷ W16 ∷ W8 ∷ [] else W64 ∷ []

-- the sizes of an address without one: none, and each
unfoldable pub sizes_of : Statement → List SizeName
sizes_of s =
    if is_unsized s
    then NoSize ∷ Byte ∷ Word ∷ Dword ∷ Qword ∷ Tbyte ∷ Xmmword ∷ Ymmword ∷ Far16 ∷ Far32 ∷ Far64 ∷ []
    else NoSize ∷ []
