-- Operands, read word by word: numbers and registers with signs between them, in brackets or not.
use Rattle.std.specs.Prelude.{ℕ, ◌+◌, ◌-◌, ◌*◌, ◌^◌, ◌==◌, Bool, true, false, not, ◌&&◌, ◌||◌, nat_lt, nat_le, if◌then◌else◌, is_none, is_some, zero, suc, List, [], ◌∷◌, take, Some, None, max}
use Rattle.x86_values.specs.declared.Bits.{Bits}
use Rattle.x86_values.specs.declared.Bits.TheVariants.{B16, B32, B64}
use Rattle.x86_values.specs.declared.Register.{Register}
use Rattle.x86_values.specs.declared.Register.TheVariants.{R16, R32, R64, Seg, Eip}
use Rattle.x86_values.specs.Wrapping.{width}
use Rattle.text_parts.specs.Addresses.{is_instruction_pointer}
use Rattle.intel_words.specs.declared.words.SizeName.{SizeName}
use Rattle.intel_words.specs.declared.words.SizeName.TheVariants.{None as NoSize}
use Rattle.assembly_text.specs.declared.drafts.Draft.{Draft}
use Rattle.assembly_text.specs.declared.drafts.Place.TheVariants.{Front, Inside, Behind}
use Rattle.assembly_text.specs.declared.drafts.Pending.{Pending}
use Rattle.assembly_text.specs.declared.drafts.Pending.TheVariants.{Nothing, Sign, Number, Reg, Scaled, Name}
use Rattle.assembly_text.specs.declared.classes.Class.{Class}
use Rattle.assembly_text.specs.declared.classes.Class.TheVariants.{Blank, Open, Close, Plus, Minus, Star, Colon, Number as NumberWord, Reg as RegWord, Size as SizeWord, Skipped, Rel, Name as NameWord, Other}
use Rattle.assembly_text.specs.Lines.{byte_at, lower_byte, name_len}
use Rattle.assembly_text.specs.Classes.{class_of}

-- ---- an operand so far

-- before its first word
unfoldable pub no_words : Draft
no_words = record {
  sound = true;
  size = NoSize;
  seg = None;
  place = Front;
  rel = false;
  base = None;
  index = None;
  scale = 1;
  plus = 0;
  minus = 0;
  counted = false;
  name = None;
  selector = None;
  negative = false;
  starred = false;
  pending = Nothing;
}

-- what is no operand any more
abbrev pub unsound : Draft → Draft
unsound d = record d { sound = false }

-- an operand with a condition
abbrev pub only_if : Bool → Draft → Draft
only_if ok d = record d { sound = d.sound && ok }

-- no term is begun
unfoldable pub is_idle : Draft → Bool
is_idle d = elim d.pending [ Nothing ↦ true | _ ↦ false ]

-- a term may begin
unfoldable pub is_ready : Draft → Bool
is_ready d = elim d.pending [ Nothing ↦ true | Sign ↦ true | _ ↦ false ]

-- ---- terms

-- a number is added, or taken away: the numbers that are added, and those that are taken away, are below 2^64 together
unfoldable pub with_number : Draft → Bool → ℕ → Draft
with_number d true n = if nat_lt (d.minus + n) (2 ^ 64) then record d { minus = d.minus + n; counted = true } else unsound d
with_number d false n = if nat_lt (d.plus + n) (2 ^ 64) then record d { plus = d.plus + n; counted = true } else unsound d

-- one name, which is not taken away
unfoldable pub with_name : Draft → Bool → ℕ → Draft
with_name d negative at = if negative || is_some d.name then unsound d else record d { name = Some at; counted = true }

-- BX, BP, ESP and RSP are bases wherever they stand
unfoldable pub is_always_base : Register → Bool
is_always_base (R16 n) = n == 3 || n == 5
is_always_base (R32 n) = n == 4
is_always_base (R64 n) = n == 4
is_always_base _ = false

-- a second register without a scale
unfoldable pub with_second : Draft → Register → Register → Draft
with_second d b r =
    if is_some d.index then unsound d
    else (if is_always_base r then record d { base = Some r; index = Some b; scale = 1 } else record d { index = Some r; scale = 1 })

-- a register without a scale: the base, or the index
unfoldable pub with_register : Draft → Register → Draft
with_register d r = elim d.base [ None ↦ record d { base = Some r } | Some b ↦ with_second d b r ]

-- a register with a scale: the index, or with the scale 1 beside an index the base
unfoldable pub with_scaled : Draft → Register → ℕ → Draft
with_scaled d r scale =
    if is_none d.index then record d { index = Some r; scale = scale }
    else (if scale == 1 then with_register d r else unsound d)

-- a term is added or taken away
unfoldable pub with_term : Draft → Bool → Pending → Draft
with_term d negative Nothing = d
with_term d negative Sign = unsound d
with_term d negative (Number n) = with_number d negative n
with_term d negative (Reg r) = if negative then unsound d else with_register d r
with_term d negative (Scaled r scale) = if negative then unsound d else with_scaled d r scale
with_term d negative (Name at) = with_name d negative at

-- no term is begun, and no star waits
abbrev pub without_term : Draft → Draft
without_term d = record d { sound = d.sound && not d.starred; negative = false; starred = false; pending = Nothing }

-- the term that was begun is complete
abbrev pub flushed : Draft → Draft
flushed d = with_term (without_term d) d.negative d.pending

-- ---- words

-- a bracket opens, in front of which stand only a size and a segment
unfoldable pub opened : Draft → Draft
opened d = elim d.place [ Front ↦ record d { sound = d.sound && (is_idle d && (is_none d.base && not d.counted)); place = Inside } | _ ↦ unsound d ]

-- a bracket closes
unfoldable pub closed : Draft → Draft
closed d = elim d.place [ Inside ↦ record (flushed d) { place = Behind } | _ ↦ unsound d ]

-- a sign behind a sign
unfoldable pub other_sign : Bool → Bool → Bool
other_sign negative minus = if minus then not negative else negative

-- a sign begins a term
unfoldable pub signed : Draft → Bool → Draft
signed d minus = elim d.pending [
  | Sign ↦ record d { negative = other_sign d.negative minus }
  | _ ↦ record (flushed d) { negative = minus; pending = Sign }
]

-- a star stands behind a number or a register
unfoldable pub with_star : Draft → Draft
with_star d = elim d.pending [
  | Number n ↦ record d { sound = d.sound && not d.starred; starred = true }
  | Reg r ↦ record d { sound = d.sound && not d.starred; starred = true }
  | _ ↦ unsound d
]

-- a colon stands behind a segment, or behind the selector of a far pointer
unfoldable pub with_colon : Draft → Draft
with_colon d = elim d.pending [
  | Reg (Seg s) ↦ record (without_term d) { seg = Some s }
  | Number n ↦ record (without_term d) { sound = d.sound && (not d.negative && (not d.starred && is_none d.selector)); selector = Some n }
  | _ ↦ unsound d
]

-- 1, 2, 4 or 8
unfoldable pub is_scale : ℕ → Bool
is_scale n = n == 1 || (n == 2 || (n == 4 || n == 8))

-- a register and its scale
unfoldable pub scaled : Draft → Register → ℕ → Draft
scaled d r n = if is_scale n then record d { starred = false; pending = Scaled r n } else unsound d

-- a term begins
unfoldable pub with_pending : Draft → Pending → Draft
with_pending d p = record d { sound = d.sound && (is_ready d && not d.starred); pending = p }

-- a number: a term, or the scale of the register before it
unfoldable pub with_number_word : Draft → ℕ → Draft
with_number_word d n = elim d.pending [ Reg r ↦ if d.starred then scaled d r n else unsound d | _ ↦ with_pending d (Number n) ]

-- a register: a term, or what the number before it scales
unfoldable pub with_register_word : Draft → Register → Draft
with_register_word d r = elim d.pending [ Number n ↦ if d.starred then scaled d r n else unsound d | _ ↦ with_pending d (Reg r) ]

-- a size, in front of an address
unfoldable pub with_size : Draft → SizeName → Draft
with_size d s = elim d.place [ Front ↦ elim d.size [ NoSize ↦ record d { size = s } | _ ↦ unsound d ] | _ ↦ unsound d ]

-- the operand with a word of a class, at a place
unfoldable pub with_word : Draft → ℕ → Class → Draft
with_word d at Blank = d
with_word d at Open = opened d
with_word d at Close = closed d
with_word d at Plus = signed d false
with_word d at Minus = signed d true
with_word d at Star = with_star d
with_word d at Colon = with_colon d
with_word d at (NumberWord n) = with_number_word d n
with_word d at (RegWord r) = with_register_word d r
with_word d at (SizeWord s) = with_size d s
with_word d at Skipped = d
with_word d at Rel = record d { rel = true }
with_word d at NameWord = with_pending d (Name at)
with_word d at Other = unsound d

-- `st` and a byte in brackets at the front
unfoldable pub is_stack_word : List ℕ → Bool
is_stack_word text =
    byte_at text 2 == 40 && (byte_at text 4 == 41 && (lower_byte (byte_at text 0) == 115 && lower_byte (byte_at text 1) == 116))

-- how many bytes the word at the front has: a register of the stack as `st(1)`, a name or a number, or one byte
unfoldable pub word_len : List ℕ → ℕ
word_len text = if is_stack_word text then 5 else max 1 (name_len text)

-- the operand with the words of a text, of which so many bytes belong to a word before; the text begins at a place
unfoldable pub with_words : Draft → ℕ → ℕ → List ℕ → Draft
with_words d at skip [] = d
with_words d at (suc skip) (c ∷ cs) = with_words d (at + 1) skip cs
with_words d at zero (c ∷ cs) =
    with_words (with_word d at (class_of (take (word_len (c ∷ cs)) (c ∷ cs)))) (at + 1) (word_len (c ∷ cs) - 1) cs

-- ---- a whole operand

-- what the numbers come to, modulo 2^64
unfoldable pub wrapped : Draft → ℕ
wrapped d = if nat_le d.minus d.plus then d.plus - d.minus else 2 ^ 64 - (d.minus - d.plus)

-- how far they take away more than they add
abbrev pub below_zero : Draft → ℕ
below_zero d = d.minus - d.plus

-- the address size that a register shows
unfoldable pub register_bits : Register → Bits
register_bits (R16 n) = B16
register_bits (R32 n) = B32
register_bits Eip = B32
register_bits _ = B64

-- the address size of an address with a register
unfoldable pub address_bits : Draft → Bits
address_bits d = elim d.base [ Some r ↦ register_bits r | None ↦ elim d.index [ Some r ↦ register_bits r | None ↦ B64 ] ]

-- the mode is the 64-bit one
abbrev pub is_long : Bits → Bool
is_long B64 = true
is_long _ = false

-- there is no size
abbrev pub has_no_size : SizeName → Bool
has_no_size NoSize = true
has_no_size _ = false

-- the address is relative to the instruction pointer: by `rel`, by the register, or in 64-bit mode as a name alone
unfoldable pub is_relative : Bits → Draft → Bool
is_relative bits d =
    d.rel || (is_instruction_pointer d.base || (is_some d.name && (is_none d.base && (is_none d.index && is_long bits))))

-- no part of an address stands outside of brackets
abbrev pub is_outside : Draft → Bool
is_outside d = not d.rel && (is_none d.seg && (is_none d.index && has_no_size d.size))

-- a register
abbrev pub is_register : Draft → Bool
is_register d = is_some d.base && (not d.counted && is_none d.selector)

-- a number of at least -2^63
abbrev pub is_number : Draft → Bool
is_number d = is_none d.base && (d.counted && nat_le (below_zero d) (2 ^ 63))

-- an operand without brackets: a register, a number or a far pointer
unfoldable pub is_whole_plain : Draft → Bool
is_whole_plain d = is_outside d && (is_register d || is_number d)

-- the displacement fits the address: it is below 2 to the size, and at least minus the half of that
unfoldable pub fits : Draft → Bool
fits d = nat_lt (d.plus - d.minus) (2 ^ width (address_bits d)) && nat_le (2 * below_zero d) (2 ^ width (address_bits d))

-- an address: beside the instruction pointer stands a name or a number, beside `rel` no register, and the displacement fits the address
unfoldable pub is_whole_address : Draft → Bool
is_whole_address d =
    is_none d.selector && (is_idle d && ((not (is_instruction_pointer d.base) || (d.counted && is_none d.index))
    && ((not d.rel || (is_none d.base && is_none d.index)) && fits d)))

-- an index with the scale 1 is the base where there is none
unfoldable pub based : Draft → Draft
based d = if is_none d.base && d.scale == 1 then record d { base = d.index; index = None } else d

-- the operand behind its last word
unfoldable pub finished : Draft → Draft
finished d = elim d.place [
  | Front ↦ only_if (is_whole_plain (flushed d)) (flushed d)
  | Inside ↦ unsound d
  | Behind ↦ only_if (is_whole_address (based d)) (based d)
]

-- the operand of a text that begins at a place
abbrev pub operand_in : ℕ → List ℕ → Draft
operand_in at text = finished (with_words no_words at 0 text)
