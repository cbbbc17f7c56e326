-- What is asked of an instruction whose text is read back: that of each instruction which can be encoded, and of each name of the table.
use Rattle.std.specs.Prelude.{ℕ, ◌^◌, Bool, true, false, not, ◌&&◌, ◌||◌, nat_lt, is_some, is_none, List, [], ◌∷◌}
use Rattle.std.specs.List.{list_all}
use Rattle.x86_values.specs.declared.Bits.{Bits}
use Rattle.x86_values.specs.declared.Bits.TheVariants.{B16}
use Rattle.x86_values.specs.declared.Mem.{Mem}
use Rattle.x86_values.specs.declared.Operand.{Operand}
use Rattle.x86_values.specs.declared.Operand.TheVariants.{Absent, Reg, Mem as Memory, Imm, Near, Far}
use Rattle.x86_values.specs.declared.Instr.{Instr}
use Rattle.x86_values.specs.Operands.{is_absent}
use Rattle.x86_values.specs.Named.{is_named, is_named_if}
use Rattle.instruction_parts.specs.declared.row_types.Row.{Row}
use Rattle.text_parts.specs.PrefixWords.{text_address_size}
use Rattle.text_parts.specs.Layout.{nth_operand}
use Rattle.intel_words.specs.Scanning.{is_word_byte}
use Rattle.intel_words.specs.ReadWords.{is_prefix_word}

-- ---- names

-- the name is a word of lower-case letters and digits, and none that can stand in front of a name
unfoldable pub is_plain_name : List ℕ → Bool
is_plain_name [] = false
is_plain_name (c ∷ cs) = list_all is_word_byte (c ∷ cs) && not (is_prefix_word (c ∷ cs))

-- ---- operands

-- a number of 64 bits
unfoldable pub is_word_number : ℕ → Bool
is_word_number n = nat_lt n (2 ^ 64)

-- in 16-bit addressing, where no scale shows which register is the index, an index has a base in front of it
unfoldable pub index_is_shown : Bits → Mem → Bool
index_is_shown B16 m = is_some m.base || is_none m.index
index_is_shown _ m = true

-- an address whose text can be read: registers that exist, a scale of one digit, a displacement of 64 bits
unfoldable pub is_printable_address : Bits → Mem → Bool
is_printable_address asize m =
    is_named_if m.base && (is_named_if m.index && (nat_lt m.scale 10 && (is_word_number m.disp && index_is_shown asize m)))

-- an operand whose text can be read
unfoldable pub is_printable_operand : Bits → Operand → Bool
is_printable_operand asize Absent = true
is_printable_operand asize (Reg r) = is_named r
is_printable_operand asize (Imm x) = is_word_number x
is_printable_operand asize (Near x) = is_word_number x
is_printable_operand asize (Far selector offset) = is_word_number selector && is_word_number offset
is_printable_operand asize (Memory m) = is_printable_address asize m

-- operand n can be read
abbrev pub nth_is_printable : Bits → Instr → ℕ → Bool
nth_is_printable bits instr n = is_printable_operand (text_address_size bits instr) (nth_operand instr n)

-- no operand stands behind an absent one
unfoldable pub are_in_front : Instr → Bool
are_in_front instr =
    (not (is_absent (nth_operand instr 0)) || is_absent (nth_operand instr 1))
    && ((not (is_absent (nth_operand instr 1)) || is_absent (nth_operand instr 2))
    && (not (is_absent (nth_operand instr 2)) || is_absent (nth_operand instr 3)))

-- ---- the instruction

-- an instruction of a row with this name whose text can be read
unfoldable pub is_printable : Bits → Row → List ℕ → Instr → Bool
is_printable bits row name instr =
    is_plain_name name && (are_in_front instr
    && (nth_is_printable bits instr 0 && (nth_is_printable bits instr 1
    && (nth_is_printable bits instr 2 && nth_is_printable bits instr 3))))
