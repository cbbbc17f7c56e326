-- What the words of a text have to be, so that an instruction of a row with these sizes has them: tests before any instruction is made.
use Rattle.std.specs.Prelude.{ℕ, Bool, true, false, ◌&&◌, ◌||◌, if◌then◌else◌, List, Option, Some, None, is_none, unwrap_or, bytes_eq}
use Rattle.x86_values.specs.declared.Bits.{Bits}
use Rattle.x86_values.specs.declared.Bits.TheVariants.{B16, B32, B64}
use Rattle.x86_values.specs.declared.DispSize.{DispSize}
use Rattle.x86_values.specs.declared.DispSize.TheVariants.{D0}
use Rattle.x86_values.specs.declared.Mem.{Mem}
use Rattle.x86_values.specs.declared.Operand.TheVariants.{Mem as MemOperand}
use Rattle.instruction_parts.specs.declared.row_types.Row.{Row}
use Rattle.instruction_parts.specs.declared.kinds.Method.{Method}
use Rattle.instruction_parts.specs.Kinds.{method_of}
use Rattle.instruction_parts.specs.Sizes.{has_address_mark}
use Rattle.row_fit.specs.Fits.{kind_at}
use Rattle.plain_spelling.specs.Addresses.{has_address_size, displacement_suits, written_size}
use Rattle.plain_spelling.specs.Expressible.{size_agrees}
use Rattle.text_parts.specs.PrefixWords.{counter_jump}
use Rattle.intel_words.specs.declared.words.IntelWords.{IntelWords}
use Rattle.intel_words.specs.declared.words.OperandText.{OperandText}
use Rattle.intel_words.specs.declared.words.OperandText.TheVariants.{Absent, Reg, Number, Far, Mem as Address}
use Rattle.intel_reader.specs.declared.operands.OperandClass.{OperandClass}
use Rattle.intel_reader.specs.declared.operands.OperandClass.TheVariants as class
use Rattle.intel_reader.specs.Operands.{class_of_register, takes, asked_flags}
use Rattle.intel_reader.specs.Candidate.{address_from, text_at}

-- ---- the name

-- a name in a text is that of the jump on the counter, with one of its address sizes
unfoldable pub is_counter_word : List ℕ → Bool
is_counter_word word = bytes_eq word (counter_jump B16) || (bytes_eq word (counter_jump B32) || bytes_eq word (counter_jump B64))

-- ---- the classes of the operands

-- the class of an operand
unfoldable pub text_class : OperandText → OperandClass
text_class Absent = class.Absent
text_class (Reg r) = class_of_register r
text_class (Number x) = class.Number
text_class (Far selector offset) = class.Pointer
text_class (Address a) = class.Address

-- the class of operand n of the words
abbrev pub class_at : IntelWords → ℕ → OperandClass
class_at words n = text_class (text_at words n)

-- the row exists in the mode, and takes operands of the classes of these words
abbrev pub takes_words : Bits → Row → IntelWords → Bool
takes_words bits row words = takes bits row (class_at words 0) (class_at words 1) (class_at words 2) (class_at words 3)

-- the flags that a row of these words has in the mode
abbrev pub asked_by : Bits → IntelWords → List Bool
asked_by bits words = asked_flags bits (class_at words 0) (class_at words 1) (class_at words 2) (class_at words 3)

-- ---- the address size

-- the operand is an address
unfoldable pub is_address : OperandText → Bool
is_address (Address a) = true
is_address _ = false

-- some operand is an address
unfoldable pub has_address : IntelWords → Bool
has_address words =
    is_address (text_at words 0) || (is_address (text_at words 1) || (is_address (text_at words 2) || is_address (text_at words 3)))

-- an instruction of the row with these words has an address size
abbrev pub has_size : Row → IntelWords → Bool
has_size row words = has_address words || has_address_mark row

-- an address size agrees with what an address shows
unfoldable pub text_agrees : Bits → OperandText → Bool
text_agrees asize (Address a) = size_agrees asize (MemOperand (address_from B64 D0 a.inside))
text_agrees asize _ = true

-- an address size stands exactly where an operand is an address or the row uses one without, and is one of the mode and of all addresses
unfoldable pub size_allowed : Bits → Row → IntelWords → Option Bits → Bool
size_allowed bits row words asize =
    if has_size row words
    then (elim asize [
      | None ↦ false
      | Some a ↦ has_address_size bits a
          && (text_agrees a (text_at words 0) && (text_agrees a (text_at words 1) && (text_agrees a (text_at words 2) && text_agrees a (text_at words 3))))
    ])
    else is_none asize

-- ---- the displacement size

-- the address of an operand offers a displacement of this size
unfoldable pub text_offers : Bits → Option Bits → DispSize → Method → OperandText → Bool
text_offers bits asize size how (Address a) =
    let m : Mem = address_from (unwrap_or asize bits) size a.inside in displacement_suits (written_size bits asize m) how m
text_offers bits asize size how _ = true

-- the address of operand n offers a displacement of this size
abbrev pub nth_offers : Bits → Row → IntelWords → Option Bits → DispSize → ℕ → Bool
nth_offers bits row words asize size n = text_offers bits asize size (method_of (kind_at row n)) (text_at words n)

-- each address offers a displacement of this size
unfoldable pub displacement_allowed : Bits → Row → IntelWords → Option Bits → DispSize → Bool
displacement_allowed bits row words asize size =
    nth_offers bits row words asize size 0
    && (nth_offers bits row words asize size 1 && (nth_offers bits row words asize size 2 && nth_offers bits row words asize size 3))
