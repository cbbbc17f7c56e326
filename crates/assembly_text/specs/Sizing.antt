-- Which sizes an address without one can have: where it is the only one, the printer's text is the same but for its size.
use Rattle.std.specs.Prelude.{◌≡◌, ℕ, Bool, true, false, not, if◌then◌else◌, List, [], ◌++◌, length, take, ◌&&◌, Option, Some, None}
use Rattle.x86_values.specs.declared.Bits.{Bits}
use Rattle.intel_words.specs.declared.words.SizeName.{SizeName}
use Rattle.intel_words.specs.declared.words.SizeName.TheVariants.{None as NoSize}
use Rattle.intel_reader.specs.Sizes.{has_size}
use Rattle.intel_reader.specs.declared.sizes.SizeSet.{SizeSet}
use Rattle.assembly_text.specs.declared.sizing.PieceLengths.{PieceLengths}
use Rattle.assembly_text.specs.declared.drafts.Draft.{Draft}
use Rattle.assembly_text.specs.declared.statements.Statement.{Statement}
use Rattle.assembly_text.specs.declared.statements.Width.TheVariants.{W64}
use Rattle.assembly_text.specs.Names.{head_text}
use Rattle.assembly_text.specs.Statements.{operand_text, is_empty, has_negative, is_unsized_part, widths_of}
use Rattle.assembly_text.specs.Readings.{IsFirstRead}

-- bytes begin with the head of a text, which has so many
abbrev pub BeginWithHead : List ℕ → List ℕ → ℕ → Type 0
BeginWithHead low bytes len = (len ≡ length (head_text low)) × (take len bytes ≡ head_text low)

-- the number of the only one of four that holds
unfoldable pub only_of : Bool → Bool → Bool → Bool → Option ℕ
only_of true false false false = Some 0
only_of false true false false = Some 1
only_of false false true false = Some 2
only_of false false false true = Some 3
only_of _ _ _ _ = None

-- the number of the operand that is the only address without a size, where no number is below 0
unfoldable pub unsized_operand : Statement → Option ℕ
unsized_operand s =
    if has_negative s then None
    else only_of (is_unsized_part s.first) (is_unsized_part s.second) (is_unsized_part s.third) (is_unsized_part s.fourth)

-- an operand without a size for an address that has none; nothing where there is no operand
unfoldable pub piece_of : Bits → Option Draft → List ℕ
piece_of bits None = []
piece_of bits (Some d) = operand_text bits NoSize W64 d

-- an operand has a text
unfoldable pub is_shown : Option Draft → List ℕ → Bool
is_shown None piece = true
is_shown (Some d) piece = not (is_empty piece)

-- the operands of a text one after the other
unfoldable pub pieces_of : Bits → Statement → List ℕ
pieces_of bits s = piece_of bits s.first ++ (piece_of bits s.second ++ (piece_of bits s.third ++ piece_of bits s.fourth))

-- how long the first three of them are
abbrev pub AreLengths : Bits → Statement → PieceLengths → Type 0
AreLengths bits s lens =
    (lens.first ≡ length (piece_of bits s.first)) × (lens.second ≡ length (piece_of bits s.second)) × (lens.third ≡ length (piece_of bits s.third))

-- each operand has a text
unfoldable pub are_shown : Statement → List ℕ → List ℕ → List ℕ → List ℕ → Bool
are_shown s a b c d = is_shown s.first a && (is_shown s.second b && (is_shown s.third c && is_shown s.fourth d))

-- a size may have an instruction: each if nothing is known
unfoldable pub may_fit : Option SizeSet → SizeName → Bool
may_fit None size = true
may_fit (Some set) size = has_size set size

-- with a size that may not fit no width has an instruction
abbrev pub LeavesOut : Bits → ℕ → List ℕ → Statement → Option SizeSet → Type 0
LeavesOut bits ip low s set = (size : SizeName) → may_fit set size ≡ false → IsFirstRead bits ip low s size (widths_of s) None
