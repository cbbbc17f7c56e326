-- What GNU changes at the pieces of operands.
use Rattle.std.specs.Prelude.{ℕ, Bool, true, false, ◌&&◌, ◌==◌, is_some, is_none, if◌then◌else◌, Option, Some, None}
use Rattle.x86_values.specs.declared.Operand.{Operand}
use Rattle.x86_values.specs.declared.Operand.TheVariants.{Imm}
use Rattle.x86_values.specs.declared.Instr.{Instr}
use Rattle.instruction_parts.specs.declared.row_types.Row.{Row}
use Rattle.instruction_parts.specs.declared.row_types.OpKind.{OpKind}
use Rattle.instruction_parts.specs.declared.row_types.OpKind.TheVariants as op
use Rattle.row_fit.specs.Fits.{kind_at}
use Rattle.text_parts.specs.declared.style.Style.{Style}
use Rattle.text_parts.specs.declared.style.Style.TheVariants.{Att}
use Rattle.text_parts.specs.Layout.{nth_operand}
use Rattle.text_pieces.specs.declared.piece.Kind.{Kind}
use Rattle.text_pieces.specs.declared.piece.Kind.TheVariants as kind
use Rattle.text_options.specs.declared.behind.Behind.{Behind}
use Rattle.text_options.specs.declared.behind.Behind.TheVariants.{Other, Name, Mark}
use Rattle.text_options.specs.declared.gnu_pieces.Swapped.{Swapped}
use Rattle.text_options.specs.declared.gnu_pieces.Special.{Special}
use Rattle.text_options.specs.declared.gnu_pieces.Change.{Change}
use Rattle.text_options.specs.declared.gnu_pieces.Change.TheVariants.{Keep, Drop, One, Top, Port, Value}

-- ---- the operands that GNU writes in its own way

-- the first of the first two operands that has a kind
unfoldable pub place_of : Bool → Bool → Option ℕ
place_of first second = if first then Some 0 else (if second then Some 1 else None)

-- the kind is the constant 1
unfoldable pub is_one : OpKind → Bool
is_one op.One = true
is_one _ = false

-- the kind is the top of the x87 stack
unfoldable pub is_top : OpKind → Bool
is_top op.St = true
is_top _ = false

-- the kind is DX, which is the number of a port
unfoldable pub is_port : OpKind → Bool
is_port op.Dx = true
is_port _ = false

-- the values of two immediates
unfoldable pub two_immediates : Operand → Operand → Option Swapped
two_immediates (Imm x) (Imm y) = Some (record { first = x; second = y })
two_immediates _ _ = None

-- the two immediates of an instruction that AT&T writes in the manual's order
unfoldable pub swapped_of : Style → Instr → Option Swapped
swapped_of style instr = elim style [ Att ↦ two_immediates (nth_operand instr 0) (nth_operand instr 1) | _ ↦ None ]

-- the operands of an instruction of a row that GNU writes in its own way
unfoldable pub special_of : Style → Row → Instr → Special
special_of style row instr = record {
  one = place_of (is_one (kind_at row 0)) (is_one (kind_at row 1));
  top = place_of (is_top (kind_at row 0)) (is_top (kind_at row 1));
  port = place_of (is_port (kind_at row 0)) (is_port (kind_at row 1));
  swapped = swapped_of style instr;
}

-- ---- what becomes of a piece

-- the piece belongs to the operand
unfoldable pub is_of : Option ℕ → Option ℕ → Bool
is_of None special = false
is_of (Some n) None = false
is_of (Some n) (Some k) = n == k

-- AT&T leaves out the count of a shift by 1
unfoldable pub drops_one : Special → Style → Bool
drops_one special style = elim style [ Att ↦ is_some special.one | _ ↦ false ]

-- left out, or written by its kind
unfoldable pub drop_if : Bool → Change
drop_if b = if b then Drop else Keep

-- a space: behind a prefix or the name the front of the text has it; that behind a comma goes with a count that is left out
unfoldable pub space_change : Special → Style → Behind → Change
space_change special style Other = Drop
space_change special style Name = Drop
space_change special style Mark = drop_if (drops_one special style)
space_change special style _ = Keep

-- an immediate that changes places is the other one
unfoldable pub swapped_change : Swapped → Option ℕ → Change
swapped_change swapped operand = if is_of operand (Some 0) then Value swapped.second else Value swapped.first

-- the count of a shift by 1 is a digit, or left out
unfoldable pub lone_change : Special → Style → Option ℕ → Change
lone_change special style operand =
    if is_of operand special.one then (elim style [ Att ↦ Drop | _ ↦ One ]) else Keep

-- a number
unfoldable pub number_change : Special → Style → Option ℕ → Change
number_change special style operand = elim special.swapped [
  | None ↦ lone_change special style operand
  | Some swapped ↦ swapped_change swapped operand
]

-- a register: the top of the stack, DX as a port, or any other
unfoldable pub register_change : Special → Option ℕ → Change
register_change special operand =
    if is_of operand special.top then Top else (if is_of operand special.port then Port else Keep)

-- a piece, by what it stands behind and its operand; prefixes and the name are in the front of the text
unfoldable pub gnu_change : Special → Style → Behind → Option ℕ → Kind → Change
gnu_change special style behind operand kind.Prefix = Drop
gnu_change special style behind operand kind.Mnemonic = Drop
gnu_change special style behind operand kind.Space = space_change special style behind
gnu_change special style behind operand kind.Punctuation = drop_if (drops_one special style && is_none operand)
gnu_change special style behind operand kind.Operator = drop_if (is_of operand special.one)
gnu_change special style behind operand (kind.Number x) = number_change special style operand
gnu_change special style behind operand kind.Register = register_change special operand
gnu_change special style behind operand kind.Keyword = Keep
