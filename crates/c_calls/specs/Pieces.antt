-- The pieces of an instruction's text, as the flat structs of the C interface.
use Rattle.std.specs.Prelude.{◌≡◌, ℕ, nat_lt, nat_le, ◌&&◌, ℤ, pos, List, ◌++◌, length, drop, map, Option, Some, None, Result, Ok, Err, if◌then◌else◌}
use Rattle.x86_values.specs.declared.Bits.{Bits}
use Rattle.x86_values.specs.declared.Instr.{Instr}
use Rattle.opcode_rows.specs.Allowed.{is_well_formed}
use Rattle.text_parts.specs.declared.style.Style.{Style}
use Rattle.text_pieces.specs.declared.piece.Role.{Role}
use Rattle.text_pieces.specs.declared.piece.Role.TheVariants as role
use Rattle.text_pieces.specs.declared.piece.Kind.{Kind}
use Rattle.text_pieces.specs.declared.piece.Kind.TheVariants as kind
use Rattle.text_pieces.specs.declared.piece.Piece.{Piece}
use Rattle.text_pieces.specs.Tokens.{placed}
use Rattle.text_pieces.specs.Pieces.{pieces_of}
use Rattle.c_calls.specs.declared.refusal.Refusal.{Refusal}
use Rattle.c_calls.specs.declared.refusal.Refusal.TheVariants.{Mode, Syntax, Instr as NoInstr, Form, Room}
use Rattle.c_calls.specs.declared.flat.FlatInstr.{FlatInstr}
use Rattle.c_calls.specs.declared.flat.FlatPiece.{FlatPiece}
use Rattle.c_calls.specs.Refusals.{refusal_status}
use Rattle.c_calls.specs.Numbers.{bits_numbered, style_numbered}
use Rattle.c_calls.specs.Back.{instr_back}
use Rattle.c_calls.specs.Answers.{style_text, with_text}

-- a kind by its number, 0 to 7
abbrev pub kind_number : Kind → ℕ
kind_number kind.Prefix = 0
kind_number kind.Mnemonic = 1
kind_number kind.Register = 2
kind_number kind.Keyword = 3
kind_number (kind.Number n) = 4
kind_number kind.Operator = 5
kind_number kind.Punctuation = 6
kind_number kind.Space = 7

-- a role by its number, 1 to 7
abbrev pub role_number : Role → ℕ
role_number role.Immediate = 1
role_number role.Displacement = 2
role_number role.Scale = 3
role_number role.Target = 4
role_number role.Address = 5
role_number role.Selector = 6
role_number role.Offset = 7

-- an operand by its number, 255 for none
abbrev pub operand_number : Option ℕ → ℕ
operand_number None = 255
operand_number (Some n) = n

-- a piece of a kind, with the value, width and role of a number
abbrev pub flat_with : ℕ → ℕ → ℕ → Kind → FlatPiece
flat_with start end operand (kind.Number n) =
    record { value = n.value; start = start; end = end; kind = 4; operand = operand; role = role_number n.role; width = n.width }
flat_with start end operand k =
    record { value = 0; start = start; end = end; kind = kind_number k; operand = operand; role = 0; width = 0 }

-- a piece
abbrev pub flat_piece : Piece → FlatPiece
flat_piece p = flat_with p.start p.end (operand_number p.operand) p.kind

-- a text with its pieces
pub record Shown : Type 0 where
  pub text : List ℕ
  pub pieces : List Piece

-- the text of an instruction in a style, and its pieces
abbrev pub shown : Style → Bits → Instr → Shown
shown style bits i = record { text = style_text style bits i; pieces = placed 0 (pieces_of style bits i) }

-- the same where there are a mode, a style and an instruction, of the form that its row asks for
unfoldable pub shown_of : Option Bits → Option Style → Option Instr → Result Shown Refusal
shown_of None style i = Err Mode
shown_of (Some bits) None i = Err Syntax
shown_of (Some bits) (Some style) None = Err NoInstr
shown_of (Some bits) (Some style) (Some i) = if is_well_formed i then Ok (shown style bits i) else Err Form

-- the text of a struct and its pieces, or why it has none
abbrev pub shown_answer : ℕ → ℕ → FlatInstr → Result Shown Refusal
shown_answer bits syntax f = shown_of (bits_numbered bits) (style_numbered syntax) (instr_back f)

-- one room holds the text with the byte 0 that ends it, the other all pieces
unfoldable pub shown_within : ℕ → ℕ → Result Shown Refusal → Result Shown Refusal
shown_within room count (Ok s) = if nat_lt (length s.text) room && nat_le (length s.pieces) count then Ok s else Err Room
shown_within room count (Err why) = Err why

-- how many pieces, or the refusal
abbrev pub pieces_said : Result Shown Refusal → ℤ
pieces_said (Ok s) = pos (length s.pieces)
pieces_said (Err why) = refusal_status why

-- the text alone
abbrev pub shown_text : Result Shown Refusal → Result (List ℕ) Refusal
shown_text (Ok s) = Ok s.text
shown_text (Err why) = Err why

-- the room of the text has it and the byte 0 that ends it at the front, or is as it was
abbrev pub text_left : List ℕ → Result Shown Refusal → List ℕ
text_left old s = with_text old (shown_text s)

-- the room of the pieces begins with them, and is unchanged behind them and after a refusal
abbrev pub pieces_left : List FlatPiece → Result Shown Refusal → List FlatPiece
pieces_left old (Ok s) = map flat_piece s.pieces ++ drop (length s.pieces) old
pieces_left old (Err why) = old
