-- A text and its pieces, put down one behind another.
use Rattle.std.specs.Prelude.{ℕ, ◌==◌, if◌then◌else◌, List, [], ◌∷◌, ◌++◌, length, Option}
use Rattle.text_pieces.specs.declared.piece.Kind.{Kind}
use Rattle.text_pieces.specs.declared.piece.Piece.{Piece}
use Rattle.text_pieces.specs.declared.piece.Printed.{Printed}
use Rattle.text_pieces.specs.Tokens.{Token}

-- a text so far, and its pieces
pub record Laid : Type 0 where
  pub text : List ℕ
  pub items : List Piece

-- what was printed
unfoldable pub laid : Printed → Laid
laid printed = record { text = printed.text.items; items = printed.pieces.items }

-- one more piece from a start to an end, unless nothing is between them
unfoldable pub closed : ℕ → ℕ → Option ℕ → Kind → List Piece → List Piece
closed start end operand kind items =
    if end == start then items else items ++ record { start = start; end = end; operand = operand; kind = kind } ∷ []

-- one more piece with these characters, unless there are none
unfoldable pub put : List ℕ → Option ℕ → Kind → Laid → Laid
put characters operand kind l = record {
  text = l.text ++ characters;
  items = closed (length l.text) (length (l.text ++ characters)) operand kind l.items;
}

-- more pieces in their order
abbrev pub grown : Laid → List Token → Laid
grown l [] = l
grown l (t ∷ ts) = grown (put t.characters t.operand t.kind l) ts
