-- What a contract sees of pieces.
use Rattle.std.specs.Prelude.{List}
use Rattle.text_pieces.specs.declared.piece.Piece.{Piece}

-- the pieces, in their order
pub record PieceList : Type 0 where
  pub items : List Piece
