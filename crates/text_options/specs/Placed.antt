-- The text of pieces that stand in a text.
use Rattle.std.specs.Prelude.{ℕ, List, [], ◌∷◌, ◌++◌}
use Rattle.text_pieces.specs.declared.piece.Piece.{Piece}
use Rattle.text_pieces.specs.Tokens.{characters_at}
use Rattle.text_options.specs.declared.behind.Behind.{Behind}
use Rattle.text_options.specs.declared.view.View.{View}
use Rattle.text_options.specs.Answers.{Answers}
use Rattle.text_options.specs.Parts.{after, changed_piece, comment}

-- pieces of a text, the first of which stands behind another
unfoldable pub placed_text : View → Answers → List ℕ → Behind → List Piece → List ℕ
placed_text view names text behind [] = []
placed_text view names text behind (p ∷ ps) =
    changed_piece view names p.end behind p.operand p.kind (characters_at text p) ++ placed_text view names text (after behind p.kind) ps

-- their comments
unfoldable pub placed_comments : View → Answers → List Piece → List ℕ
placed_comments view names [] = []
placed_comments view names (p ∷ ps) = comment view names p.kind ++ placed_comments view names ps
