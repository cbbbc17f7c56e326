-- Pieces that cover a text lie in it.
use Rattle.std.proofs.Common.{ℕ, ◌≤◌, List, [], ◌∷◌, arith}
use Rattle.text_pieces.specs.declared.piece.Piece.{Piece}
use Rattle.text_pieces.specs.Tokens.{IsCover}

-- pieces that begin at a place end behind it
pub cover-le : (at end : ℕ) (ps : List Piece) → IsCover at end ps → at ≤ end
cover-le at end [] h = omega (arith, h)
cover-le at end (p ∷ ps) h = omega (arith, h.1, cover-le p.end end ps h.2)

-- the first piece begins where the pieces begin, and has a character
pub cover-order : (at end : ℕ) (p : Piece) (ps : List Piece) → IsCover at end (p ∷ ps) → p.start ≤ p.end
cover-order at end p ps h = omega (arith, h.0, h.1)

-- the first piece ends within the text
pub cover-within : (at end : ℕ) (p : Piece) (ps : List Piece) → IsCover at end (p ∷ ps) → p.end ≤ end
cover-within at end p ps h = cover-le p.end end ps h.2

-- the others cover the rest
pub cover-rest : (at end : ℕ) (p : Piece) (ps : List Piece) → IsCover at end (p ∷ ps) → IsCover p.end end ps
cover-rest at end p ps h = h.2

pub ruleset cover_rules = (cover-order, cover-within, cover-rest)
