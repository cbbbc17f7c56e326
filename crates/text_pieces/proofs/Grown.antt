-- Pieces that are put down one list behind another.
use Rattle.std.proofs.Common.{◌≡◌, List, [], ◌∷◌, ◌++◌, refl}
use Rattle.text_pieces.specs.Tokens.{Token}
use Rattle.text_pieces.specs.Lines.{Laid, put, grown}

-- two lists one behind the other are put down as the first and then the second
pub grown-append : (l : Laid) (xs ys : List Token) → grown l (xs ++ ys) ≡ grown (grown l xs) ys
grown-append l [] ys = refl
grown-append l (t ∷ ts) ys = grown-append (put t.characters t.operand t.kind l) ts ys

pub ruleset grown_rules = (grown-append)
