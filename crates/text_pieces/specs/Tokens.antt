-- Pieces of a text with their characters, and where they stand.
use Rattle.std.specs.Prelude.{◌≡◌, ℕ, ◌+◌, ◌<◌, Bool, not, ◌==◌, List, [], ◌∷◌, ◌++◌, length, Option, Some, slice_range, codes}
use Rattle.text_pieces.specs.declared.piece.Kind.{Kind}
use Rattle.text_pieces.specs.declared.piece.Kind.TheVariants as kind
use Rattle.text_pieces.specs.declared.piece.Piece.{Piece}

-- a piece as its definition gives it: its characters, the operand that it belongs to, and its kind
pub record Token : Type 0 where
  pub characters : List ℕ
  pub operand : Option ℕ
  pub kind : Kind

-- one piece
abbrev pub token : Option ℕ → Kind → List ℕ → List Token
token operand kind characters = record { characters = characters; operand = operand; kind = kind } ∷ []

-- a space
abbrev pub space : Option ℕ → List Token
space operand = token operand kind.Space (codes " ")

-- a word of operand n that is neither a register nor a number
abbrev pub keyword : ℕ → List ℕ → List Token
keyword n word = token (Some n) kind.Keyword word

-- a bracket, a comma or a colon of operand n
abbrev pub punctuation : ℕ → List ℕ → List Token
punctuation n mark = token (Some n) kind.Punctuation mark

-- a sign of operand n that calculates: plus, minus, times
abbrev pub operator : ℕ → List ℕ → List Token
operator n sign = token (Some n) kind.Operator sign

-- the characters of pieces one behind another
abbrev pub joined : List Token → List ℕ
joined [] = []
joined (t ∷ ts) = t.characters ++ joined ts

-- the piece has a character
abbrev pub has_characters : Token → Bool
has_characters t = not (length t.characters == 0)

-- ---- places

-- where pieces stand: each begins where the one before it ends
abbrev pub placed : ℕ → List Token → List Piece
placed at [] = []
placed at (t ∷ ts) =
    record { start = at; end = at + length t.characters; operand = t.operand; kind = t.kind } ∷ placed (at + length t.characters) ts

-- the pieces cover a text from a place to an end without a gap: each begins where the one before it ends, and has a character
abbrev pub IsCover : ℕ → ℕ → List Piece → Type 0
IsCover at end [] = at ≡ end
IsCover at end (p ∷ ps) = (p.start ≡ at) × (at < p.end) × IsCover p.end end ps

-- the characters of a text that a piece stands for
abbrev pub characters_at : List ℕ → Piece → List ℕ
characters_at text p = slice_range text p.start p.end
