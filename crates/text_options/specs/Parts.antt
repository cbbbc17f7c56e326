-- The text of each piece, and of all.
use Rattle.std.specs.Prelude.{ℕ, ◌+◌, ◌-◌, Bool, true, false, ◌&&◌, is_some, if◌then◌else◌, List, [], ◌∷◌, ◌++◌, length, replicate, Option, Some, None, codes}
use Rattle.text_parts.specs.declared.style.Style.{Style}
use Rattle.text_parts.specs.declared.style.Style.TheVariants.{Att}
use Rattle.text_pieces.specs.declared.piece.Kind.{Kind}
use Rattle.text_pieces.specs.declared.piece.Kind.TheVariants as kind
use Rattle.text_pieces.specs.Tokens.{Token}
use Rattle.text_options.specs.declared.options.Commas.TheVariants.{Spaced, Tight}
use Rattle.text_options.specs.declared.behind.Behind.{Behind}
use Rattle.text_options.specs.declared.behind.Behind.TheVariants.{Other, Name, Register, Mark, SizeWord, RelativeWord}
use Rattle.text_options.specs.declared.view.View.{View}
use Rattle.text_options.specs.Answers.{Answers}
use Rattle.text_options.specs.Spelling.{spelled}
use Rattle.text_options.specs.Values.{digits}
use Rattle.text_options.specs.Symbolic.{asked, resolved, noted}
use Rattle.text_options.specs.declared.gnu_pieces.Change.{Change}
use Rattle.text_options.specs.declared.gnu_pieces.Change.TheVariants.{Keep, Drop, One, Top, Port, Value}
use Rattle.text_options.specs.GnuPieces.{gnu_change}
use Rattle.text_options.specs.GnuFront.{port}

-- ---- what stands in front

-- what the piece behind a piece of this kind stands behind: a keyword inside brackets is the word of a relative address, any other is of a size
unfoldable pub after : Behind → Kind → Behind
after behind kind.Mnemonic = Name
after behind kind.Register = Register
after behind kind.Punctuation = Mark
after Mark kind.Keyword = RelativeWord
after behind kind.Keyword = SizeWord
after behind _ = Other

-- ---- spaces and keywords

-- a space behind the name, filled up to the column of the first operand; it ends at a place of the printer's text
unfoldable pub gap : View → ℕ → List ℕ → List ℕ
gap view end cs = cs ++ replicate (view.options.operand_column - end) 32

-- a space behind a comma
unfoldable pub comma_space : View → List ℕ → List ℕ
comma_space view cs = elim view.options.commas [ Spaced ↦ cs | Tight ↦ [] ]

-- a part that stands unless a condition holds
unfoldable pub unless : Bool → List ℕ → List ℕ
unless b cs = if b then [] else cs

-- a space, by what it stands behind and the place where it ends
unfoldable pub space_text : View → ℕ → Behind → List ℕ → List ℕ
space_text view end Name cs = gap view end cs
space_text view end Mark cs = comma_space view cs
space_text view end SizeWord cs = unless view.drops_sizes cs
space_text view end RelativeWord cs = unless (is_some view.pointer) cs
space_text view end _ cs = cs

-- a keyword is left out, by what it stands behind
unfoldable pub drops_keyword : View → Behind → Bool
drops_keyword view Mark = is_some view.pointer
drops_keyword view _ = view.drops_sizes

-- a keyword, by what it stands behind
unfoldable pub keyword_text : View → Behind → List ℕ → List ℕ
keyword_text view behind cs = unless (drops_keyword view behind) (spelled view.options.letters kind.Keyword cs)

-- ---- pieces

-- the text of a piece that ends at a place and stands behind another
unfoldable pub piece_text : View → Answers → ℕ → Behind → Kind → List ℕ → List ℕ
piece_text view names end behind (kind.Number x) cs = resolved view x cs (asked names x)
piece_text view names end behind kind.Keyword cs = keyword_text view behind cs
piece_text view names end behind kind.Space cs = space_text view end behind cs
piece_text view names end behind kind cs = spelled view.options.letters kind cs

-- a mark that is not the colon behind a segment
unfoldable pub is_bracket : Behind → Bool
is_bracket Register = false
is_bracket _ = true

-- the piece is a bracket of an address that has none: a mark of its operand that is not the colon behind the segment
unfoldable pub is_bare_bracket : View → Behind → Option ℕ → Kind → Bool
is_bare_bracket view behind operand kind.Punctuation = view.bare && (is_bracket behind && is_some operand)
is_bare_bracket view behind operand _ = false

-- what becomes of a piece: it is written by its kind, unless the address has no brackets or the names are GNU's
unfoldable pub change_of : View → Behind → Option ℕ → Kind → Change
change_of view behind operand kind =
    if is_bare_bracket view behind operand kind then Drop
    else (elim view.special [ None ↦ Keep | Some special ↦ gnu_change special view.style behind operand kind ])

-- the top of the x87 stack as GNU writes it
unfoldable pub top_name : Style → List ℕ
top_name Att = codes "%st"
top_name _ = codes "st"

-- the text of a piece, as it is changed
unfoldable pub changed_piece : View → Answers → ℕ → Behind → Option ℕ → Kind → List ℕ → List ℕ
changed_piece view names end behind operand k cs = elim (change_of view behind operand k) [
  | Keep ↦ piece_text view names end behind k cs
  | Drop ↦ []
  | One ↦ codes "1"
  | Top ↦ spelled view.options.letters kind.Register (top_name view.style)
  | Port ↦ port view.style view.options.letters
  | Value n ↦ digits view n
]

-- the comment of a piece
unfoldable pub comment : View → Answers → Kind → List ℕ
comment view names (kind.Number x) = noted view x (asked names x)
comment view names _ = []

-- pieces from a place on, the first of which stands behind another
unfoldable pub from_place : View → Answers → ℕ → Behind → List Token → List ℕ
from_place view names at behind [] = []
from_place view names at behind (t ∷ ts) =
    changed_piece view names (at + length t.characters) behind t.operand t.kind t.characters
    ++ from_place view names (at + length t.characters) (after behind t.kind) ts

-- the comments of pieces
unfoldable pub comments : View → Answers → List Token → List ℕ
comments view names [] = []
comments view names (t ∷ ts) = comment view names t.kind ++ comments view names ts

-- the text of pieces: each piece by its kind, then the comments
unfoldable pub changed : View → Answers → List Token → List ℕ
changed view names ts = from_place view names 0 Other ts ++ comments view names ts
