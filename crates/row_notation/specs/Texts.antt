-- Which texts are a shape's, and how far a text that is none goes along with one.
use Rattle.std.specs.Prelude.{◌≡◌, ℕ, ◌+◌, ◌<◌, ◌≤◌, List, ◌++◌, length, take, IsTrue}
use Rattle.instruction_parts.specs.declared.row_types.RowShape.{RowShape}
use Rattle.row_notation.specs.Shape.{is_proper}
use Rattle.row_notation.specs.Notation.{notation}

-- the text is that of this shape
pub record IsTextOf (text : List ℕ) (s : RowShape) : Type 0 where
  pub proper : IsTrue (is_proper s)
  pub written : notation s ≡ text

-- the text begins the text of some shape
abbrev pub BeginsText : List ℕ → Type 0
BeginsText text = (more : List ℕ) × ((s : RowShape) × IsTextOf (text ++ more) s)

-- the text is no shape's, and this is the length of its longest prefix that begins some shape's text
pub record IsFaultAt (text : List ℕ) (at : ℕ) : Type 0 where
  pub within : at ≤ length text
  pub begins : BeginsText (take at text)
  pub longest : at < length text → ¬ BeginsText (take (at + 1) text)
  pub none : (s : RowShape) → ¬ IsTextOf text s
