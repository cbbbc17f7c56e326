-- The words of entries.
use Rattle.std.specs.Prelude.{ℕ, ◌==◌, if◌then◌else◌, List, [], ◌∷◌, map, Option, Some, None, bytes_eq}
use Rattle.instruction_parts.specs.declared.row_types.OpKind.{OpKind}
use Rattle.instruction_parts.specs.declared.row_types.Class.{Class}
use Rattle.instruction_parts.specs.declared.row_types.Map.{Map}
use Rattle.row_entries.specs.declared.words.Mark.{Mark}
use Rattle.row_entries.specs.declared.words.TheConstants.{KIND_WORDS, CLASS_WORDS, MAP_WORDS, MARK_WORDS}

-- the words of the kinds of operands, each with the kind that it stands for
unfoldable pub kind_words : List (List ℕ × OpKind)
kind_words = map (λ w. (w.0.now, w.1)) KIND_WORDS

-- those of the classes of prefixes
unfoldable pub class_words : List (List ℕ × Class)
class_words = map (λ w. (w.0.now, w.1)) CLASS_WORDS

-- those of the maps
unfoldable pub map_words : List (List ℕ × Map)
map_words = map (λ w. (w.0.now, w.1)) MAP_WORDS

-- those of the marks
unfoldable pub mark_words : List (List ℕ × Mark)
mark_words = map (λ w. (w.0.now, w.1)) MARK_WORDS

-- what a text stands for among some words
unfoldable pub value_among : {T : Type 0} → List (List ℕ × T) → List ℕ → Option T
value_among [] text = None
value_among (word ∷ words) text = if bytes_eq word.0 text then Some word.1 else value_among words text

-- a byte put before the first piece
abbrev pub onto : ℕ → List (List ℕ) → List (List ℕ)
onto c [] = (c ∷ []) ∷ []
onto c (piece ∷ pieces) = (c ∷ piece) ∷ pieces

-- the pieces of a text, each of which ends at a separator or at the end
unfoldable pub split : List ℕ → ℕ → List (List ℕ)
split [] separator = []
split (c ∷ text) separator = if c == separator then [] ∷ split text separator else onto c (split text separator)
