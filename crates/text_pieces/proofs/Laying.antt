-- What a piece that was put down adds to a text and its pieces.
use Rattle.std.proofs.Common.{◌≡◌, ℕ, ◌+◌, ◌≤◌, ◌<◌, false, List, ◌++◌, length, ap, ◌∙◌, arith, length-append}
use Rattle.std.specs.Prelude.{Option, ◌==◌}
use Rattle.std.proofs.lemmas.Bool.{ne_eqb}
use Rattle.text_pieces.specs.declared.piece.Kind.{Kind}
use Rattle.text_pieces.specs.declared.piece.Piece.{Piece}
use Rattle.text_pieces.specs.declared.piece.Printed.{Printed}
use Rattle.text_pieces.specs.Lines.{Laid, laid, closed, put}

-- a text with pieces
made : List ℕ → List Piece → Laid
made text items = record { text = text; items = items }

-- characters that were appended to a text, and then closed as one piece, were put down
pub put-closed : (old new : Printed) (own text : List ℕ) (start : ℕ) (operand : Option ℕ) (kind : Kind)
    → start ≡ length old.text.items → text ≡ old.text.items ++ own → new.text.items ≡ text
    → new.pieces.items ≡ closed start (length text) operand kind old.pieces.items
    → laid new ≡ put own operand kind (laid old)
unfolding laid put made
put-closed old new own text start operand kind starts grown same items =
    ap (λ (t : List ℕ). made t new.pieces.items) same
    ∙ ap (λ (xs : List Piece). made text xs) items
    ∙ ap (λ (n : ℕ). made text (closed n (length text) operand kind old.pieces.items)) starts
    ∙ ap (λ (t : List ℕ). made t (closed (length old.text.items) (length t) operand kind old.pieces.items)) grown

-- a text grows by what is appended
pub grows : (old new own : List ℕ) (most : ℕ) → new ≡ old ++ own → length own ≤ most → length new ≤ length old + most
grows old new own most e h = omega (arith, ap length e, length-append old own)

-- a place before another is not that place
pub behind : (start end : ℕ) → start < end → (end == start) ≡ false
behind start end h = ne_eqb end start (λ same. omega (arith, same, h))

pub ruleset behind_rules = (behind)

-- a text to which characters are appended ends behind where it did
pub longer : (start : ℕ) (old new own : List ℕ) → start ≡ length old → new ≡ old ++ own → 1 ≤ length own → start < length new
longer start old new own s e h = omega (arith, s, ap length e, length-append old own, h)
