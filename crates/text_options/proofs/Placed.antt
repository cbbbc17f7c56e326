-- The text of pieces that stand in a text is that of their tokens.
use Rattle.std.proofs.Common.{◌≡◌, ℕ, ◌+◌, List, [], ◌∷◌, ◌++◌, length, map, refl, ap, sym, ◌∙◌, append_assoc}
use Rattle.x86_values.specs.declared.Bits.{Bits}
use Rattle.x86_values.specs.declared.Instr.{Instr}
use Rattle.text_parts.specs.declared.style.Style.{Style}
use Rattle.text_pieces.specs.declared.piece.Piece.{Piece}
use Rattle.text_pieces.specs.Tokens.{Token, placed, characters_at}
use Rattle.text_pieces.specs.Pieces.{pieces_of, text_of}
use Rattle.text_options.specs.declared.options.Options.{Options}
use Rattle.text_options.specs.declared.behind.Behind.{Behind}
use Rattle.text_options.specs.declared.behind.Behind.TheVariants.{Other}
use Rattle.text_options.specs.declared.view.View.{View}
use Rattle.text_options.specs.Answers.{Answers}
use Rattle.text_options.specs.Views.{view_of}
use Rattle.text_options.specs.Changed.{pieces_by}
use Rattle.text_options.specs.Parts.{after, changed_piece, from_place, comment, comments, changed}
use Rattle.text_options.specs.Placed.{placed_text, placed_comments}

head-same : (x y : List ℕ) (xs ys : List (List ℕ)) → x ∷ xs ≡ y ∷ ys → x ≡ y
head-same x y xs ys e = cc

tail-same : (x y : List ℕ) (xs ys : List (List ℕ)) → x ∷ xs ≡ y ∷ ys → xs ≡ ys
tail-same x y xs ys e = cc

-- pieces that stand for their tokens' characters
pub placed-tokens : (view : View) (names : Answers) (text : List ℕ) (ts : List Token) (at : ℕ) (behind : Behind)
    → map (characters_at text) (placed at ts) ≡ map (λ t. t.characters) ts
    → placed_text view names text behind (placed at ts) ≡ from_place view names at behind ts
unfolding placed_text from_place
placed-tokens view names text [] at behind e = refl
placed-tokens view names text (t ∷ ts) at behind e =
    let end : ℕ = at + length t.characters in
    let own : characters_at text (record { start = at; end = at + length t.characters; operand = t.operand; kind = t.kind }) ≡ t.characters = head-same _ _ _ _ e in
    ap (λ (cs : List ℕ). changed_piece view names (at + length t.characters) behind t.operand t.kind cs
    ++ placed_text view names text (after behind t.kind) (placed (at + length t.characters) ts)) own
    ∙ ap (λ (rest : List ℕ). changed_piece view names (at + length t.characters) behind t.operand t.kind t.characters ++ rest)
    (placed-tokens view names text ts (at + length t.characters) (after behind t.kind) (tail-same _ _ _ _ e))

-- the comments of pieces are those of their tokens
pub placed-comments : (view : View) (names : Answers) (ts : List Token) (at : ℕ)
    → placed_comments view names (placed at ts) ≡ comments view names ts
unfolding placed_comments comments
placed-comments view names [] at = refl
placed-comments view names (t ∷ ts) at =
    ap (λ (rest : List ℕ). comment view names t.kind ++ rest) (placed-comments view names ts (at + length t.characters))

-- the pieces of an instruction's text and their comments are the text by the options
pub text-by : (style : Style) (options : Options) (bits : Bits) (instr : Instr) (end : ℕ) (names : Answers) (view : View) (text : List ℕ) (items : List Piece)
    → view ≡ view_of style options instr end → text ≡ text_of style bits instr → items ≡ placed 0 (pieces_of style bits instr)
    → map (characters_at (text_of style bits instr)) items ≡ map (λ t. t.characters) (pieces_of style bits instr)
    → placed_text view names text Other items ++ placed_comments view names items ≡ pieces_by style options bits instr end names
unfolding changed
text-by style options bits instr end names view text items v t i own =
    let ts = pieces_of style bits instr in
    let own_placed : map (characters_at (text_of style bits instr)) (placed 0 ts) ≡ map (λ t. t.characters) ts =
    sym (ap (λ (ps : List Piece). map (characters_at (text_of style bits instr)) ps) i) ∙ own in
    ap (λ (w : View). placed_text w names text Other items ++ placed_comments w names items) v
    ∙ ap (λ (cs : List ℕ). placed_text (view_of style options instr end) names cs Other items ++ placed_comments (view_of style options instr end) names items) t
    ∙ ap (λ (ps : List Piece). placed_text (view_of style options instr end) names (text_of style bits instr) Other ps ++ placed_comments (view_of style options instr end) names ps) i
    ∙ ap (λ (cs : List ℕ). cs ++ placed_comments (view_of style options instr end) names (placed 0 ts)) (placed-tokens (view_of style options instr end) names (text_of style bits instr) ts 0 Other own_placed)
    ∙ ap (λ (cs : List ℕ). from_place (view_of style options instr end) names 0 Other ts ++ cs) (placed-comments (view_of style options instr end) names ts 0)

-- what the two calls append is the text by the options
pub whole-text : (style : Style) (options : Options) (bits : Bits) (instr : Instr) (end : ℕ) (names : Answers) (view : View) (start mid done text : List ℕ) (items again : List Piece)
    → view ≡ view_of style options instr end → text ≡ text_of style bits instr → items ≡ placed 0 (pieces_of style bits instr)
    → map (characters_at (text_of style bits instr)) items ≡ map (λ t. t.characters) (pieces_of style bits instr) → again ≡ items
    → mid ≡ start ++ placed_text view names text Other items
    → done ≡ mid ++ placed_comments view names again → done ≡ start ++ pieces_by style options bits instr end names
whole-text style options bits instr end names view start mid done text items again v t i own a m d =
    d
    ∙ ap (λ (ps : List Piece). mid ++ placed_comments view names ps) a
    ∙ ap (λ (cs : List ℕ). cs ++ placed_comments view names items) m
    ∙ append_assoc start (placed_text view names text Other items) (placed_comments view names items)
    ∙ ap (λ (cs : List ℕ). start ++ cs) (text-by style options bits instr end names view text items v t i own)
