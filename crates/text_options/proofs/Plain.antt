-- With the default options and no symbols, each piece is as the printer writes it.
use Rattle.std.proofs.Common.{◌≡◌, ℕ, ◌+◌, ◌-◌, false, List, [], ◌∷◌, ◌++◌, length, None, refl, ap, ◌∙◌, arith}
use Rattle.std.specs.Prelude.{replicate, Option, codes}
use Rattle.std.proofs.lemmas.List.{append-nil}
use Rattle.x86_values.specs.declared.Bits.{Bits}
use Rattle.x86_values.specs.declared.Instr.{Instr}
use Rattle.text_parts.specs.declared.style.Style.{Style}
use Rattle.text_pieces.specs.declared.piece.Kind.{Kind}
use Rattle.text_pieces.specs.declared.piece.Kind.TheVariants.{Prefix, Mnemonic, Register, Keyword, Number as NumberKind, Operator, Punctuation, Space}
use Rattle.text_pieces.specs.declared.piece.Role.{Role}
use Rattle.text_pieces.specs.declared.piece.Role.TheVariants.{Immediate, Displacement, Scale, Target, Address, Selector, Offset}
use Rattle.text_pieces.specs.declared.piece.Number.{Number}
use Rattle.text_pieces.specs.Tokens.{Token, joined}
use Rattle.text_pieces.specs.Pieces.{pieces_of, text_of}
use Rattle.text_pieces.proofs.Whole.{pieces-text}
use Rattle.text_options.specs.declared.options.Letters.TheVariants.{Lower}
use Rattle.text_options.specs.declared.behind.Behind.{Behind}
use Rattle.text_options.specs.declared.behind.Behind.TheVariants.{Other, Name, Register as BehindRegister, Mark, SizeWord, RelativeWord}
use Rattle.text_options.specs.declared.view.View.{View}
use Rattle.text_options.specs.Answers.{Answers}
use Rattle.text_options.specs.Defaults.{default_options}
use Rattle.text_options.specs.Spelling.{is_upper, spelled}
use Rattle.text_options.specs.Views.{view_of, drops_sizes, is_size_needless, is_unsized, pointer_of, is_bare, special_in}
use Rattle.text_options.specs.Values.{digits, value, immediate, address, plain}
use Rattle.text_options.specs.Symbolic.{asked, place, resolved, noted}
use Rattle.text_options.specs.Parts.{after, gap, comma_space, unless, space_text, drops_keyword, keyword_text, piece_text, is_bare_bracket, change_of, top_name, changed_piece, comment, from_place, comments, changed}
use Rattle.text_options.specs.declared.gnu_pieces.Change.{Change}
use Rattle.text_options.specs.declared.gnu_pieces.Change.TheVariants.{Keep, Drop, One, Top, Port, Value}
use Rattle.text_options.specs.GnuFront.{port}
use Rattle.text_options.proofs.Unasked.{IsUnasked, AreUnasked, none-asked}
use Rattle.text_options.specs.Changed.{front_text, shown_instr, text_of_bytes, text_by}

-- how an instruction is written by default
abbrev pub plain_view : Style → ℕ → View
plain_view style end = record { style = style; options = default_options; drops_sizes = false; pointer = None; bare = false; special = None; end = end }

-- ---- numbers

value-of : (style : Style) (end n width : ℕ) (role : Role) (cs : List ℕ)
    → value (plain_view style end) (record { value = n; width = width; role = role }) cs ≡ cs
unfolding value immediate address plain
value-of style end n width Immediate cs = refl
value-of style end n width Displacement cs = refl
value-of style end n width Scale cs = refl
value-of style end n width Target cs = refl
value-of style end n width Address cs = refl
value-of style end n width Selector cs = refl
value-of style end n width Offset cs = refl

number-plain : (style : Style) (end : ℕ) (names : Answers) (x : Number) (cs : List ℕ) → asked names x ≡ None
    → resolved (plain_view style end) x cs (asked names x) ≡ cs
unfolding resolved
number-plain style end names x cs h =
    ap (λ o. resolved (plain_view style end) x cs o) h ∙ value-of style end x.value x.width x.role cs

-- ---- spaces and words

spelled-plain : (kind : Kind) (cs : List ℕ) → spelled Lower kind cs ≡ cs
unfolding spelled is_upper
spelled-plain Prefix cs = refl
spelled-plain Mnemonic cs = refl
spelled-plain Register cs = refl
spelled-plain Keyword cs = refl
spelled-plain (NumberKind x) cs = refl
spelled-plain Operator cs = refl
spelled-plain Punctuation cs = refl
spelled-plain Space cs = refl

no_more : (n end : ℕ) (cs : List ℕ) → n ≡ 0 → cs ++ replicate n 32 ≡ cs
no_more n end cs h = ap (λ (k : ℕ). cs ++ replicate k 32) h ∙ append-nil cs

gap-plain : (style : Style) (end at : ℕ) (cs : List ℕ) → gap (plain_view style end) at cs ≡ cs
unfolding gap
gap-plain style end at cs = no_more (0 - at) at cs (omega arith)

space-plain : (style : Style) (end at : ℕ) (behind : Behind) (cs : List ℕ) → space_text (plain_view style end) at behind cs ≡ cs
unfolding space_text comma_space unless
space-plain style end at Name cs = gap-plain style end at cs
space-plain style end at Mark cs = refl
space-plain style end at SizeWord cs = refl
space-plain style end at RelativeWord cs = refl
space-plain style end at BehindRegister cs = refl
space-plain style end at Other cs = refl

keyword-plain : (style : Style) (end : ℕ) (behind : Behind) (cs : List ℕ) → keyword_text (plain_view style end) behind cs ≡ cs
unfolding keyword_text drops_keyword unless
keyword-plain style end Name cs = spelled-plain Keyword cs
keyword-plain style end Mark cs = spelled-plain Keyword cs
keyword-plain style end SizeWord cs = spelled-plain Keyword cs
keyword-plain style end RelativeWord cs = spelled-plain Keyword cs
keyword-plain style end BehindRegister cs = spelled-plain Keyword cs
keyword-plain style end Other cs = spelled-plain Keyword cs

-- ---- pieces

piece-plain : (style : Style) (end : ℕ) (names : Answers) (at : ℕ) (behind : Behind) (kind : Kind) (cs : List ℕ) → IsUnasked names kind
    → piece_text (plain_view style end) names at behind kind cs ≡ cs
unfolding piece_text
piece-plain style end names at behind (NumberKind x) cs h = number-plain style end names x cs h
piece-plain style end names at behind Keyword cs h = keyword-plain style end behind cs
piece-plain style end names at behind Space cs h = space-plain style end at behind cs
piece-plain style end names at behind Prefix cs h = spelled-plain Prefix cs
piece-plain style end names at behind Mnemonic cs h = spelled-plain Mnemonic cs
piece-plain style end names at behind Register cs h = spelled-plain Register cs
piece-plain style end names at behind Operator cs h = spelled-plain Operator cs
piece-plain style end names at behind Punctuation cs h = spelled-plain Punctuation cs

-- no piece is changed
keep-plain : (style : Style) (end : ℕ) (behind : Behind) (operand : Option ℕ) (kind : Kind) → change_of (plain_view style end) behind operand kind ≡ Keep
unfolding change_of is_bare_bracket
keep-plain style end behind operand Prefix = refl
keep-plain style end behind operand Mnemonic = refl
keep-plain style end behind operand Register = refl
keep-plain style end behind operand Keyword = refl
keep-plain style end behind operand (NumberKind x) = refl
keep-plain style end behind operand Operator = refl
keep-plain style end behind operand Punctuation = refl
keep-plain style end behind operand Space = refl

by-change : View → Answers → ℕ → Behind → Kind → List ℕ → Change → List ℕ
by-change view names at behind kind cs change = elim change [
  | Keep ↦ piece_text view names at behind kind cs
  | Drop ↦ []
  | One ↦ codes "1"
  | Top ↦ spelled view.options.letters Register (top_name view.style)
  | Port ↦ port view.style view.options.letters
  | Value n ↦ digits view n
]

piece-kept : (style : Style) (end : ℕ) (names : Answers) (at : ℕ) (behind : Behind) (operand : Option ℕ) (kind : Kind) (cs : List ℕ) → IsUnasked names kind
    → changed_piece (plain_view style end) names at behind operand kind cs ≡ cs
unfolding changed_piece by-change
piece-kept style end names at behind operand kind cs h =
    ap (λ (change : Change). by-change (plain_view style end) names at behind kind cs change) (keep-plain style end behind operand kind)
    ∙ piece-plain style end names at behind kind cs h

comment-plain : (style : Style) (end : ℕ) (names : Answers) (kind : Kind) → comment (plain_view style end) names kind ≡ []
unfolding comment noted place
comment-plain style end names (NumberKind x) = refl
comment-plain style end names Keyword = refl
comment-plain style end names Space = refl
comment-plain style end names Prefix = refl
comment-plain style end names Mnemonic = refl
comment-plain style end names Register = refl
comment-plain style end names Operator = refl
comment-plain style end names Punctuation = refl

from-plain : (style : Style) (end : ℕ) (names : Answers) (ts : List Token) (at : ℕ) (behind : Behind) → AreUnasked names ts
    → from_place (plain_view style end) names at behind ts ≡ joined ts
unfolding from_place
from-plain style end names [] at behind h = refl
from-plain style end names (t ∷ ts) at behind h =
    ap (λ (cs : List ℕ). cs ++ from_place (plain_view style end) names (at + length t.characters) (after behind t.kind) ts)
    (piece-kept style end names (at + length t.characters) behind t.operand t.kind t.characters h.0)
    ∙ ap (λ (rest : List ℕ). t.characters ++ rest) (from-plain style end names ts (at + length t.characters) (after behind t.kind) h.1)

comments-plain : (style : Style) (end : ℕ) (names : Answers) (ts : List Token) → comments (plain_view style end) names ts ≡ []
unfolding comments
comments-plain style end names [] = refl
comments-plain style end names (t ∷ ts) =
    ap (λ (cs : List ℕ). cs ++ comments (plain_view style end) names ts) (comment-plain style end names t.kind) ∙ comments-plain style end names ts

changed-plain : (style : Style) (end : ℕ) (names : Answers) (ts : List Token) → AreUnasked names ts
    → changed (plain_view style end) names ts ≡ joined ts
unfolding changed
changed-plain style end names ts h =
    ap (λ (cs : List ℕ). cs ++ comments (plain_view style end) names ts) (from-plain style end names ts 0 Other h)
    ∙ ap (λ (cs : List ℕ). joined ts ++ cs) (comments-plain style end names ts)
    ∙ append-nil (joined ts)

-- ---- the whole text

-- the text by the default options is the printer's, if no symbol is known of a number that is asked for
pub unasked-text : (style : Style) (bits : Bits) (instr : Instr) (end : ℕ) (names : Answers) → AreUnasked names (pieces_of style bits instr)
    → text_by style default_options bits instr end names ≡ text_of style bits instr
unfolding text_by text_of_bytes front_text shown_instr view_of drops_sizes is_size_needless is_unsized pointer_of is_bare special_in
unasked-text style bits instr end names h = changed-plain style end names (pieces_of style bits instr) h ∙ pieces-text style bits instr

-- and so it is with no symbols
pub default-text : (style : Style) (bits : Bits) (instr : Instr) (end : ℕ) (names : Answers) → ((a : ℕ) → names a ≡ None)
    → text_by style default_options bits instr end names ≡ text_of style bits instr
default-text style bits instr end names h = unasked-text style bits instr end names (none-asked names (pieces_of style bits instr) h)
