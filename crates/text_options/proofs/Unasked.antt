-- Pieces of whose numbers a resolver is not asked, or knows no symbol.
use Rattle.std.proofs.Common.{◌≡◌, ℕ, Bool, true, false, List, [], ◌∷◌, ◌++◌, None, refl}
use Rattle.std.specs.Prelude.{if◌then◌else◌}
use Rattle.std.specs.List.{filter}
use Rattle.text_pieces.specs.declared.piece.Kind.{Kind}
use Rattle.text_pieces.specs.declared.piece.Kind.TheVariants.{Prefix, Mnemonic, Register, Keyword, Number as NumberKind, Operator, Punctuation, Space}
use Rattle.text_pieces.specs.declared.piece.Role.{Role}
use Rattle.text_pieces.specs.declared.piece.Role.TheVariants.{Immediate, Displacement, Scale, Target, Address, Selector, Offset}
use Rattle.text_pieces.specs.Tokens.{Token, has_characters}
use Rattle.text_options.specs.Answers.{Answers}
use Rattle.text_options.specs.Symbolic.{asked}

-- of a piece of this kind no symbol is known
abbrev pub IsUnasked : Answers → Kind → Type 0
IsUnasked names (NumberKind x) = asked names x ≡ None
IsUnasked names _ = Unit {0}

-- of none of these pieces is one
abbrev pub AreUnasked : Answers → List Token → Type 0
AreUnasked names [] = Unit {0}
AreUnasked names (t ∷ ts) = IsUnasked names t.kind × AreUnasked names ts

role-none : (names : Answers) (n width : ℕ) (role : Role) → ((a : ℕ) → names a ≡ None)
    → asked names (record { value = n; width = width; role = role }) ≡ None
unfolding asked
role-none names n width Immediate h = refl
role-none names n width Displacement h = refl
role-none names n width Scale h = refl
role-none names n width Target h = h n
role-none names n width Address h = h n
role-none names n width Selector h = refl
role-none names n width Offset h = refl

kind-none : (names : Answers) (kind : Kind) → ((a : ℕ) → names a ≡ None) → IsUnasked names kind
kind-none names (NumberKind x) h = role-none names x.value x.width x.role h
kind-none names Prefix h = tt
kind-none names Mnemonic h = tt
kind-none names Register h = tt
kind-none names Keyword h = tt
kind-none names Operator h = tt
kind-none names Punctuation h = tt
kind-none names Space h = tt

-- where no symbol is known, none is known of a piece
pub none-asked : (names : Answers) (ts : List Token) → ((a : ℕ) → names a ≡ None) → AreUnasked names ts
none-asked names [] h = tt
none-asked names (t ∷ ts) h = (kind-none names t.kind h, none-asked names ts h)

-- two lists of pieces make one
pub unasked-append : (names : Answers) (xs ys : List Token) → AreUnasked names xs → AreUnasked names ys → AreUnasked names (xs ++ ys)
unasked-append names [] ys h k = k
unasked-append names (t ∷ ts) ys h k = (h.0, unasked-append names ts ys h.1 k)

unasked-keep : (names : Answers) (b : Bool) (t : Token) (ts : List Token) → IsUnasked names t.kind → AreUnasked names ts → AreUnasked names (if b then t ∷ ts else ts)
unasked-keep names true t ts h k = (h, k)
unasked-keep names false t ts h k = k

-- and those that have characters
pub unasked-full : (names : Answers) (ts : List Token) → AreUnasked names ts → AreUnasked names (filter has_characters ts)
unasked-full names [] h = tt
unasked-full names (t ∷ ts) h = unasked-keep names (has_characters t) t (filter has_characters ts) h.0 (unasked-full names ts h.1)

-- pieces that stand where a condition holds, and others where it does not
pub unasked-if : (names : Answers) (b : Bool) (xs ys : List Token) → AreUnasked names xs → AreUnasked names ys → AreUnasked names (if b then xs else ys)
unasked-if names true xs ys h k = h
unasked-if names false xs ys h k = k
