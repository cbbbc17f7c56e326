-- Pieces of text between separators.
use Rattle.std.specs.Prelude.{ℕ, ◌+◌, Bool, ◌&&◌, ◌==◌, nat_le, if◌then◌else◌, List, [], ◌∷◌, take, map}

-- how many bytes stand before the first separator
unfoldable pub front_len : List ℕ → ℕ → ℕ
front_len [] separator = 0
front_len (c ∷ text) separator = if c == separator then 0 else 1 + front_len text separator

-- the bytes before the first separator
abbrev pub text_front : List ℕ → ℕ → List ℕ
text_front text separator = take (front_len text separator) text

-- the bytes behind the first separator, none where there is none
unfoldable pub text_behind : List ℕ → ℕ → List ℕ
text_behind [] separator = []
text_behind (c ∷ text) separator = if c == separator then text else text_behind text separator

-- how many separators there are
unfoldable pub separators : List ℕ → ℕ → ℕ
separators [] separator = 0
separators (c ∷ text) separator = if c == separator then 1 + separators text separator else separators text separator

-- some names, or these where there are none
abbrev pub or_names : List ℕ → List ℕ → List ℕ
or_names [] names = names
or_names (c ∷ others) names = c ∷ others

-- the names behind the first of some names, or the same where it is the only one left
abbrev pub next_names : List ℕ → List ℕ
next_names names = or_names (text_behind names 124) names

-- a capital letter made small
abbrev pub small_letter : ℕ → ℕ
small_letter c = if nat_le 65 c && nat_le c 90 then c + 32 else c

-- the text with small letters
abbrev pub in_small_letters : List ℕ → List ℕ
in_small_letters text = map small_letter text
