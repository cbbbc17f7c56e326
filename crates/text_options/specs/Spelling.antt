-- Letters in upper case.
use Rattle.std.specs.Prelude.{ℕ, ◌-◌, Bool, true, false, nat_lt, nat_le, if◌then◌else◌, List, map}
use Rattle.text_pieces.specs.declared.piece.Kind.{Kind}
use Rattle.text_pieces.specs.declared.piece.Kind.TheVariants.{Prefix, Mnemonic, Register, Keyword}
use Rattle.text_options.specs.declared.options.Letters.{Letters}
use Rattle.text_options.specs.declared.options.Letters.TheVariants.{UpperNames, UpperRegisters, UpperKeywords, Upper}

-- a small letter up to a last one as its capital, and any other code as it is
unfoldable pub capital : ℕ → ℕ → ℕ
capital last c = if nat_lt c 97 then c else (if nat_le c last then c - 32 else c)

-- small letters up to a last one as their capitals
abbrev pub capitals : ℕ → List ℕ → List ℕ
capitals last cs = map (λ c. capital last c) cs

-- the code of z, the last letter
abbrev pub last_letter : ℕ
last_letter = 122

-- the code of f, the last hexadecimal digit
abbrev pub last_digit : ℕ
last_digit = 102

-- a piece of this kind is in upper case
unfoldable pub is_upper : Letters → Kind → Bool
is_upper UpperNames Prefix = true
is_upper UpperNames Mnemonic = true
is_upper UpperRegisters Register = true
is_upper UpperKeywords Keyword = true
is_upper Upper Prefix = true
is_upper Upper Mnemonic = true
is_upper Upper Register = true
is_upper Upper Keyword = true
is_upper _ _ = false

-- the characters of a piece of this kind
unfoldable pub spelled : Letters → Kind → List ℕ → List ℕ
spelled letters kind cs = if is_upper letters kind then capitals last_letter cs else cs
