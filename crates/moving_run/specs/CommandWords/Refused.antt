-- Which word a refused command line is refused at.
use Rattle.std.specs.Prelude.{◌≡◌, ◌⊎◌, ℕ, suc, ◌+◌, ◌^◌, ◌<◌, IsTrue, List, [], ◌∷◌, ◌++◌, length, take, codes, Some}
use Rattle.x86_values.specs.declared.Bits.{Bits}
use Rattle.x86_values.specs.Wrapping.{width}
use Rattle.moving_run.specs.declared.command_words.commands.Command.TheVariants.{Wrong}
use Rattle.moving_run.specs.CommandWords.Words.{same_text, mode_named, number_word, address_within, command_of}

-- the words are an allowed command line
abbrev pub AreAllowed : List (List ℕ) → Type 0
AreAllowed words = (word : ℕ) → command_of words ≡ Wrong word → ⊥

-- the words are the first of an allowed command line, or all of one
abbrev pub BeginAllowed : List (List ℕ) → Type 0
BeginAllowed words = (more : List (List ℕ)) × AreAllowed (words ++ more)

-- The words before the one of this number, counted from 1, begin an allowed command line, and those up to it begin none; or the line ends before it,
-- and is not allowed.
pub record IsFirstWrong (words : List (List ℕ)) (word : ℕ) : Type 0 where
  pub before : ℕ
  pub word_is : word ≡ suc before
  pub begin : BeginAllowed (take before words)
  pub wrong : ((before < length words) × (BeginAllowed (take (suc before) words) → ⊥)) ⊎ ((before ≡ length words) × (AreAllowed words → ⊥))

-- The words begin `slots BITS OLD REGION` with words that are allowed, but behind REGION there are fewer than 16 bytes in the address space: so there
-- is no SIZE that is allowed, and it is SIZE that is refused.
abbrev pub HasNoRoom : List (List ℕ) → Type 0
HasNoRoom (name ∷ mode ∷ old ∷ region ∷ words) =
    IsTrue (same_text name (codes "slots"))
    × ((bits : Bits) × ((mode_named mode ≡ Some bits)
    × ((start : ℕ) × ((address_within bits (number_word old) ≡ Some start)
    × ((base : ℕ) × ((address_within bits (number_word region) ≡ Some base) × (2 ^ width bits < base + 16)))))))
HasNoRoom _ = ⊥
