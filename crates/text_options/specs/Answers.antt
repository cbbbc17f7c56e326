-- What a resolver answers.
use Rattle.std.specs.Prelude.{ℕ, List, Option}
use Rattle.text_options.specs.declared.symbols.Symbol.{Symbol}

-- the name of a symbol, and how far an address stands behind its start
pub record Answer : Type 0 where
  pub name : List ℕ
  pub offset : ℕ

-- the answers of a resolver, by address
abbrev pub Answers : Type 0
Answers = ℕ → Option Answer

-- a symbol as an answer
abbrev pub answer : Symbol → Answer
answer s = record { name = s.name.now; offset = s.offset }
