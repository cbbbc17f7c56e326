-- Texts that were read before by a part of what is asked of a line.
use Rattle.std.specs.Prelude.{ℕ, List, slice_index_or, Option, Some, None}
use Rattle.x86_values.specs.declared.Bits.{Bits}
use Rattle.x86_values.specs.declared.Instr.{Instr}
use Rattle.intel_reader.specs.Assembled.{IsAssembled as IsReadAs, IsNoText}
use Rattle.assembly_text.specs.declared.code.Code.{Code}
use Rattle.assembly_text.specs.declared.kept.KeptText.{KeptText}
use Rattle.assembly_text.specs.declared.kept.SpelledText.{SpelledText}
use Rattle.assembly_text.specs.Statements.{statement_of}
use Rattle.assembly_text.specs.Readings.{IsSpelledCode}

-- At the address 0 `asm` reads this instruction in a text, or none.
abbrev pub IsReadAtZero : Bits → List ℕ → Option Instr → Type 0
IsReadAtZero bits text None = IsNoText bits 0 text
IsReadAtZero bits text (Some i) = IsReadAs bits 0 text i

-- at a place stands nothing, or a text with what is read in it
abbrev pub IsKept : Bits → Option KeptText → Type 0
IsKept bits None = Unit {0}
IsKept bits (Some line) = IsReadAtZero bits line.text.items line.found

-- what is read in each text is kept with it
abbrev pub AreKept : Bits → List (Option KeptText) → Type 0
AreKept bits texts = (k : ℕ) → IsKept bits (slice_index_or texts k None)

-- what a text in lower case stands for as people write it
pub record IsSpelled (bits : Bits) (base : ℕ) (low : List ℕ) (code : Code) : Type 0 where
  pub is : IsSpelledCode bits base low (statement_of low) code

-- at a place stands nothing, or a text in lower case with what it stands for
abbrev pub IsSpelledText : Bits → ℕ → Option SpelledText → Type 0
IsSpelledText bits base None = Unit {0}
IsSpelledText bits base (Some line) = IsSpelled bits base line.text.items line.code

-- what each text in lower case stands for is kept with it
abbrev pub AreSpelled : Bits → ℕ → List (Option SpelledText) → Type 0
AreSpelled bits base spelled = (k : ℕ) → IsSpelledText bits base (slice_index_or spelled k None)

-- both are kept
pub record AreAllKept (bits : Bits) (base : ℕ) (texts : List (Option KeptText)) (spelled : List (Option SpelledText)) : Type 0 where
  pub at_zero : AreKept bits texts
  pub in_lower_case : AreSpelled bits base spelled
