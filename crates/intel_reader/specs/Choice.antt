-- What is kept while the candidates of a text are gone over: the first of those so far.
use Rattle.std.specs.Prelude.{◌≡◌, ℕ, false, List, Option, Some, None}
use Rattle.std.specs.Ordering.{is_gt}
use Rattle.x86_values.specs.declared.Bits.{Bits}
use Rattle.intel_reader.specs.Assembled.{Assembly, compare_assemblies, IsCandidate}
use Rattle.intel_reader.specs.declared.choice.Found.{Found}

-- the instruction and its bytes
abbrev pub assembly_of : Found → Assembly
assembly_of f = record { instr = f.instr; bytes = f.bytes.items }

-- what was found is no later than this
abbrev pub LeadsChoice : Option Found → Assembly → Type 0
LeadsChoice None b = ⊥
LeadsChoice (Some f) b = is_gt (compare_assemblies (assembly_of f) b) ≡ false

-- what was found is a candidate
abbrev pub IsHeld : Bits → ℕ → List ℕ → Option Found → Type 0
IsHeld bits ip text None = Unit {0}
IsHeld bits ip text (Some f) = IsCandidate bits ip text (assembly_of f)

-- a later state of what was found: still a candidate, and no later than the earlier
pub record IsProgress (bits : Bits) (ip : ℕ) (text : List ℕ) (old new : Option Found) : Type 0 where
  pub held : IsHeld bits ip text old → IsHeld bits ip text new
  pub kept : (b : Assembly) → LeadsChoice old b → LeadsChoice new b
