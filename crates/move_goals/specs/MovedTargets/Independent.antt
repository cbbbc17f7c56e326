-- Bytes that do not depend on where they stand: the plain spelling of an instruction without a target.
use Rattle.std.specs.Prelude.{◌≡◌, ℕ, ◌≤◌, List, [], length, Option, Some, None, Result, Ok, Err}
use Rattle.x86_values.specs.declared.Bits.{Bits}
use Rattle.x86_values.specs.declared.Instr.{Instr}
use Rattle.plain_spelling.specs.declared.NoSpelling.{NoSpelling}
use Rattle.encoder.specs.Encoding.{encoding}
use Rattle.move_goals.specs.MovedTargets.Targets.{target_of}

-- the bytes of an encoding, none where it was refused
abbrev pub bytes_in : Result (List ℕ) NoSpelling → List ℕ
bytes_in (Ok bytes) = bytes
bytes_in (Err why) = []

-- those of what has no target, none of what has one
abbrev pub bytes_without : Option ℕ → Result (List ℕ) NoSpelling → List ℕ
bytes_without None e = bytes_in e
bytes_without (Some t) e = []

-- the bytes of an instruction without a target, none where it has one or no plain spelling
unfoldable pub independent_bytes : Bits → Instr → List ℕ
independent_bytes bits i = bytes_without (target_of i) (encoding bits 0 i)

-- the instruction has no target, and these bytes, at most 15, as its encoding at every address
pub record IsIndependent (bits : Bits) (i : Instr) (bytes : List ℕ) : Type 0 where
  pub untargeted : target_of i ≡ None
  pub few : length bytes ≤ 15
  pub encoded : (ip : ℕ) → encoding bits ip i ≡ Ok bytes
