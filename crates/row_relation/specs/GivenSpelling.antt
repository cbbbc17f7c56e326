-- What the proofs about a fitting spelling share.
use Rattle.std.specs.Prelude.{◌≡◌, ℕ}
use Rattle.x86_values.specs.declared.Bits.{Bits}
use Rattle.x86_values.specs.declared.Code.{Code}
use Rattle.x86_values.specs.declared.Instr.{Instr}
use Rattle.instruction_parts.specs.declared.row_types.Row.{Row}
use Rattle.instruction_parts.specs.declared.spelling.Spelling.{Spelling}
use Rattle.row_fit.specs.Fits.{Fits}
use Rattle.row_fit.specs.Sound.{Sound}
use Rattle.row_meaning.specs.Meaning.{meaning}
use Rattle.plain_spelling.specs.Writable.{Writable}

-- a row that has plain spellings in the mode, a spelling of it that fits, and what it means at an address of the mode
pub record Given (bits : Bits) (ip : ℕ) (code : Code) (row : Row) (s : Spelling) (i : Instr) : Type 0 where
  pub is_sound : Sound row
  pub is_writable : Writable bits row
  pub fitting : Fits bits row s
  pub means : meaning bits ip code row s ≡ i
