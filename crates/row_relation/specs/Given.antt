-- What the proofs about a plain spelling share.
use Rattle.std.specs.Prelude.{◌≡◌, ℕ, ◌<◌, false, length}
use Rattle.x86_values.specs.declared.Bits.{Bits}
use Rattle.x86_values.specs.declared.Instr.{Instr}
use Rattle.instruction_parts.specs.declared.row_types.Row.{Row}
use Rattle.instruction_parts.specs.Counting.{is_64}
use Rattle.row_fit.specs.Fits.{reads_by, is_vvvv}
use Rattle.row_fit.specs.Sound.{Sound}
use Rattle.plain_spelling.specs.PlainFront.{number_in_reg, number_in_rm, number_in_index, number_in_vvvv, number_in_opcode, number_asked_of, asks_low_byte}
use Rattle.plain_spelling.specs.Addresses.{register_count}
use Rattle.plain_spelling.specs.Expressible.{Suits}
use Rattle.plain_spelling.specs.Writable.{Writable}

-- a row that has plain spellings in the mode, and an instruction of it that meets the conditions
pub record Given (bits : Bits) (ip : ℕ) (row : Row) (i : Instr) : Type 0 where
  pub is_sound : Sound row
  pub is_writable : Writable bits row
  pub suits : Suits bits ip row i
  pub four : length i.ops ≡ 4

-- the numbers that the instruction asks of the fields are numbers of the mode
pub record NumbersSuit (bits : Bits) (row : Row) (i : Instr) : Type 0 where
  pub reg : number_asked_of number_in_reg row i < register_count bits
  pub rm : number_asked_of number_in_rm row i < register_count bits
  pub index : number_asked_of number_in_index row i < register_count bits
  pub vvvv : number_asked_of number_in_vvvv row i < register_count bits
  pub opcode : number_asked_of number_in_opcode row i < register_count bits
  pub low : is_64 bits ≡ false → asks_low_byte i.ops ≡ false
  pub vvvv_unused : reads_by is_vvvv row ≡ false → number_asked_of number_in_vvvv row i ≡ 0
