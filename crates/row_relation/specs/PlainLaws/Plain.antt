-- What is plainly spelled, over any table of rows.
use Rattle.std.specs.Prelude.{◌≡◌, ℕ, ◌≤◌, Bool, true, false, ◌||◌, List, length, Option, Some, None, slice_get, IsTrue}
use Rattle.x86_values.specs.declared.Bits.{Bits}
use Rattle.x86_values.specs.declared.Mem.{Mem}
use Rattle.x86_values.specs.declared.Operand.{Operand}
use Rattle.x86_values.specs.declared.Operand.TheVariants.{Mem as MemOperand, Near}
use Rattle.x86_values.specs.declared.Instr.{Instr}
use Rattle.instruction_parts.specs.declared.row_types.Row.{Row}
use Rattle.instruction_parts.specs.declared.spelling.Spelling.{Spelling}
use Rattle.instruction_parts.specs.Bytes.{bytes_of}
use Rattle.row_fit.specs.Fits.{fits}
use Rattle.row_fit.specs.Sound.{sound}
use Rattle.row_meaning.specs.Meaning.{meaning}
use Rattle.plain_spelling.specs.Forms.{operand_at}
use Rattle.plain_spelling.specs.declared.addresses.AddressForm.TheVariants.{Relative}
use Rattle.plain_spelling.specs.Addresses.{form_of}
use Rattle.plain_spelling.specs.Writable.{writable}
use Rattle.row_relation.specs.IsPlain.{IsPlain}

-- the bytes are those of a plain spelling of the instruction at an address: it fits the row of the code, is plain, means the instruction
-- there, and has at most 15 bytes (2.3.11)
pub record IsPlainlySpelled (table : List Row) (bits : Bits) (ip : ℕ) (bytes : List ℕ) (i : Instr) : Type 0 where
  pub row : Row
  pub row_is : slice_get table i.code.0 ≡ Some row
  pub spelling : Spelling
  pub bytes_are : bytes ≡ bytes_of row spelling
  pub fitting : IsTrue (fits bits row spelling)
  pub plain : IsPlain bits ip row spelling
  pub means : meaning bits ip i.code row spelling ≡ i
  pub is_short : length bytes ≤ 15

-- each row of a table is sound and has plain spellings
pub record IsWritable (table : List Row) : Type 0 where
  pub is_sound : (code : ℕ) (row : Row) → slice_get table code ≡ Some row → IsTrue (sound row)
  pub is_writable : (code : ℕ) (row : Row) → slice_get table code ≡ Some row → IsTrue (writable row)

-- the operand is a near target, or an address at RIP or EIP: what it means rests on the length of its spelling (2.2.1.6; CALL, JMP, Jcc)
unfoldable pub is_target : Operand → Bool
is_target (Near target) = true
is_target (MemOperand m) = elim (form_of m.base m.index) [ Relative size ↦ true | _ ↦ false ]
is_target _ = false

-- some operand is one
unfoldable pub has_target : Instr → Bool
has_target i = is_target (operand_at i 0) || (is_target (operand_at i 1) || (is_target (operand_at i 2) || is_target (operand_at i 3)))
