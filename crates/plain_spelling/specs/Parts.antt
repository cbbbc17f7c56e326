-- What the parts of a plain spelling are.
use Rattle.std.specs.Prelude.{◌≡◌}
use Rattle.x86_values.specs.declared.Bits.{Bits}
use Rattle.x86_values.specs.declared.Instr.{Instr}
use Rattle.instruction_parts.specs.declared.row_types.Row.{Row}
use Rattle.plain_spelling.specs.declared.parts.PlainParts.{PlainParts}
use Rattle.row_fit.specs.Fits.{immediates_bytes}
use Rattle.plain_spelling.specs.PlainFront.{byte_front}
use Rattle.plain_spelling.specs.PlainTail.{address_operand, operand_displacement, plain_size, plain_modrm, plain_sib_of, plain_len, plain_next}

-- these are the parts of the plain spelling of an instruction of the row at their address
pub record ArePartsOf (bits : Bits) (row : Row) (i : Instr) (parts : PlainParts) : Type 0 where
  pub state : parts.state ≡ byte_front bits row i
  pub modrm : parts.addressing.modrm ≡ plain_modrm bits row i
  pub sib : parts.addressing.sib ≡ plain_sib_of bits row i
  pub size : parts.size ≡ plain_size bits row
  pub displacement : parts.displacement ≡ operand_displacement (address_operand row i)
  pub immediates : parts.immediates ≡ immediates_bytes (plain_size bits row) row
  pub len : parts.len ≡ plain_len bits row i
  pub next : parts.next ≡ plain_next bits parts.ip row i
