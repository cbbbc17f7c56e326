-- The bytes of a plain spelling from the opcode byte on, by its parts (Intel SDM volume 2, 2.1).
use Rattle.std.specs.Prelude.{ℕ, ◌+◌, List, ◌∷◌, ◌++◌, length}
use Rattle.x86_values.specs.declared.Instr.{Instr}
use Rattle.instruction_parts.specs.declared.row_types.Row.{Row}
use Rattle.instruction_parts.specs.Bytes.{modrm_bytes, sib_bytes}
use Rattle.row_fit.specs.Fits.{immediates_bytes}
use Rattle.plain_spelling.specs.declared.parts.PlainParts.{PlainParts}
use Rattle.plain_spelling.specs.PlainTail.{address_operand, operand_displacement, displacement_of_operand, plain_immediates}

-- the opcode byte, ModRM, SIB, displacement and immediates
abbrev pub plain_tail_bytes : Row → Instr → PlainParts → List ℕ
plain_tail_bytes row i parts =
    parts.state.opcode ∷ (modrm_bytes parts.addressing.modrm ++ (sib_bytes parts.addressing.sib
    ++ (displacement_of_operand parts.next (address_operand row i) ++ plain_immediates parts.size row i parts.next)))

-- how many bytes they are at most
abbrev pub tail_count : Row → Instr → PlainParts → ℕ
tail_count row i parts =
    1 + (length (modrm_bytes parts.addressing.modrm) + (length (sib_bytes parts.addressing.sib)
    + (operand_displacement (address_operand row i) + immediates_bytes parts.size row)))
