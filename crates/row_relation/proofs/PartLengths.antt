-- The length of a spelling by its parts.
use Rattle.std.proofs.Common.{◌≡◌, ◌+◌, ◌∷◌, ◌++◌, length, Option, Some, None, refl, arith, length-append, is_some}
use Rattle.instruction_parts.specs.declared.row_types.Row.{Row}
use Rattle.instruction_parts.specs.declared.spelling.ModRm.{ModRm}
use Rattle.instruction_parts.specs.declared.spelling.Sib.{Sib}
use Rattle.instruction_parts.specs.declared.spelling.Spelling.{Spelling}
use Rattle.instruction_parts.specs.Bytes.{bytes_of, front_bytes, tail_bytes, modrm_bytes, sib_bytes}
use Rattle.plain_spelling.specs.PlainTail.{byte_count}

-- a ModRM is one byte
pub modrm_count : (m : Option ModRm) → length (modrm_bytes m) ≡ byte_count (is_some m)
modrm_count None = refl
modrm_count (Some m) = refl

-- a SIB is one byte, if there is one
pub sib_count : (s : Option Sib) → length (sib_bytes s) ≡ byte_count (is_some s)
sib_count None = refl
sib_count (Some s) = refl

-- a spelling is as long as its parts
pub parts_length : (row : Row) (s : Spelling) → length (bytes_of row s) ≡ length (front_bytes row s) + (1 + (length (modrm_bytes s.modrm) + (length (sib_bytes s.sib) + (length s.disp.items + length s.imm.items))))
unfolding bytes_of tail_bytes
parts_length row s =
    simp length-append (omega (arith, length-append (front_bytes row s) (s.opcode ∷ (modrm_bytes s.modrm ++ (sib_bytes s.sib ++ (s.disp.items ++ s.imm.items))))))
