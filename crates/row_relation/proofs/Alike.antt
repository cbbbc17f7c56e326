-- What two spellings of a row have alike.
use Rattle.std.specs.Prelude.{◌≡◌, length}
use Rattle.instruction_parts.specs.declared.row_types.Row.{Row}
use Rattle.instruction_parts.specs.declared.spelling.Spelling.{Spelling}
use Rattle.instruction_parts.specs.Bytes.{bytes_of}

-- two spellings are one but for the bytes of displacement and immediates, and are equally long
pub record IsAlike (row : Row) (s t : Spelling) : Type 0 where
  pub prefixes : s.prefixes.items ≡ t.prefixes.items
  pub vex : s.vex ≡ t.vex
  pub opcode : s.opcode ≡ t.opcode
  pub modrm : s.modrm ≡ t.modrm
  pub sib : s.sib ≡ t.sib
  pub disp_length : length s.disp.items ≡ length t.disp.items
  pub imm_length : length s.imm.items ≡ length t.imm.items
  pub same_length : length (bytes_of row s) ≡ length (bytes_of row t)
