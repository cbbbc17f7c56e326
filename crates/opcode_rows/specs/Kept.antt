-- That the opcode bytes of a row are taken as opcode bytes (Intel SDM volume 2, 2.1.1 and 2.1.2).
use Rattle.std.specs.Prelude.{Bool, ◌||◌, not}
use Rattle.std.specs.List.{list_all}
use Rattle.x86_values.specs.declared.Bits.{Bits}
use Rattle.instruction_parts.specs.declared.row_types.Row.{Row}
use Rattle.instruction_parts.specs.Sizes.{exists_in, is_vex_row}
use Rattle.row_fit.specs.Fits.{is_opcode}
use Rattle.row_fit.specs.Sound.{opcodes_of}

-- the row is a VEX row, or does not exist in the mode, or each of its opcode bytes can stand in its map there
unfoldable pub opcodes_are_kept : Bits → Row → Bool
opcodes_are_kept bits row = is_vex_row row || (not (exists_in bits row) || list_all (is_opcode bits row.map) (opcodes_of row))
