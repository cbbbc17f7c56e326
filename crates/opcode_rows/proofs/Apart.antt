-- No two rows of a cell hold on the same fields.
use Rattle.std.proofs.Common.{◌≡◌, true, refl, ◌<◌}
use Rattle.instruction_parts.specs.RowFields.Candidates.{rows_with_codes, of_number, at_opcode, cands, below}
use Rattle.x86_values.specs.declared.Bits.{Bits}
use Rattle.instruction_parts.specs.Sizes.{exists_in}
use Rattle.instruction_parts.specs.declared.row_fields.Fields.{Fields}
use Rattle.instruction_parts.specs.RowFields.Holds.{RowsAreApart, prefix_holds, w_holds, rex_b_holds}
use Rattle.instruction_parts.proofs.RowFields.Holding.{apart}
use Rattle.instruction_parts.specs.RowFields.Masks.{nth, allows, meets, two, three, four, reg_mask, rm_mask, marked_size, size_mask, masks}
use Rattle.instruction_parts.proofs.RowFields.Apart.{disjoint, mask_apart, masks_apart, apart_from, all_apart, cell_apart, at_most_one}
use Rattle.opcode_rows.proofs.Blocks.{each_of_256, each_of_16, near_rows, apart_by_16, apart-by_16}
use Rattle.opcode_rows.specs.Parts.{integer_rows, integer_flat, x87_rows, x87_flat, sse_rows, sse_flat, vex_rows, vex_flat}
use Rattle.opcode_rows.specs.Table.{spots, table}
use Rattle.opcode_rows.proofs.Woven.{woven, woven_table, by_walk}

is_apart : apart_by_16 woven_table ≡ true
unfolding apart_by_16 each_of_256 each_of_16 near_rows prefix_holds w_holds rex_b_holds exists_in nth allows meets two three four reg_mask rm_mask marked_size size_mask masks rows_with_codes of_number at_opcode cands below disjoint mask_apart masks_apart apart_from all_apart cell_apart woven_table woven spots integer_rows integer_flat x87_rows x87_flat sse_rows sse_flat vex_rows vex_flat
is_apart = refl

-- in each mode, two rows of the table whose conditions hold on the same fields are one row
pub rows_apart : (bits : Bits) (f : Fields) → f.opcode < 256 → RowsAreApart bits table f
rows_apart bits f lt = apart bits table f (at_most_one table (apart-by_16 table (by_walk apart_by_16 is_apart)) bits f lt)
