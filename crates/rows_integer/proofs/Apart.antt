-- No two rows of a cell hold on the same fields.
use Rattle.std.proofs.Common.{◌≡◌, true, refl, ◌<◌}
use Rattle.instruction_parts.specs.RowFields.Candidates.{rows_with_codes, of_number, at_opcode, cands, below}
use Rattle.x86_values.specs.declared.Bits.{Bits}
use Rattle.instruction_parts.specs.Sizes.{exists_in}
use Rattle.instruction_parts.specs.declared.row_fields.Fields.{Fields}
use Rattle.instruction_parts.specs.RowFields.Holds.{RowsAreApart, prefix_holds, w_holds, rex_b_holds}
use Rattle.instruction_parts.proofs.RowFields.Holding.{apart}
use Rattle.instruction_parts.specs.RowFields.Masks.{nth, allows, meets, two, three, four, reg_mask, rm_mask, marked_size, size_mask, masks}
use Rattle.instruction_parts.proofs.RowFields.Apart.{disjoint, mask_apart, masks_apart, apart_from, all_apart, cell_apart, kind_apart, table_apart, at_most_one}
use Rattle.rows_integer.specs.Table.{flat_rows, table}

is_apart : table_apart table ≡ true
unfolding prefix_holds w_holds rex_b_holds exists_in nth allows meets two three four reg_mask rm_mask marked_size size_mask masks rows_with_codes of_number at_opcode cands below disjoint mask_apart masks_apart apart_from all_apart cell_apart kind_apart table_apart table flat_rows
is_apart = refl

-- in each mode, two of these rows whose conditions hold on the same fields are one row
pub rows_apart : (bits : Bits) (f : Fields) → f.opcode < 256 → RowsAreApart bits table f
rows_apart bits f lt = apart bits table f (at_most_one table is_apart bits f lt)
