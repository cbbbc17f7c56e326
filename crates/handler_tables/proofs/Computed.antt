-- What is computed of the nested tables.
use Rattle.std.proofs.Common.{◌≡◌, true, refl}
use Rattle.instruction_parts.specs.RowFields.Candidates.{rows_with_codes, of_number, at_opcode, cands, mask_at, clear, keep, is_empty, is_free, all_free, is_one, below}
use Rattle.instruction_parts.specs.Sizes.{exists_in}
use Rattle.instruction_parts.specs.RowFields.Holds.{prefix_holds, w_holds, rex_b_holds}
use Rattle.instruction_parts.specs.RowFields.Masks.{nth, allows, meets, two, three, four, reg_mask, rm_mask, marked_size, size_mask, masks}
use Rattle.x86_values.specs.Modes.{size_number}
use Rattle.opcode_rows.specs.Parts.{integer_rows, integer_flat, x87_rows, x87_flat, sse_rows, sse_flat, vex_rows, vex_flat}
use Rattle.opcode_rows.specs.Table.{spots, rows_in, table}
use Rattle.handler_tables.specs.Nodes.{nodes2, nodes3, nodes4, nodes8, nodes256, splits2, splits3, splits4, splits8}
use Rattle.handler_tables.proofs.Tree.{mask_of, entry_ok, each_ok, split_ok, node_ok, ok, get_in, under, both_ok, root_entry, mode_ok, cell_ok, kind_ok, tables_ok}

-- the nested tables pass the computed test over the table
pub tables_fit : tables_ok table ≡ true
unfolding prefix_holds w_holds rex_b_holds exists_in nth allows meets two three four reg_mask rm_mask marked_size size_mask masks size_number rows_with_codes of_number at_opcode cands mask_at clear keep is_empty is_free all_free is_one below table rows_in spots integer_rows integer_flat x87_rows x87_flat sse_rows sse_flat vex_rows vex_flat nodes2 nodes3 nodes4 nodes8 nodes256 splits2 splits3 splits4 splits8 mask_of entry_ok each_ok split_ok node_ok ok get_in under both_ok root_entry mode_ok cell_ok kind_ok tables_ok
tables_fit = refl
