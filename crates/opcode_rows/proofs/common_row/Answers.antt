use Rattle.opcode_rows.proofs.common_row.Goals as goal

pub row_at-requires : goal.row_at-requires
row_at-requires c = rw (c.list.ensures.rows) (rw c.in-Integer.is at c.requires)
