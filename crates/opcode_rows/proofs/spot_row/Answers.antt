use Rattle.opcode_rows.proofs.spot_row.Goals as goal

pub row_at-requires : goal.row_at-requires
row_at-requires c = rw (c.list.ensures.rows) (rw c.in-Integer.is at c.requires)

pub row_at-requires-in-X87 : goal.row_at-requires-in-X87
row_at-requires-in-X87 c = rw (c.list-in-X87.ensures.rows) (rw c.in-X87.is at c.requires)

pub row_at-requires-in-Sse : goal.row_at-requires-in-Sse
row_at-requires-in-Sse c = rw (c.list-in-Sse.ensures.rows) (rw c.in-Sse.is at c.requires)

pub row_at-requires-in-Vex : goal.row_at-requires-in-Vex
row_at-requires-in-Vex c = rw (c.list-in-Vex.ensures.rows) (rw c.in-Vex.is at c.requires)
