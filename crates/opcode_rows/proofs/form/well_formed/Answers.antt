use Rattle.std.proofs.Common.{arith, sym, ◌∙◌}
use Rattle.opcode_rows.proofs.Formed.{well_formed-at, well_formed-past}
use Rattle.opcode_rows.proofs.form.well_formed.Goals as goal

pub returns-then-instr-lt-ROWS : goal.returns-then-instr-lt-ROWS
returns-then-instr-lt-ROWS c = c.is_formed.ensures ∙ sym (well_formed-at c.args.instr.now c.row_at.result c.row_at.ensures)

pub returns-else-instr-lt-ROWS : goal.returns-else-instr-lt-ROWS
returns-else-instr-lt-ROWS c = sym (well_formed-past c.args.instr.now (omega (arith, c.if-instr-lt-ROWS.false)))
