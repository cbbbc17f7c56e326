-- The first word of the marks, then the others.
use Rattle.std.proofs.Common.{rules, sym, arith}
use Rattle.row_entries.proofs.Marks.{marks_none, marks_first}
use Rattle.row_entries.proofs.entry.+with_marks.Goals as goal

pub returns-in_err-mark-in_default : goal.returns-in_err-mark-in_default
returns-in_err-mark-in_default t c = rw (marks_first c.args.e c.args.text.now (omega arith)) (search rules)

pub returns-in_err-e-in_default : goal.returns-in_err-e-in_default
returns-in_err-e-in_default t c = rw (marks_first c.args.e c.args.text.now (omega arith)) (search rules)

pub returns-in-empty : goal.returns-in-empty
returns-in-empty t c = sym (marks_none c.args.e c.args.text.now (omega arith))

pub returns-in_ok-e-in_default : goal.returns-in_ok-e-in_default
returns-in_ok-e-in_default t c = rw (marks_first c.args.e c.args.text.now (omega arith)) (search rules)
