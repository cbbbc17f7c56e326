use Rattle.std.proofs.Common.{refl, arith}
use Rattle.std.proofs.lemmas.Bool.{false≢true}
use Rattle.branch_sizes.specs.Tables.{plan_in}
use Rattle.branch_sizes.proofs.Growing.{grows_none}
use Rattle.branch_sizes.proofs.worklist.grow_and_note.Goals as goal

pub returns-then-k-tables-clause-grows : goal.returns-then-k-tables-clause-grows
returns-then-k-tables-clause-grows c = grows_none (plan_in c.args.tables.now) c.args.layout.now c.requires.layout

pub returns-then-k-tables-clause-less : goal.returns-then-k-tables-clause-less
returns-then-k-tables-clause-less c = λ grew. absurd (false≢true grew)

pub returns-then-k-tables-clause-closed : goal.returns-then-k-tables-clause-closed
returns-then-k-tables-clause-closed c = λ idle below. absurd (omega (arith, below, c.if-k-tables.true))

pub returns-in_err-note-in-Some-clause-grows : goal.returns-in_err-note-in-Some-clause-grows
returns-in_err-note-in-Some-clause-grows c = c.grow_item.ensures.grows

pub returns-in-None-clause-grows : goal.returns-in-None-clause-grows
returns-in-None-clause-grows c = c.grow_item.ensures.grows

pub returns-in-None-clause-less : goal.returns-in-None-clause-less
returns-in-None-clause-less c = λ grew. absurd (false≢true grew)

pub returns-in_ok-note-in-Some-clause-grows : goal.returns-in_ok-note-in-Some-clause-grows
returns-in_ok-note-in-Some-clause-grows c = c.grow_item.ensures.grows

pub returns-in_ok-note-in-Some-clause-closed : goal.returns-in_ok-note-in-Some-clause-closed
returns-in_ok-note-in-Some-clause-closed c = λ idle below. absurd (idle refl)

pub returns-in_ok-note-in-Some-clause-idle : goal.returns-in_ok-note-in-Some-clause-idle
returns-in_ok-note-in-Some-clause-idle c = λ idle. absurd (idle refl)
