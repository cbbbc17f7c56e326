use Rattle.std.proofs.Common.{sym, ◌∙◌}
use Rattle.assembly_text.specs.Placing.{view_of}
use Rattle.assembly_text.proofs.Spelling.{closed_refused}
use Rattle.assembly_text.proofs.text.add_closed.Goals as goal

pub returns-then-is_nothing : goal.returns-then-is_nothing
returns-then-is_nothing c =
    closed_refused (view_of c.args.round.now) c.bits.result c.args.body.now c.args.routine.now c.args.read.now.code c.in_ok-why.why
    c.bits.ensures (sym c.is_nothing.ensures ∙ c.if-is_nothing.true) c.in_ok-why.ensures
