use Rattle.assembly_text.specs.Placing.{view_of}
use Rattle.assembly_text.proofs.Telling.{line_told}
use Rattle.assembly_text.proofs.text.add_line.Goals as goal

pub returns-in-None-clause-told : goal.returns-in-None-clause-told
returns-in-None-clause-told c =
    line_told (view_of c.args.round.now) c.args.line.now c.args.parts.now.shown.now c.args.parts.now.body.now _ _ _ _ _ c.add_body.result
    c.requires.shown c.requires.body (rw c.in-None.is at c.in_ok-refused.ensures) c.add_body.ensures.told
