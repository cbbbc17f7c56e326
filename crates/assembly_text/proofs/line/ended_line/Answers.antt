use Rattle.assembly_text.proofs.Cutting.{cut_line, cut_end}
use Rattle.assembly_text.proofs.line.ended_line.Goals as goal

pub returns-then-bytes-at-eq10-clause-lines : goal.returns-then-bytes-at-eq10-clause-lines
returns-then-bytes-at-eq10-clause-lines c =
    cut_line _ _ _ _ c.loop-at.at c.loop-at-test.true c.loop-at.invariant c.if-bytes-at-eq10.true c.split_at.ensures.front c.split_at.ensures.back
    c.split_at-then-bytes-at-eq10.ensures.back

pub returns-clause-lines : goal.returns-clause-lines
returns-clause-lines c =
    cut_end _ _ _ c.loop-at.at c.requires.some c.loop-at.invariant c.loop-at-test.false c.split_at-2.ensures.front c.split_at-2.ensures.back
