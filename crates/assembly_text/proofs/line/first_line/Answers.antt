use Rattle.std.proofs.Common.{get_or}
use Rattle.assembly_text.proofs.PlainLines.{plain_inner, inner_unended, inner_line}
use Rattle.assembly_text.proofs.line.first_line.Goals as goal

pub returns-then-byte_at-eq10-clause-lines : goal.returns-then-byte_at-eq10-clause-lines
returns-then-byte_at-eq10-clause-lines c =
    inner_line _ _ _ c.plain_len-plain.result c.byte_at.result (λ j lt. plain_inner (get_or c.args.bytes.now j 0) (c.plain_len-plain.ensures.plain j lt))
    c.byte_at.ensures c.if-byte_at-eq10.true c.cut_at.ensures.line c.cut_at.ensures.behind

pub returns-then-byte_at-eq10-2-clause-lines : goal.returns-then-byte_at-eq10-2-clause-lines
returns-then-byte_at-eq10-2-clause-lines c =
    inner_line _ _ _ c.inner_len-inner.result c.byte_at-2.result c.inner_len-inner.ensures.inner
    c.byte_at-2.ensures c.if-byte_at-eq10-2.true c.cut_at-then-byte_at-eq10-2.ensures.line c.cut_at-then-byte_at-eq10-2.ensures.behind

pub ended_line-requires-clause-unended : goal.ended_line-requires-clause-unended
ended_line-requires-clause-unended c = inner_unended c.args.bytes.now c.inner_len-inner.result c.inner_len-inner.ensures.inner
