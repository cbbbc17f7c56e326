use Rattle.unlisted.proofs.Unread.{error-reads-nothing}
use Rattle.unlisted.proofs.measuring.reads_nothing.Goals as goal

pub returns-in-Ok-clause-no : goal.returns-in-Ok-clause-no
returns-in-Ok-clause-no c = λ nothing. absurd (nothing 0 c.in-Ok.field-0 c.in-Ok.ensures.reading)

pub returns-in-Err-clause-yes : goal.returns-in-Err-clause-yes
returns-in-Err-clause-yes c = λ _. error-reads-nothing c.args.bits 0 c.args.bytes.now c.in-Err.field-0 c.in-Err.ensures.reading
