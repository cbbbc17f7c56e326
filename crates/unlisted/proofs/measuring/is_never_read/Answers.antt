use Rattle.unlisted.proofs.Unread.{short-answer, invalid-answer}
use Rattle.unlisted.proofs.measuring.is_never_read.Goals as goal

pub returns-in-Ok-clause-no : goal.returns-in-Ok-clause-no
returns-in-Ok-clause-no c = λ never. absurd ((never 0).spells_nothing c.in-Ok.field-0.instr c.in-Ok.field-0.len c.in-Ok.ensures.reading)

pub returns-in-Err-TooShort-clause-no : goal.returns-in-Err-TooShort-clause-no
returns-in-Err-TooShort-clause-no c = λ never.
    absurd (short-answer c.args.bits 0 c.args.bytes.now c.in-Err-TooShort.field-0 c.in-Err-TooShort.field-0-is c.in-Err-TooShort.ensures.reading never)

pub returns-in-Err-Invalid-clause-yes : goal.returns-in-Err-Invalid-clause-yes
returns-in-Err-Invalid-clause-yes c = λ _.
    invalid-answer c.args.bits 0 c.args.bytes.now c.in-Err-Invalid.field-0 c.in-Err-Invalid.field-0-is c.in-Err-Invalid.ensures.reading
