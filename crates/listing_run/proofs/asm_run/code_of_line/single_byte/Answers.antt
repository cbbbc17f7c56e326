use Rattle.listing_run.proofs.AsmRun.ByteLines.{stripped, other_line, digits_answer}
use Rattle.listing_run.proofs.asm_run.code_of_line.single_byte.Goals as goal

pub returns-in-Some : goal.returns-in-Some
returns-in-Some c =
    let front = rw c.in-Some.is at (stripped c.args.line.now c.strip_prefix.result c.strip_prefix.ensures.cases) in
    digits_answer c.args.line.now c.in-Some.digits.now c.byte_of_digits.result front c.byte_of_digits.ensures

pub returns-in-None : goal.returns-in-None
returns-in-None c =
    let none = rw c.in-None.is at (stripped c.args.line.now c.strip_prefix.result c.strip_prefix.ensures.cases) in
    λ bytes h. other_line c.args.line.now bytes none h
