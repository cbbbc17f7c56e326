use Rattle.att_text.proofs.Letters.{integer-letters, x87-letters, sse-letters, vex-letters}
use Rattle.att_text.proofs.laws.letters_stand_on_integer_and_x87_rows.Goals as goal

pub returns-clause-integer : goal.returns-clause-integer
returns-clause-integer c = integer-letters

pub returns-clause-x87 : goal.returns-clause-x87
returns-clause-x87 c = x87-letters

pub returns-clause-sse : goal.returns-clause-sse
returns-clause-sse c = sse-letters

pub returns-clause-vex : goal.returns-clause-vex
returns-clause-vex c = vex-letters
