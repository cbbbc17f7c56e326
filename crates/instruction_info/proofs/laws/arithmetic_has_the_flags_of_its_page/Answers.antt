use Rattle.instruction_info.proofs.LawTests.{page-read, page-written, page-cleared, page-undefined, page-kept}
use Rattle.instruction_info.proofs.laws.arithmetic_has_the_flags_of_its_page.Goals as goal

pub returns-clause-read : goal.returns-clause-read
returns-clause-read c = page-read

pub returns-clause-written : goal.returns-clause-written
returns-clause-written c = page-written

pub returns-clause-cleared : goal.returns-clause-cleared
returns-clause-cleared c = page-cleared

pub returns-clause-undefined : goal.returns-clause-undefined
returns-clause-undefined c = page-undefined

pub returns-clause-kept : goal.returns-clause-kept
returns-clause-kept c = page-kept
