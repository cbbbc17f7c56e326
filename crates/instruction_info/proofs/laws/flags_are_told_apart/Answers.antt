use Rattle.instruction_info.proofs.LawTests.{cleared-written, set-written, undefined-apart, kept-changed}
use Rattle.instruction_info.proofs.laws.flags_are_told_apart.Goals as goal

pub returns-clause-cleared : goal.returns-clause-cleared
returns-clause-cleared c = cleared-written

pub returns-clause-set_ : goal.returns-clause-set_
returns-clause-set_ c = set-written

pub returns-clause-undefined : goal.returns-clause-undefined
returns-clause-undefined c = undefined-apart

pub returns-clause-kept : goal.returns-clause-kept
returns-clause-kept c = kept-changed
