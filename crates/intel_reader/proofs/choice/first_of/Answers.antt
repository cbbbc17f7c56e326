use Rattle.opcode_rows.specs.Table.{name_of}
use Rattle.intel_reader.proofs.Choosing.{printed_facts, row_of_candidate}
use Rattle.intel_reader.proofs.choice.first_of.Goals as goal

pub returns-in-None-clause-none : goal.returns-in-None-clause-none
returns-in-None-clause-none c = λ e b k.
    let r = row_of_candidate c.args.bits c.args.ip c.args.text.now b k in
    let p = printed_facts c.args.bits c.args.ip c.args.text.now b r.0 k r.1 in
    c.in-None.ensures.printed c.args.bits r.0 (name_of b.instr.code.0) b.instr p.printable p.layout

pub first_among-requires-clause-read : goal.first_among-requires-clause-read
first_among-requires-clause-read c = λ b row k at.
    let p = printed_facts c.args.bits c.args.ip c.args.text.now b row k at in
    (c.in-Some.ensures.printed c.args.bits row (name_of b.instr.code.0) b.instr p.printable p.layout).1

pub first_among-requires-clause-named : goal.first_among-requires-clause-named
first_among-requires-clause-named c = λ b k.
    let r = row_of_candidate c.args.bits c.args.ip c.args.text.now b k in
    let p = printed_facts c.args.bits c.args.ip c.args.text.now b r.0 k r.1 in
    (c.in-Some.ensures.printed c.args.bits r.0 (name_of b.instr.code.0) b.instr p.printable p.layout).0
