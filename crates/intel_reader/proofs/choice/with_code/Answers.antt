use Rattle.std.proofs.Common.{◌≡◌, Some, ap, ◌∙◌, slice_get}
use Rattle.opcode_rows.specs.Table.{table, name_of}
use Rattle.intel_reader.proofs.Choosing.{made_is}
use Rattle.intel_reader.proofs.SizedWords.{sized_otherwise}
use Rattle.intel_reader.proofs.choice.with_code.Goals as goal

pub returns-clause-covers : goal.returns-clause-covers
returns-clause-covers c = λ b k e.
    let at : slice_get table b.instr.code.0 ≡ Some c.row_of-row.result = ap (slice_get table) e ∙ c.row_of-row.ensures in
    let made = made_is c.args.bits c.args.ip c.args.text.now b c.row_of-row.result c.args.code c.args.words.now k at e (c.requires.read b c.row_of-row.result k at) in
    c.with_row.ensures.covers b b.instr.asize made.0 k made.1

pub returns-then-not-are_sized-clause-covers : goal.returns-then-not-are_sized-clause-covers
returns-then-not-are_sized-clause-covers c = λ b k e.
    let at : slice_get table b.instr.code.0 ≡ Some c.row_of-row.result = ap (slice_get table) e ∙ c.row_of-row.ensures in
    absurd (sized_otherwise c.args.bits c.row_of-row.result (name_of b.instr.code.0) b.instr c.args.words.now (c.requires.read b c.row_of-row.result k at)
    (c.are_sized.ensures c.if-not-are_sized.true))
