use Rattle.text_pieces.specs.Lines.{laid}
use Rattle.text_pieces.proofs.Whole.{pieces-text, text-short, whole-text, whole-placed, whole-cover, whole-characters}
use Rattle.text_pieces.proofs.print_pieces.Goals as goal

pub returns-clause-text : goal.returns-clause-text
unfolding laid
returns-clause-text c =
    whole-text c.args.style c.args.bits c.args.instr.now c.printed_row.result c.printed_name.result.now _ _
    c.new-printed.ensures c.put_row.ensures c.printed_row.ensures.row c.printed_name.ensures.name

pub returns-clause-places : goal.returns-clause-places
unfolding laid
returns-clause-places c =
    whole-placed c.args.style c.args.bits c.args.instr.now c.printed_row.result c.printed_name.result.now _ _
    c.new-printed.ensures c.clear.ensures c.put_row.ensures c.printed_row.ensures.row c.printed_name.ensures.name

pub returns-clause-joined : goal.returns-clause-joined
returns-clause-joined c = pieces-text c.args.style c.args.bits c.args.instr.now

pub returns-clause-cover : goal.returns-clause-cover
returns-clause-cover c = whole-cover c.args.style c.args.bits c.args.instr.now _ (returns-clause-places c)

pub returns-clause-characters : goal.returns-clause-characters
returns-clause-characters c = whole-characters c.args.style c.args.bits c.args.instr.now _ (returns-clause-places c)

pub returns-clause-short : goal.returns-clause-short
returns-clause-short c = text-short c.args.style c.args.bits c.args.instr.now c.requires
