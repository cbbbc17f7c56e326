use Rattle.std.proofs.Common.{ap, length, ◌∙◌, arith}
use Rattle.c_calls.proofs.MovedEntries.{starts_length, forms_length, too_many}
use Rattle.c_calls.proofs.moved.move_items.Goals as goal

pub returns-then-items-gt-MOST_ITEMS : goal.returns-then-items-gt-MOST_ITEMS
returns-then-items-gt-MOST_ITEMS c =
    too_many c.args.targets c.args.bits c.args.items.now c.args.new _ (omega arith) (omega arith)

pub entries_of-requires-clause-starts : goal.entries_of-requires-clause-starts
entries_of-requires-clause-starts c =
    ap length c.starts.ensures ∙ starts_length c.args.targets c.args.bits c.args.items.now c.args.new c.in-Ok.moved c.in-Ok.ensures

pub entries_of-requires-clause-forms : goal.entries_of-requires-clause-forms
entries_of-requires-clause-forms c =
    ap length c.forms.ensures ∙ forms_length c.args.targets c.args.bits c.args.items.now c.args.new c.in-Ok.moved c.in-Ok.ensures

pub code_len-code_len-requires-clause-starts : goal.code_len-code_len-requires-clause-starts
code_len-code_len-requires-clause-starts c =
    ap length c.starts-in-Ok-entries_of.ensures ∙ starts_length c.args.targets c.args.bits c.args.items.now c.args.new c.in-Ok.moved c.in-Ok.ensures

pub code_len-code_len-requires-clause-forms : goal.code_len-code_len-requires-clause-forms
code_len-code_len-requires-clause-forms c =
    ap length c.forms-in-Ok-entries_of.ensures ∙ forms_length c.args.targets c.args.bits c.args.items.now c.args.new c.in-Ok.moved c.in-Ok.ensures
