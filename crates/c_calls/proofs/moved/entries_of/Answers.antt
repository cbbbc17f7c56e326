use Rattle.std.proofs.Common.{◌∷◌, ◌++◌, [], List, ap, sym, ◌∙◌}
use Rattle.c_calls.specs.declared.flat.FlatMoved.{FlatMoved}
use Rattle.c_calls.specs.Moving.{entries}
use Rattle.c_calls.proofs.MovedEntries.{entries-none, entries-more}
use Rattle.c_calls.proofs.moved.entries_of.Goals as goal

pub entries-init : goal.entries-init
entries-init c = c.new-list.ensures.items ∙ sym (entries-none c.args.items.now c.args.starts.now c.args.forms.now)

pub entries-preserved : goal.entries-preserved
entries-preserved c =
    c.in_ok-push.ensures.items
    ∙ (ap (λ (xs : List FlatMoved). xs ++ c.entry_at.result ∷ []) c.entries.invariant
    ∙ (ap (λ (e : FlatMoved). entries c.args.items.now c.args.starts.now c.args.forms.now c.entries.k ++ e ∷ []) c.entry_at.ensures
    ∙ sym (entries-more c.args.items.now c.args.starts.now c.args.forms.now c.entries.k)))
