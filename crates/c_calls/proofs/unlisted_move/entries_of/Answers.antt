use Rattle.std.proofs.Common.{◌∷◌, ◌++◌, [], List, ap, sym, ◌∙◌}
use Rattle.c_calls.specs.declared.flat.FlatMoved.{FlatMoved}
use Rattle.c_calls.specs.UnlistedMoves.{any_entries}
use Rattle.c_calls.proofs.AnyMovedEntries.{any_entries-none, any_entries-more}
use Rattle.c_calls.proofs.unlisted_move.entries_of.Goals as goal

pub entries-init : goal.entries-init
entries-init c = c.new-list.ensures.items ∙ sym (any_entries-none c.args.moved.now)

pub entries-preserved : goal.entries-preserved
entries-preserved c =
    c.in_ok-push.ensures.items
    ∙ (ap (λ (xs : List FlatMoved). xs ++ c.entry_at.result ∷ []) c.entries.invariant
    ∙ (ap (λ (e : FlatMoved). any_entries c.args.moved.now c.entries.k ++ e ∷ []) c.entry_at.ensures
    ∙ sym (any_entries-more c.args.moved.now c.entries.k)))
