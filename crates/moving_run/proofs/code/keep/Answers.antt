use Rattle.std.proofs.Common.{sym, ◌∙◌, arith, length-append, [], ◌∷◌}
use Rattle.moving_run.proofs.Reading.{first_items-few, first_items-full}
use Rattle.moving_run.proofs.code.keep.Goals as goal

pub returns-in_ok-push-clause-kept : goal.returns-in_ok-push-clause-kept
returns-in_ok-push-clause-kept c =
    let old = c.args.items.now in
    c.in_ok-push.ensures.items
    ∙ sym (first_items-few _ (omega (arith, length-append old.items (c.args.item ∷ []), c.if-len-lt-MOST_ITEMS.true, c.len.ensures, old.ok)))

pub returns-else-len-lt-MOST_ITEMS-clause-kept : goal.returns-else-len-lt-MOST_ITEMS-clause-kept
returns-else-len-lt-MOST_ITEMS-clause-kept c =
    let old = c.args.items.now in
    sym (first_items-full old.items (c.args.item ∷ []) (omega (arith, c.if-len-lt-MOST_ITEMS.false, c.len.ensures, old.ok))
    ∙ first_items-few old.items (omega (arith, c.requires, old.ok)))
