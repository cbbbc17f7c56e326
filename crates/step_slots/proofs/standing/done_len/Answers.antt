use Rattle.std.proofs.Common.{ℕ, sym, subst}
use Rattle.step_slots.specs.Done.{IsDoneAt, step_form}
use Rattle.step_slots.proofs.Done.{done-is, done-at}
use Rattle.step_slots.proofs.standing.done_len.Goals as goal

pub returns-clause-value : goal.returns-clause-value
returns-clause-value c =
    done-is c.args.bits c.args.item.now.instr (step_form c.args.moved.now) c.image_form-form.result c.image_form-form.ensures
    _ c.image_of.ensures c.first_instr-first.result c.first_instr-first.ensures c.plain_length.result c.plain_length.ensures.value

pub returns-clause-done : goal.returns-clause-done
returns-clause-done c = λ place stood.
    subst (λ (n : ℕ). IsDoneAt c.args.bits c.args.item.now place c.args.moved.now n) (sym (returns-clause-value c))
    (done-at c.args.bits c.args.item.now place c.args.moved.now stood c.spellings_are_moved.ensures c.pieces_have_their_lengths.ensures
    c.moved_blocks_keep_their_laws.ensures)
