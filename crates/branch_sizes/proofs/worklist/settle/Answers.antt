use Rattle.std.proofs.Common.{length, inl, inr, arith, ap, refl, sym, ◌∙◌}
use Rattle.std.proofs.lemmas.Bool.{cases_Bool, false≢true}
use Rattle.branch_sizes.specs.Tables.{plan_in}
use Rattle.branch_sizes.proofs.Growing.{grows_none, grows_twice}
use Rattle.branch_sizes.proofs.worklist.settle.Goals as goal

pub queue-preserved : goal.queue-preserved
queue-preserved c = record {
  lengths = c.grow_and_note.ensures.lengths;
  grows = grows_twice (plan_in c.args.tables.now) _ _ _ c.queue.invariant.grows c.grow_and_note.ensures.grows;
}

pub suspects-preserved : goal.suspects-preserved
suspects-preserved c =
    let p = plan_in c.args.tables.now in
    record {
      lengths = c.grow_and_note-in-suspects.ensures.lengths;
      grows = grows_twice p _ _ _ (grows_twice p _ _ _ c.suspects.invariant.grows c.queue.invariant.grows)
          c.grow_and_note-in-suspects.ensures.grows;
    }

pub returns-in_err-grow_and_note-clause-grows : goal.returns-in_err-grow_and_note-clause-grows
returns-in_err-grow_and_note-clause-grows c =
    let p = plan_in c.args.tables.now in
    grows_twice p _ _ _ (grows_twice p _ _ _ c.suspects.invariant.grows c.queue.invariant.grows)
    c.grow_and_note.ensures.grows

pub returns-in_err-grow_and_note-2-clause-grows : goal.returns-in_err-grow_and_note-2-clause-grows
returns-in_err-grow_and_note-2-clause-grows c =
    let p = plan_in c.args.tables.now in
    grows_twice p _ _ _ (grows_twice p _ _ _ c.suspects.invariant.grows c.queue.invariant.grows)
    c.grow_and_note-in-suspects.ensures.grows

pub returns-in_default-over_limit-clause-grows : goal.returns-in_default-over_limit-clause-grows
returns-in_default-over_limit-clause-grows c =
    grows_twice (plan_in c.args.tables.now) _ _ _ c.suspects.invariant.grows c.queue.invariant.grows

pub returns-then-not-branch-clause-grows : goal.returns-then-not-branch-clause-grows
returns-then-not-branch-clause-grows c =
    let p = plan_in c.args.tables.now in
    grows_twice p _ _ _ (grows_twice p _ _ _ c.suspects.invariant.grows c.queue.invariant.grows)
    c.grow_and_note-in-suspects.ensures.grows

pub suspects-init : goal.suspects-init
suspects-init c = record {
  lengths = c.requires.lengths;
  grows = grows_none (plan_in c.args.tables.now) c.args.layout.now c.requires.layout;
}

pub queue-init : goal.queue-init
queue-init c = record {
  lengths = c.suspects.invariant.lengths;
  grows = grows_none (plan_in c.args.tables.now) c.suspects.layout c.suspects.invariant.grows.layout;
}

pub queue-smaller : goal.queue-smaller
queue-smaller c =
    let e = c.in_ok-grow_and_note.ensures in
    let popped = c.in-Some.ensures refl in
    elim (cases_Bool c.in_ok-grow_and_note.field-0) [
      | inl grew ↦ omega (arith, e.less grew, e.few, popped)
      | inr idle ↦ omega (arith, e.grows.room, ap (λ v. length v.items) (e.idle (λ grew. false≢true (sym idle ∙ grew))), popped)
    ]

pub suspects-smaller : goal.suspects-smaller
suspects-smaller c =
    omega (arith, c.in_ok-grow_and_note-2.ensures.less c.if-not-branch.false, c.suspects.invariant.grows.room, c.queue.invariant.grows.room)
