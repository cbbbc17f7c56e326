use Rattle.std.proofs.Common.{◌≡◌, ℕ, zero, suc, ◌<◌, List, length, get_or, refl, sym, subst, ◌∙◌, arith}
use Rattle.std.proofs.lemmas.Bool.{false≢true}
use Rattle.branch_sizes.specs.Plan.{BlockPlan}
use Rattle.branch_sizes.specs.Layout.{IsItemClosed, AreUnclosed, room}
use Rattle.branch_sizes.specs.Tables.{plan_in}
use Rattle.branch_sizes.proofs.Growing.{grows_none, grows_twice}
use Rattle.branch_sizes.proofs.worklist.grow_unclosed.Goals.{then-branch+in_ok-settle, else-branch}
use Rattle.branch_sizes.proofs.worklist.grow_unclosed.Goals as goal

-- the first of the items grows, so that a later one that does not leaves less room than there was
still-less : (p : BlockPlan) (initial old new unclosed : List ℕ) (n : ℕ) → AreUnclosed p initial unclosed → n < length unclosed
    → (n ≡ 0 → old ≡ initial) → (0 < n → room p old < room p initial) → new ≡ old → IsItemClosed p old (get_or unclosed n 0)
    → room p new < room p initial
still-less p initial old new unclosed zero u lt same less is closed =
    absurd (u.grows 0 lt (subst (λ xs. IsItemClosed p xs (get_or unclosed 0 0)) (same refl) closed))
still-less p initial old new unclosed (suc n) u lt same less is closed =
    subst (λ xs. room p xs < room p initial) (sym is) (less (omega arith))

pub turns-init : goal.turns-init
turns-init c = record {
  lengths = c.requires.lengths;
  grows = grows_none (plan_in c.args.tables.now) c.args.layout.now c.requires.layout;
  same = λ first. refl;
  less = λ later. absurd (omega (arith, later));
}

pub returns-clause-grows : goal.returns-clause-grows
returns-clause-grows c = c.turns.invariant.grows

pub returns-clause-less : goal.returns-clause-less
returns-clause-less c = c.turns.invariant.less (omega (arith, c.requires.some, c.turns-test.false))

pub turns-preserved : goal.turns-preserved
turns-preserved c =
    let p = plan_in c.args.tables.now in
    let grew = grows_twice p _ _ _ c.turns.invariant.grows c.grow_and_note.ensures.grows in
    elim c.if-branch.branch [
      | then-branch+in_ok-settle w ↦ rw (w.layout-is, w.sums-is) (record {
        lengths = w.settle.ensures.lengths;
        grows = grows_twice p _ _ _ grew w.settle.ensures.grows;
        same = λ first. absurd (omega (arith, first));
        less = λ later. omega (
          arith,
          c.in_ok-grow_and_note.ensures.less w.if-branch.true,
          w.settle.ensures.grows.room,
          c.turns.invariant.grows.room,
        );
      })
      | else-branch w ↦
          let here = c.in_ok-grow_and_note.ensures.closed (λ yes. false≢true (sym w.if-branch.false ∙ yes))
          (c.requires.unclosed.item c.turns.n c.turns-test.true) in
          rw (w.layout-is, w.sums-is) (record {
            lengths = c.grow_and_note.ensures.lengths;
            grows = grew;
            same = λ first. absurd (omega (arith, first));
            less = λ later. still-less p c.args.layout.now c.turns.layout c.grow_and_note.new.layout c.args.unclosed.now c.turns.n
                c.requires.unclosed c.turns-test.true c.turns.invariant.same c.turns.invariant.less here.0 here.1;
          })
    ]
