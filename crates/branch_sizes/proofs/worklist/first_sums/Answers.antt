use Rattle.std.proofs.Common.{◌≤◌, arith, sym, subst}
use Rattle.std.specs.Prelude.{All}
use Rattle.branch_sizes.proofs.worklist.first_sums.Goals as goal

pub make-requires-clause-few : goal.make-requires-clause-few
make-requires-clause-few c =
    omega (arith, c.deref.ensures.len, c.in_ok-lengths.ensures.lengths.len, c.args.tables.now.plan.few_items)

pub make-requires-clause-lengths : goal.make-requires-clause-lengths
make-requires-clause-lengths c =
    subst (λ xs. All (λ n. (1 ≤ n) × (n ≤ 15)) xs) (sym c.deref.ensures.value) c.in_ok-lengths.ensures.fit
