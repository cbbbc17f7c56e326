use Rattle.std.proofs.Common.{arith}
use Rattle.branch_sizes.proofs.worklist.reaches_goal_from.Goals as goal

pub reaches_from_both-requires-clause-first : goal.reaches_from_both-requires-clause-first
reaches_from_both-requires-clause-first c =
    c.args.tables.now.small_first c.args.k (omega (arith, c.requires.item, c.args.tables.now.right_first.len))

pub bounds-tables-j : goal.bounds-tables-j
bounds-tables-j c = omega (arith, c.requires.inside c.in-Inside.j c.in-Inside.is, c.args.tables.now.right_blocks.len)

pub reaches_from_both-requires-else-tables-j-clause-first : goal.reaches_from_both-requires-else-tables-j-clause-first
reaches_from_both-requires-else-tables-j-clause-first c =
    c.args.tables.now.small_first c.args.k (omega (arith, c.requires.item, c.args.tables.now.right_first.len))

pub bounds-tables-j-then-reaches_from_both : goal.bounds-tables-j-then-reaches_from_both
bounds-tables-j-then-reaches_from_both c =
    omega (arith, c.requires.inside c.in-Inside.j c.in-Inside.is, c.args.tables.now.right_first.len)

pub reaches_from_both-requires-then-reaches_from_both-clause-first : goal.reaches_from_both-requires-then-reaches_from_both-clause-first
reaches_from_both-requires-then-reaches_from_both-clause-first c =
    c.args.tables.now.small_first c.args.k (omega (arith, c.requires.item, c.args.tables.now.right_first.len))

pub reaches_from_both-requires-then-reaches_from_both-clause-goal : goal.reaches_from_both-requires-then-reaches_from_both-clause-goal
reaches_from_both-requires-then-reaches_from_both-clause-goal c =
    let inside = c.requires.inside c.in-Inside.j c.in-Inside.is in
    c.args.tables.now.small_first c.in-Inside.j (omega (arith, inside, c.args.tables.now.right_first.len))
