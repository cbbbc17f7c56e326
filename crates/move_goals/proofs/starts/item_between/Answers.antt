use Rattle.std.proofs.Common.{arith, sym}
use Rattle.move_goals.proofs.Began.{none_before, none_behind, none_between, one_between}
use Rattle.move_goals.proofs.starts.item_between.Goals as goal

pub returns-then-from-to : goal.returns-then-from-to
returns-then-from-to c =
    sym (none_between c.args.items.now c.args.from c.args.to c.args.target c.args.to c.args.to (omega arith)
    (λ j a l. absurd (omega arith)) (λ j a l. absurd (omega arith)))

pub returns-then-target-first : goal.returns-then-target-first
returns-then-target-first c =
    sym (none_before c.args.items.now c.args.from c.args.to c.args.target c.requires.ascend c.if-target-first.true)

pub returns-then-last-target : goal.returns-then-last-target
returns-then-last-target c =
    sym (none_behind c.args.items.now c.args.from c.args.to c.args.target c.requires.ascend (omega arith) c.if-last-target.true)

pub returns-then-start-target : goal.returns-then-start-target
returns-then-start-target c =
    sym (one_between c.args.items.now c.args.from c.args.to c.args.target c.requires.ascend c.requires.end
    _ (omega arith) (omega arith) c.if-start-target.true)

pub returns : goal.returns
returns c =
    sym (none_between c.args.items.now c.args.from c.args.to c.args.target c.halves.low c.halves.high c.halves-test.false
    c.halves.invariant.below c.halves.invariant.above)
