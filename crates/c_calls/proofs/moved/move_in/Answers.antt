use Rattle.std.proofs.Common.{arith, ap, sym, ◌∙◌}
use Rattle.move_goals.specs.Items.{passes}
use Rattle.c_calls.proofs.CodeEnds.{ends-inside}
use Rattle.c_calls.proofs.ItemsInOrder.{are_placed, no_disorder}
use Rattle.c_calls.proofs.moved.move_in.Goals as goal

pub read_items-requires : goal.read_items-requires
read_items-requires c =
    ends-inside c.args.bits c.args.old c.args.bytes.now c.args.new (omega arith)
    (sym (ap (passes c.args.bits) c.code_end-end.ensures) ∙ (sym c.passes.ensures ∙ c.if-passes.false))

pub move_items-requires-clause-placed : goal.move_items-requires-clause-placed
move_items-requires-clause-placed c =
    let is = c.in-Ok.ensures in
    let all = are_placed c.args.bits c.args.old c.args.bytes.now c.in-Ok.items.items is.0 _ is.1 in
    rw c.deref.ensures.value all

pub move_items-requires-clause-order : goal.move_items-requires-clause-order
move_items-requires-clause-order c =
    let is = c.in-Ok.ensures in
    let order = no_disorder c.args.bits c.args.old c.args.bytes.now c.in-Ok.items.items is.0 _ is.1 c.args.new in
    rw c.deref.ensures.value order
