use Rattle.std.proofs.Common.{◌≡◌, ◌+◌, length, arith, sym, subst}
use Rattle.flow_graph.specs.HookSight.Entries.{IsLeast}
use Rattle.flow_graph.proofs.HookSight.Entering.{InsideBefore, inside_none, inside_more, inside_all}
use Rattle.flow_graph.proofs.hook_sight.passages.first_inside.Goals as goal

pub places-init : goal.places-init
places-init c = inside_none c.args.entries.now c.args.taken c.args.count

pub places-preserved : goal.places-preserved
places-preserved c =
    subst (IsLeast (InsideBefore c.args.entries.now c.args.taken c.args.count (c.places.k + 1))) (sym c.lesser-first.ensures)
    (inside_more c.args.entries.now c.args.taken c.args.count c.places.k c.places.first c.inside_at.result c.places.invariant c.inside_at.ensures)

pub returns : goal.returns
returns c =
    let all : c.places.k ≡ length c.args.entries.now = omega (arith, c.places-test.false, c.places.auto.k-end) in
    inside_all c.args.entries.now c.args.taken c.args.count c.places.k all c.places.first c.places.invariant
