use Rattle.std.proofs.Common.{refl, length, arith}
use Rattle.flow_graph.specs.Control.{code_bytes_with}
use Rattle.flow_graph.specs.Walks.{IsTreated}
use Rattle.flow_graph.proofs.Walking.{starts_walk, turn_inside, ends_walk}
use Rattle.flow_graph.proofs.Telling.{told_start, told_end}
use Rattle.flow_graph.proofs.walk.walk_all.Goals as goal

pub turns-init : goal.turns-init
turns-init c =
    let code = code_bytes_with c.args.follow c.args.bits c.args.base c.args.bytes.now in
    let count = length c.args.bytes.now in
    let walk = c.in_ok-walk.walk in
    record {
      walk = starts_walk code c.args.entries.now count refl walk.marks.items walk.order.items c.in_ok-walk.ensures.entered;
      told = told_start code walk.order.items walk.flows.items count refl c.in_ok-walk.ensures.flows;
    }

pub follow-requires-clause-inside : goal.follow-requires-clause-inside
follow-requires-clause-inside c =
    let code = code_bytes_with c.args.follow c.args.bits c.args.base c.args.bytes.now in
    turn_inside code c.args.entries.now c.turns.walk.marks.items c.turns.walk.order.items (IsTreated code c.turns.walk.order.items c.turns.turn)
    c.turns.invariant.walk c.turns.turn _ (omega (arith, c.turns-test.true, c.len.ensures)) refl

pub turns-preserved : goal.turns-preserved
turns-preserved c = record {
  walk = c.in_ok-follow.ensures.walk c.args.entries.now c.turns.invariant.walk;
  told = c.in_ok-follow.ensures.told;
}

pub returns-clause-marks : goal.returns-clause-marks
returns-clause-marks c =
    ends_walk (code_bytes_with c.args.follow c.args.bits c.args.base c.args.bytes.now) c.args.entries.now c.turns.walk.marks.items c.turns.walk.order.items c.turns.turn
    c.turns.invariant.walk (omega (arith, c.turns-test.false, c.len.ensures, c.turns.walk.order.ok))

pub returns-clause-told : goal.returns-clause-told
returns-clause-told c =
    told_end (code_bytes_with c.args.follow c.args.bits c.args.base c.args.bytes.now) c.args.entries.now c.turns.walk.marks.items c.turns.walk.order.items c.turns.turn
    c.turns.walk.flows.items c.turns.invariant.walk (omega (arith, c.turns-test.false, c.len.ensures, c.turns.walk.order.ok)) c.turns.invariant.told
