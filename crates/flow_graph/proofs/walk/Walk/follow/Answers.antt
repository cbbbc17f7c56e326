use Rattle.std.proofs.Common.{◌<◌, length, arith, ◌∙◌}
use Rattle.std.proofs.lemmas.List.{get_or_read}
use Rattle.flow_graph.specs.Control.{code_bytes_with}
use Rattle.flow_graph.proofs.Walking.{turns_with_target, turns_without_target, extends_with_target, extends_without_target}
use Rattle.flow_graph.proofs.Telling.{told_turn}
use Rattle.flow_graph.proofs.walk.Walk.follow.Goals as goal

pub stop_at-stop-requires-clause-inside : goal.stop_at-stop-requires-clause-inside
stop_at-stop-requires-clause-inside c =
    omega (arith, get_or_read c.args.self.now.order.items c.args.turn c.index.result.now c.requires.turn c.index.ensures 0, c.requires.inside)

pub index_mut-requires : goal.index_mut-requires
index_mut-requires c =
    let here = get_or_read c.args.self.now.order.items c.args.turn c.index.result.now c.requires.turn c.index.ensures 0 in
    omega (arith, here, c.requires.inside, c.requires.told.len, c.args.self.now.flows.ok)

pub returns-in_ok-arrive-clause-walk : goal.returns-in_ok-arrive-clause-walk
returns-in_ok-arrive-clause-walk c =
    let code = code_bytes_with c.args.follow c.args.bits c.args.base c.args.bytes.now in
    let order = c.args.self.now.order.items in
    let here = get_or_read order c.args.turn c.index.result.now c.requires.turn c.index.ensures 0 in
    let first = c.in_ok-go_on.ensures in
    let second = c.in_ok-arrive.ensures in
    λ entries walk.
    turns_with_target code entries order c.args.turn c.index.result.now here c.requires.turn c.stop_at-stop.result.exits c.stop_at-stop.ensures.exits
    c.args.self.now.marks.items walk c.in-Some.target c.in-Some.is c.go_on.new.self.marks.items c.go_on.new.self.order.items
    c.arrive.new.self.marks.items c.arrive.new.self.order.items first.marks first.order second.marks second.order

pub returns-in_ok-arrive-clause-told : goal.returns-in_ok-arrive-clause-told
returns-in_ok-arrive-clause-told c =
    let code = code_bytes_with c.args.follow c.args.bits c.args.base c.args.bytes.now in
    let order = c.args.self.now.order.items in
    let here = get_or_read order c.args.turn c.index.result.now c.requires.turn c.index.ensures 0 in
    let inside : c.index.result.now < length c.args.bytes.now = omega (arith, here, c.requires.inside) in
    let more =
    extends_with_target c.args.self.now.marks.items order c.index.result.now c.stop_at-stop.result.exits c.go_on.new.self.marks.items
    c.go_on.new.self.order.items c.arrive.new.self.order.items c.in-Some.target c.in_ok-go_on.ensures.order c.in_ok-arrive.ensures.order in
    told_turn code order c.arrive.new.self.order.items c.args.turn c.index.result.now c.stop_at-stop.result.flow c.args.self.now.flows.items
    c.arrive.new.self.flows.items here c.requires.turn inside more c.requires.told c.stop_at-stop.ensures.told
    (c.in_ok-arrive.ensures.flows ∙ c.in_ok-go_on.ensures.flows)

pub returns-in_default-clause-walk : goal.returns-in_default-clause-walk
returns-in_default-clause-walk c =
    let code = code_bytes_with c.args.follow c.args.bits c.args.base c.args.bytes.now in
    let order = c.args.self.now.order.items in
    let here = get_or_read order c.args.turn c.index.result.now c.requires.turn c.index.ensures 0 in
    let first = c.in_ok-go_on.ensures in
    λ entries walk.
    turns_without_target code entries order c.args.turn c.index.result.now here c.requires.turn c.stop_at-stop.result.exits c.stop_at-stop.ensures.exits
    c.args.self.now.marks.items walk c.in_default.is c.go_on.new.self.marks.items c.go_on.new.self.order.items first.marks first.order

pub returns-in_default-clause-told : goal.returns-in_default-clause-told
returns-in_default-clause-told c =
    let code = code_bytes_with c.args.follow c.args.bits c.args.base c.args.bytes.now in
    let order = c.args.self.now.order.items in
    let here = get_or_read order c.args.turn c.index.result.now c.requires.turn c.index.ensures 0 in
    let inside : c.index.result.now < length c.args.bytes.now = omega (arith, here, c.requires.inside) in
    let more =
    extends_without_target c.args.self.now.marks.items order c.index.result.now c.stop_at-stop.result.exits c.go_on.new.self.order.items
    c.in_ok-go_on.ensures.order in
    told_turn code order c.go_on.new.self.order.items c.args.turn c.index.result.now c.stop_at-stop.result.flow c.args.self.now.flows.items
    c.go_on.new.self.flows.items here c.requires.turn inside more c.requires.told c.stop_at-stop.ensures.told c.in_ok-go_on.ensures.flows
