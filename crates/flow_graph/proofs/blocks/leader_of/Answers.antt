use Rattle.std.proofs.Common.{◌+◌, ◌-◌, get_or, ap}
use Rattle.flow_graph.proofs.Listing.{leader_carried_on, leader_is_itself}
use Rattle.flow_graph.proofs.blocks.leader_of.Goals as goal

pub returns-then-mark-gt-LEADER : goal.returns-then-mark-gt-LEADER
returns-then-mark-gt-LEADER c = λ h.
    leader_carried_on c.args.marks.now c.args.leaders.now c.args.offset
    (get_or c.args.leaders.now (c.args.offset + 1 - c.from.result) 0) c.requires.chained c.requires.before c.if-mark-gt-LEADER.true
    (ap (λ n. get_or c.args.leaders.now (c.args.offset + 1 - n) 0) c.from.ensures)

pub returns-else-mark-gt-LEADER : goal.returns-else-mark-gt-LEADER
returns-else-mark-gt-LEADER c = λ h. leader_is_itself c.args.marks.now c.args.offset c.if-mark-gt-LEADER.false h
