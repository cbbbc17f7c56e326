use Rattle.flow_graph.specs.Control.{code_bytes_with}
use Rattle.detour.proofs.Entering.{next_entry_goes, target_entry_goes}
use Rattle.detour.proofs.entries.entry_from.Goals as goal

pub returns-in-Some : goal.returns-in-Some
returns-in-Some c =
    next_entry_goes (code_bytes_with c.args.follow c.args.bits c.args.ip c.args.code.now) c.args.taken.now.items.items c.args.p c.exits_following-exits.result c.exits_following-exits.ensures.exits c.in-Some.end c.in-Some.ensures

pub returns-in-None : goal.returns-in-None
returns-in-None c =
    target_entry_goes (code_bytes_with c.args.follow c.args.bits c.args.ip c.args.code.now) c.args.taken.now.items.items c.args.p c.exits_following-exits.result c.exits_following-exits.ensures.exits c.in-None.ensures
    c.entered_target.result c.entered_target.ensures
