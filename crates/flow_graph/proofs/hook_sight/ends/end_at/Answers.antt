use Rattle.std.proofs.Common.{refl, sym, subst}
use Rattle.flow_graph.specs.Control.{code_bytes}
use Rattle.flow_graph.specs.HookSight.Sight.{IsEndAt}
use Rattle.flow_graph.proofs.HookSight.Ending.{end_right}
use Rattle.flow_graph.proofs.hook_sight.ends.end_at.Goals as goal

pub returns : goal.returns
returns c =
    let code = code_bytes c.args.bits c.args.ip c.args.code.now in
    subst (IsEndAt code c.args.p) (sym c.end_by_told.ensures)
    (end_right c.bytes_have_one_reading.ensures code c.args.p c.exits_at-exits.result c.exits_at-exits.ensures.exits refl c.args.told c.requires.told)
