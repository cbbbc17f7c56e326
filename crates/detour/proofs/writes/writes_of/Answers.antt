use Rattle.detour.proofs.SafeOrder.{writes_made, safe_order}
use Rattle.detour.proofs.writes.writes_of.Goals as goal

pub returns-clause-order : goal.returns-clause-order
returns-clause-order c = λ some code within. safe_order c.args.bytes.now some code within

pub returns-clause-exact : goal.returns-clause-exact
returns-clause-exact c =
    writes_made c.args.bytes.now c.min-count.result c.stop_bytes.result.now c.split_at.result.0.now c.split_at.result.1.now c.min-count.ensures c.stop_bytes.ensures
    c.split_at.ensures.front c.split_at.ensures.back
