use Rattle.detour.proofs.SafeOrder.{patch_safe}
use Rattle.detour.proofs.parts.Detour.writes.Goals as goal

pub returns-clause-order : goal.returns-clause-order
returns-clause-order c = λ bits ip code to place rule made. patch_safe c.laws_below.ensures bits ip code to place rule c.args.self.now made
