use Rattle.detour.proofs.Enough.{far_is_one}
use Rattle.detour.proofs.lengths.len_under.Goals as goal

pub returns-in-None : goal.returns-in-None
returns-in-None c = far_is_one c.args.bits c.args.ip c.args.code.now c.args.to c.args.rule c.far_len.result c.far_len.ensures
