use Rattle.assembly_text.proofs.Sized.{full_head}
use Rattle.assembly_text.proofs.readings.read_with.Goals as goal

pub returns-clause-head : goal.returns-clause-head
returns-clause-head c =
    full_head c.args.bits c.args.size c.args.width c.args.low.now c.args.s.now _ c.args.head_len c.in_ok-put_full.ensures c.requires.0
