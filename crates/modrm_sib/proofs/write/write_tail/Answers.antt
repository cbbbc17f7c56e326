use Rattle.std.proofs.Common.{sym, ◌∙◌}
use Rattle.plain_spelling.proofs.Failures.{tail-registers}
use Rattle.modrm_sib.proofs.write.write_tail.Goals as goal

pub plain_tail-requires-clause-registers : goal.plain_tail-requires-clause-registers
plain_tail-requires-clause-registers c =
    tail-registers c.args.bits c.args.parts.now.ip c.args.row.now c.args.instr.now (sym c.first_failed_condition.ensures ∙ c.in-None.is)
