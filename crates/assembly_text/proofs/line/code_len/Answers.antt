use Rattle.std.proofs.Common.{sym, ◌∙◌}
use Rattle.assembly_text.proofs.Quiet.{quiet_line}
use Rattle.assembly_text.proofs.line.code_len.Goals as goal

pub returns-then-quiet_len-line-clause-value : goal.returns-then-quiet_len-line-clause-value
returns-then-quiet_len-line-clause-value c = sym (quiet_line c.args.line.now (sym c.quiet_len.ensures.value ∙ c.if-quiet_len-line.true))
