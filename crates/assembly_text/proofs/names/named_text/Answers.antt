use Rattle.std.proofs.Common.{sym}
use Rattle.assembly_text.proofs.Unprefixed.{unprefixed}
use Rattle.assembly_text.proofs.names.named_text.Goals as goal

pub returns-then-not-has_prefix : goal.returns-then-not-has_prefix
returns-then-not-has_prefix c = sym (unprefixed c.args.text.now c.if-not-has_prefix.ensures)
