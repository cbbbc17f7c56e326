use Rattle.std.proofs.Common.{subst}
use Rattle.assembly_text.specs.declared.line.LineKind.{LineKind}
use Rattle.assembly_text.specs.Lines.{IsKind}
use Rattle.assembly_text.proofs.PlainLines.{plain_code, inner_code}
use Rattle.assembly_text.proofs.line.code_in.Goals as goal

pub returns-in-Plain : goal.returns-in-Plain
returns-in-Plain c = plain_code c.args.line.now (subst (λ (kind : LineKind). IsKind kind c.args.line.now) c.in-Plain.is c.requires)

pub returns-in-Quiet : goal.returns-in-Quiet
returns-in-Quiet c = inner_code c.args.line.now (subst (λ (kind : LineKind). IsKind kind c.args.line.now) c.in-Quiet.is c.requires)
