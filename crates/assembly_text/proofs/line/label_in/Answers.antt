use Rattle.std.proofs.Common.{subst}
use Rattle.assembly_text.specs.declared.line.LineKind.{LineKind}
use Rattle.assembly_text.specs.Lines.{IsKind}
use Rattle.assembly_text.proofs.PlainLines.{plain_unlabelled}
use Rattle.assembly_text.proofs.line.label_in.Goals as goal

pub returns-in-Plain : goal.returns-in-Plain
returns-in-Plain c = plain_unlabelled c.args.line.now (subst (λ (kind : LineKind). IsKind kind c.args.line.now) c.in-Plain.is c.requires)
