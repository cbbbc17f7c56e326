use Rattle.sweep.proofs.RunParts.Saying.{says}
use Rattle.sweep.proofs.run_parts.output.say.Goals as goal

pub returns : goal.returns
returns g c = says _ _ _ _ _ c.put_all.result c.put_all.ensures.ok c.put_all.ensures.err c.put_all.ensures.cause
