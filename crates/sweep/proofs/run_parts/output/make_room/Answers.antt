use Rattle.sweep.specs.RunParts.Writing.{no_put}
use Rattle.sweep.proofs.run_parts.output.make_room.Goals as goal

pub returns-else-len-lt-LINE_LEN-clause-puts : goal.returns-else-len-lt-LINE_LEN-clause-puts
returns-else-len-lt-LINE_LEN-clause-puts g c = no_put
