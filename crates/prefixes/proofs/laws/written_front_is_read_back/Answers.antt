use Rattle.prefixes.proofs.Written.{read_back}
use Rattle.prefixes.proofs.laws.written_front_is_read_back.Goals as goal

pub returns : goal.returns
returns c = read_back
