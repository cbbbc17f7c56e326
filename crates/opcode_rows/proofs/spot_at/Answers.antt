use Rattle.std.proofs.lemmas.Option.{slice_get-get_or}
use Rattle.opcode_rows.specs.Table.{spots}
use Rattle.opcode_rows.proofs.spot_at.Goals as goal

pub returns : goal.returns
unfolding spots
returns c = slice_get-get_or spots c.args.code _ c.requires
