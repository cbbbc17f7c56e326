use Rattle.std.proofs.lemmas.Option.{slice_get-get_or}
use Rattle.operand_info.specs.Lines.{columns}
use Rattle.operand_info.proofs.columns.line_at.Goals as goal

pub returns : goal.returns
unfolding columns
returns c = slice_get-get_or columns c.args.code.0 _ c.requires
