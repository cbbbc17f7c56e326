use Rattle.std.proofs.lemmas.Option.{slice_get-get_or}
use Rattle.intel_reader.specs.Operands.{row_numbers}
use Rattle.intel_reader.proofs.operands.flags_of.Goals as goal

pub returns : goal.returns
unfolding row_numbers
returns c = slice_get-get_or row_numbers c.args.code.0 _ c.requires
