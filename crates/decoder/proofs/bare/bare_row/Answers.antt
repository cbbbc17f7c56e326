use Rattle.std.proofs.lemmas.Option.{slice_get-get_or}
use Rattle.decoder.specs.Bare.{bare_rows}
use Rattle.decoder.proofs.bare.bare_row.Goals as goal

pub returns : goal.returns
unfolding bare_rows
returns c = slice_get-get_or bare_rows c.args.code.0 _ c.requires
