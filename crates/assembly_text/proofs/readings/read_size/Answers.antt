use Rattle.std.proofs.Common.{refl, sym, ◌∙◌, None}
use Rattle.assembly_text.specs.Readings.{joined}
use Rattle.assembly_text.proofs.readings.read_size.Goals as goal

pub returns-else-may_fit-clause-found : goal.returns-else-may_fit-clause-found
unfolding joined
returns-else-may_fit-clause-found c = (None, (c.requires.possible c.args.size (sym c.may_fit.ensures ∙ c.if-may_fit.false), refl))
