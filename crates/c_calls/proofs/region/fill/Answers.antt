use Rattle.std.proofs.Common.{sym, ◌∙◌}
use Rattle.c_calls.proofs.RegionCalls.{region_is}
use Rattle.c_calls.proofs.region.fill.Goals as goal

pub fill_in-requires-clause-region : goal.fill_in-requires-clause-region
fill_in-requires-clause-region c = region_is c.args.region.now c.args.blocks.now (sym c.is_region.ensures ∙ c.if-not-is_region.false)
