use Rattle.std.proofs.Common.{sym, ◌∙◌}
use Rattle.c_calls.proofs.RegionCalls.{region_is}
use Rattle.c_calls.proofs.region.reserve.Goals as goal

pub reserve_in-requires : goal.reserve_in-requires
reserve_in-requires c = region_is c.args.region.now c.args.blocks.now (sym c.is_region.ensures ∙ c.if-not-is_region.false)
