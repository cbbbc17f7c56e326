use Rattle.std.proofs.Common.{◌≡◌, ◌≤◌, ◌^◌, drop}
use Rattle.c_calls.specs.Regions.{are_laid}
use Rattle.c_calls.proofs.region_search.are_laid.Given as goal

abbrev pub invariant-live : goal.invariant-live
invariant-live l = (are_laid l.base l.limit l.live ≡ are_laid l.from l.limit (drop l.k l.live)) × (l.from ≤ 2 ^ 65)
