use Rattle.std.proofs.Common.{◌≡◌, map}
use Rattle.std.specs.List.{range_with_len}
use Rattle.detour.specs.Taken.{offset_at}
use Rattle.detour.proofs.starts.starts_to.Given as goal

abbrev pub invariant-items : goal.invariant-items
invariant-items l = l.starts.items ≡ map (offset_at l.items) (range_with_len 0 l.k)
