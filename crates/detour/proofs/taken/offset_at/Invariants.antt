use Rattle.std.proofs.Common.{◌≡◌, ◌*◌, ◌≤◌}
use Rattle.detour.specs.Taken.{offset_at}
use Rattle.detour.proofs.taken.offset_at.Given as goal

abbrev pub invariant-items : goal.invariant-items
invariant-items l = record {
  sum : l.offset ≡ offset_at l.items l.j;
  small : l.offset ≤ 255 * l.j;
}
