use Rattle.std.proofs.Common.{◌≡◌, find, drop}
use Rattle.detour.specs.HookSlots.Patches.{is_in_way}
use Rattle.detour.proofs.hook_slots.patches.first_in_way.Given as goal

abbrev pub invariant-hooks : goal.invariant-hooks
invariant-hooks l = find (is_in_way l.rule l.ip l.len) (drop l.hook-index l.live) ≡ find (is_in_way l.rule l.ip l.len) l.live
