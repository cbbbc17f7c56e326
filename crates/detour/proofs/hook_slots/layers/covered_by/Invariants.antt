use Rattle.std.proofs.Common.{◌≡◌, drop}
use Rattle.detour.specs.HookSlots.State.{hook_at}
use Rattle.detour.proofs.hook_slots.layers.covered_by.Given as goal

abbrev pub invariant-hooks : goal.invariant-hooks
invariant-hooks l = hook_at l.place (drop l.hook-index l.live) ≡ hook_at l.place l.live
