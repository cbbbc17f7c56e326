use Rattle.std.proofs.Common.{◌≡◌, drop, option_map}
use Rattle.detour.specs.HookSlots.Layers.{last_of}
use Rattle.detour.specs.HookSlots.LastHooks.{seen_last, later_last}
use Rattle.detour.proofs.hook_slots.layers.last_of.Given as goal

abbrev pub invariant-hooks : goal.invariant-hooks
invariant-hooks l = later_last l.last (option_map seen_last (last_of l.ip (drop l.hook-index l.live))) ≡ option_map seen_last (last_of l.ip l.live)
