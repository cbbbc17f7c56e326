use Rattle.std.proofs.Common.{◌≡◌, map}
use Rattle.std.specs.List.{range_with_len}
use Rattle.detour.specs.AnyTrampoline.{any_trampoline_goal}
use Rattle.detour.proofs.any_trampoline.any_goals.Given as goal

abbrev pub invariant-items : goal.invariant-items
invariant-items l = l.goals.items ≡ map (any_trampoline_goal l.rule l.bits l.lines l.items l.count l.follow) (range_with_len 0 l.k)
