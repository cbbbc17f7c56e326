use Rattle.std.proofs.Common.{◌≡◌, ◌++◌, map, take}
use Rattle.detour.specs.AnyTrampoline.{listed}
use Rattle.detour.proofs.any_trampoline.with_listed.Given as goal

abbrev pub invariant-pieces : goal.invariant-pieces
invariant-pieces l = l.all.items ≡ l.fn.before.items ++ map listed (take l.k l.pieces)
