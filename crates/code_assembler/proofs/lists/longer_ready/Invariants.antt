use Rattle.std.proofs.Common.{◌≡◌, take}
use Rattle.code_assembler.proofs.lists.longer_ready.Given as goal

abbrev pub invariant-items : goal.invariant-items
invariant-items l = l.copy.items ≡ take l.k l.list
