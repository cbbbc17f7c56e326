use Rattle.std.proofs.Common.{◌≡◌, ◌++◌, ◌-◌}
use Rattle.assembly_text.specs.Padding.{repeated}
use Rattle.assembly_text.proofs.padding.put_repeated.Given as goal

abbrev pub invariant-times : goal.invariant-times
invariant-times l = l.out.items ++ repeated (l.count - l._k) l.bytes ≡ l.fn.out.items ++ repeated l.count l.bytes
