use Rattle.std.proofs.Common.{◌≡◌}
use Rattle.code_assembler.specs.Filling as spec
use Rattle.code_assembler.proofs.filling.put_data.Given as goal

abbrev pub invariant-items : goal.invariant-items
invariant-items l = l.bytes ≡ spec.with_data l.starts l.base l.filled l.initial.bytes l.k
