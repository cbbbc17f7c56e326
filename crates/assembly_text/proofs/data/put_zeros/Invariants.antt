use Rattle.std.proofs.Common.{◌≡◌, ◌++◌, replicate}
use Rattle.assembly_text.proofs.data.put_zeros.Given as goal

abbrev pub invariant-bytes : goal.invariant-bytes
invariant-bytes l = l.out.items ≡ l.fn.out.items ++ replicate l._k 0
