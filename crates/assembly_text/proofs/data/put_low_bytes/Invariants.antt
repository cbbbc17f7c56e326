use Rattle.std.proofs.Common.{◌≡◌, ◌++◌, ◌-◌}
use Rattle.assembly_text.specs.Data.{low_bytes}
use Rattle.assembly_text.proofs.data.put_low_bytes.Given as goal

abbrev pub invariant-bytes : goal.invariant-bytes
invariant-bytes l = l.out.items ++ low_bytes (l.count - l._k) l.left ≡ l.fn.out.items ++ low_bytes l.count l.fn.n
