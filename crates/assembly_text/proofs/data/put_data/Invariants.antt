use Rattle.std.proofs.Common.{length}
use Rattle.assembly_text.proofs.Items.{ArePut}
use Rattle.assembly_text.proofs.data.put_data.Given as goal

abbrev pub invariant-items : goal.invariant-items
invariant-items l = ArePut l.count l.text l.rest l.fn.out.items l.out.items

abbrev pub decreases-items : goal.decreases-items
decreases-items l = length l.rest
