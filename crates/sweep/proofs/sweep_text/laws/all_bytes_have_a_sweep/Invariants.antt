use Rattle.std.proofs.Common.{List, ◌-◌, length}
use Rattle.opcode_rows.specs.Sweep.{Item}
use Rattle.sweep.specs.SweepText.Sweeping.{SweptTo}
use Rattle.sweep.proofs.sweep_text.laws.all_bytes_have_a_sweep.Given as goal

abbrev pub invariant-loop-at : goal.invariant-loop-at
invariant-loop-at l = (items : List Item) × SweptTo l.bits l.base l.bytes l.at items

abbrev pub decreases-loop-at : goal.decreases-loop-at
decreases-loop-at l = length l.bytes - l.at
