use Rattle.std.proofs.Common.{◌≤◌, ◌-◌}
use Rattle.opcode_rows.specs.declared.generated_spots.TheConstants.{ROWS}
use Rattle.listing_run.specs.Rows.{lines_below}
use Rattle.sweep.specs.RunParts.Writing.{HeldText}
use Rattle.listing_run.proofs.rows.write_rows.Given as goal

abbrev pub invariant-loop-code : goal.invariant-loop-code
invariant-loop-code g l = record {
  within : l.code ≤ ROWS;
  lines : HeldText (g.K.Sink.held l.initial.out) (g.K.Sink.held l.out) l.pending.items (lines_below l.code);
  later : g.K.Sink.faults l.initial.out ≤ g.K.Sink.faults l.out;
}

abbrev pub decreases-loop-code : goal.decreases-loop-code
decreases-loop-code g l = ROWS - l.code
