use Rattle.opcode_rows.specs.Table.{table}
use Rattle.opcode_rows.specs.Versions.{version1, is_added_state, names_added_cell}
use Rattle.opcode_rows.proofs.Growth.{reads-kept, reading-kept, reading-back, reading-there}
use Rattle.opcode_rows.proofs.Versions.{table-grows}
use Rattle.opcode_rows.proofs.laws.readings_are_kept.Goals as goal

pub returns : goal.returns
unfolding names_added_cell
returns c = record {
  read = λ bits ip bytes i n h. reads-kept version1 table is_added_state table-grows bits ip bytes i n h;
  elsewhere = λ bits ip bytes r unnamed. (
    λ h. reading-kept version1 table is_added_state table-grows bits ip bytes unnamed r h,
    λ h. reading-back version1 table is_added_state table-grows bits ip bytes unnamed r h,
  );
  there = λ bits ip bytes named. reading-there version1 table is_added_state table-grows bits ip bytes named;
}
