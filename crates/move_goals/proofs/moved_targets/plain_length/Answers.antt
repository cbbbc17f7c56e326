use Rattle.std.proofs.Common.{◌≡◌, None, slice_get, refl, arith}
use Rattle.std.proofs.lemmas.Option.{slice_get_past}
use Rattle.x86_values.specs.declared.Bits.{Bits}
use Rattle.x86_values.specs.declared.Instr.{Instr}
use Rattle.opcode_rows.specs.Table.{table}
use Rattle.move_goals.specs.MovedTargets.Targets.{plain_length}
use Rattle.move_goals.proofs.moved_targets.plain_length.Goals as goal

without_row : (bits : Bits) (i : Instr) → slice_get table i.code.0 ≡ None → 0 ≡ plain_length bits i
unfolding plain_length
without_row bits i at = rw at refl

pub returns-then-instr-ge-ROWS-clause-value : goal.returns-then-instr-ge-ROWS-clause-value
returns-then-instr-ge-ROWS-clause-value c =
    without_row c.args.bits c.args.instr.now (slice_get_past table c.args.instr.now.code.0 (omega (arith, c.rows_are_counted.ensures, c.if-instr-ge-ROWS.true)))

pub plain_parts-requires : goal.plain_parts-requires
plain_parts-requires c = c.rows_are_sound.ensures c.args.instr.now.code.0 c.row_of.result c.row_of.ensures
