use Rattle.std.proofs.Common.{◌∙◌, ℕ, ap, sym, arith}
use Rattle.std.proofs.lemmas.Option.{slice_get_past}
use Rattle.x86_values.specs.Wrapping.{modulo_width}
use Rattle.opcode_rows.specs.Table.{table}
use Rattle.opcode_rows.proofs.JoinFacts.{length-table}
use Rattle.opcode_rows.proofs.Sound.{sound-row}
use Rattle.opcode_rows.proofs.Writable.{writable-row}
use Rattle.encoder.proofs.Causes.{without_row, without_mode, by_row_at}
use Rattle.encoder.proofs.encode_onto.Goals as goal

pub returns-then-instr-ge-ROWS : goal.returns-then-instr-ge-ROWS
returns-then-instr-ge-ROWS c =
    without_row c.args.bits c.args.ip c.args.instr.now (slice_get_past table c.args.instr.now.code.0 (omega (arith, length-table, c.if-instr-ge-ROWS.true)))

pub returns-then-not-exists_in : goal.returns-then-not-exists_in
returns-then-not-exists_in c =
    without_mode c.args.bits c.args.ip c.row_of-row.result c.args.instr.now c.row_of-row.ensures (sym c.exists_in.ensures ∙ c.if-not-exists_in.true)

pub encode_row-requires-clause-sound : goal.encode_row-requires-clause-sound
encode_row-requires-clause-sound c = sound-row c.args.instr.now.code.0 c.row_of-row.result c.row_of-row.ensures

pub encode_row-requires-clause-writable : goal.encode_row-requires-clause-writable
encode_row-requires-clause-writable c = writable-row c.args.instr.now.code.0 c.row_of-row.result c.row_of-row.ensures

pub returns : goal.returns
returns c =
    c.encode_row.ensures
    ∙ by_row_at c.args.bits c.args.ip c.wrap.result c.row_of-row.result c.args.instr.now c.row_of-row.ensures
    (c.wrap.ensures ∙ ap (λ (x : ℕ). modulo_width c.args.bits x) c.from.ensures)
