use Rattle.std.proofs.Common.{◌∙◌, ℕ, ap, sym, arith}
use Rattle.std.proofs.lemmas.Option.{slice_get_past}
use Rattle.x86_values.specs.Wrapping.{modulo_width}
use Rattle.opcode_rows.specs.Table.{table}
use Rattle.opcode_rows.proofs.JoinFacts.{length-table}
use Rattle.opcode_rows.proofs.Sound.{sound-row}
use Rattle.opcode_rows.proofs.Writable.{writable-row}
use Rattle.encoder.specs.Encoding.{length_of}
use Rattle.encoder.proofs.Causes.{without_row, without_mode, by_row_at}
use Rattle.encoder.proofs.encoded_len.Goals as goal

pub returns-then-instr-ge-ROWS : goal.returns-then-instr-ge-ROWS
returns-then-instr-ge-ROWS c =
    ap length_of (without_row c.args.bits c.args.ip c.args.instr.now (slice_get_past table c.args.instr.now.code.0 (omega (arith, length-table, c.if-instr-ge-ROWS.true))))

pub returns-then-not-exists_in : goal.returns-then-not-exists_in
returns-then-not-exists_in c =
    ap length_of (without_mode c.args.bits c.args.ip c.row_of-row.result c.args.instr.now c.row_of-row.ensures (sym c.exists_in.ensures ∙ c.if-not-exists_in.true))

pub row_len-requires-clause-sound : goal.row_len-requires-clause-sound
row_len-requires-clause-sound c = sound-row c.args.instr.now.code.0 c.row_of-row.result c.row_of-row.ensures

pub row_len-requires-clause-writable : goal.row_len-requires-clause-writable
row_len-requires-clause-writable c = writable-row c.args.instr.now.code.0 c.row_of-row.result c.row_of-row.ensures

pub returns : goal.returns
returns c =
    c.row_len.ensures
    ∙ ap length_of (by_row_at c.args.bits c.args.ip c.wrap.result c.row_of-row.result c.args.instr.now c.row_of-row.ensures
    (c.wrap.ensures ∙ ap (λ (x : ℕ). modulo_width c.args.bits x) c.from.ensures))
