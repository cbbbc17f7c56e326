use Rattle.std.proofs.Common.{◌≡◌, ◌∙◌, arith}
use Rattle.x86_values.specs.declared.Bits.TheVariants.{B64}
use Rattle.x86_values.specs.Wrapping.{modulo_width}
use Rattle.opcode_rows.proofs.Sound.{sound-row}
use Rattle.opcode_rows.proofs.Writable.{writable-row}
use Rattle.encoder.proofs.Causes.{by_row_at}
use Rattle.encoder.proofs.encode_frequent.Goals as goal

pub write_frequent-requires-clause-sound : goal.write_frequent-requires-clause-sound
write_frequent-requires-clause-sound c = sound-row c.args.instr.now.code.0 c.row_of-row.result c.row_of-row.ensures

pub write_frequent-requires-clause-writable : goal.write_frequent-requires-clause-writable
write_frequent-requires-clause-writable c = writable-row c.args.instr.now.code.0 c.row_of-row.result c.row_of-row.ensures

pub returns-then-exists_in : goal.returns-then-exists_in
returns-then-exists_in c h =
    let at : c.args.ip ≡ modulo_width B64 c.args.ip = omega (arith, c.ranges.ip.fits) in
    c.write_frequent.ensures h ∙ by_row_at B64 c.args.ip c.args.ip c.row_of-row.result c.args.instr.now c.row_of-row.ensures at
