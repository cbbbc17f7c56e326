use Rattle.std.proofs.Common.{◌≡◌, ℕ, ap, ◌∙◌, subst}
use Rattle.x86_values.specs.declared.Bits.{Bits}
use Rattle.x86_values.specs.Wrapping.{modulo_width}
use Rattle.prefixes.specs.Answer.{mode_of}
use Rattle.modrm_sib.specs.Answer.{answer_in}
use Rattle.row_relation.specs.Spells.{IsReading}
use Rattle.opcode_rows.specs.Table.{table}
use Rattle.decoder.specs.Answer.{reading_of}
use Rattle.decoder.proofs.OneReading.{only_reading}
use Rattle.decoder.proofs.reading.read_counted.Goals as goal

pub returns-in-Some-clause-alone : goal.returns-in-Some-clause-alone
returns-in-Some-clause-alone g c =
    let bits = mode_of g.row.BITS in
    let bytes = c.args.bytes.now in
    let answer = answer_in c.read_known.result c.read_known.new.out in
    let address : c.wrap.result ≡ modulo_width bits c.args.ip =
    c.wrap.ensures ∙ ap (λ (b : Bits). modulo_width b c.from.result) c.mode_of-bits.ensures ∙ ap (modulo_width bits) c.from.ensures in
    only_reading bits c.args.ip bytes answer
    (subst (λ (a : ℕ). IsReading table bits a bytes (reading_of answer)) address c.read_known.ensures.reading)
