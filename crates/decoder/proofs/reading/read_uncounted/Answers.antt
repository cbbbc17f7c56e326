use Rattle.std.proofs.Common.{◌≡◌, refl, sym, ◌∙◌, subst, IfOk}
use Rattle.x86_values.specs.declared.Bits.{Bits}
use Rattle.x86_values.specs.declared.Bits.TheVariants.{B16, B32, B64}
use Rattle.prefixes.specs.Answer.{mode_of}
use Rattle.modrm_sib.specs.Answer.{answer_in}
use Rattle.opcode_rows.specs.Reading.{IsRead}
use Rattle.decoder.specs.Answer.{reading_of, IsOnlyReading}
use Rattle.decoder.proofs.reading.read_uncounted.Goals as goal

mode_16 : mode_of 16 ≡ B16
unfolding mode_of
mode_16 = refl

mode_32 : mode_of 32 ≡ B32
unfolding mode_of
mode_32 = refl

mode_64 : mode_of 64 ≡ B64
unfolding mode_of
mode_64 = refl

pub returns-in-B16-clause-reading : goal.returns-in-B16-clause-reading
returns-in-B16-clause-reading g c =
    subst (λ (b : Bits). IsRead b c.args.ip c.args.bytes.now (reading_of (answer_in c.read_counted.result c.read_counted.new.out))) (mode_16 ∙ sym c.in-B16.is) c.read_counted.ensures.reading

pub returns-in-B16-clause-alone : goal.returns-in-B16-clause-alone
returns-in-B16-clause-alone g c =
    subst (λ (b : Bits). IfOk (answer_in c.read_counted.result c.read_counted.new.out) (λ d. IsOnlyReading b c.args.ip c.args.bytes.now d)) (mode_16 ∙ sym c.in-B16.is) c.read_counted.ensures.alone

pub returns-in-B32-clause-reading : goal.returns-in-B32-clause-reading
returns-in-B32-clause-reading g c =
    subst (λ (b : Bits). IsRead b c.args.ip c.args.bytes.now (reading_of (answer_in c.read_counted-in-B32.result c.read_counted-in-B32.new.out))) (mode_32 ∙ sym c.in-B32.is) c.read_counted-in-B32.ensures.reading

pub returns-in-B32-clause-alone : goal.returns-in-B32-clause-alone
returns-in-B32-clause-alone g c =
    subst (λ (b : Bits). IfOk (answer_in c.read_counted-in-B32.result c.read_counted-in-B32.new.out) (λ d. IsOnlyReading b c.args.ip c.args.bytes.now d)) (mode_32 ∙ sym c.in-B32.is) c.read_counted-in-B32.ensures.alone

pub returns-clause-reading : goal.returns-clause-reading
returns-clause-reading g c =
    subst (λ (b : Bits). IsRead b c.args.ip c.args.bytes.now (reading_of (answer_in c.read_counted-in-B64.result c.read_counted-in-B64.new.out))) (mode_64 ∙ sym c.in-B64.is) c.read_counted-in-B64.ensures.reading

pub returns-clause-alone : goal.returns-clause-alone
returns-clause-alone g c =
    subst (λ (b : Bits). IfOk (answer_in c.read_counted-in-B64.result c.read_counted-in-B64.new.out) (λ d. IsOnlyReading b c.args.ip c.args.bytes.now d)) (mode_64 ∙ sym c.in-B64.is) c.read_counted-in-B64.ensures.alone
