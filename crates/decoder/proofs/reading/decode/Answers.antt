use Rattle.std.proofs.Common.{subst}
use Rattle.x86_values.specs.declared.Bits.{Bits}
use Rattle.decoder.specs.Answer.{IsOnlyReading}
use Rattle.decoder.proofs.reading.decode.Goals as goal

pub returns-in-Ok-clause-alone : goal.returns-in-Ok-clause-alone
returns-in-Ok-clause-alone g c =
    subst (λ (b : Bits). IsOnlyReading b c.args.ip c.args.bytes.now c.decode_onto.new.out) c.mode_of.ensures c.in-Ok.ensures.alone
