use Rattle.std.proofs.Common.{refl}
use Rattle.std.proofs.Math.Facts.{Fits-lt-pow}
use Rattle.hex.specs.Hex.{encode_with}
use Rattle.sweep.proofs.SweepText.Digits.{digits_written}
use Rattle.sweep.proofs.sweep_text.line.digits_into.Goals as goal

pub loop-n-init : goal.loop-n-init
unfolding encode_with
loop-n-init c = refl

pub loop-n-preserved : goal.loop-n-preserved
loop-n-preserved c =
    digits_written c.args.bytes.now c.args.places.now c.loop-n.places c.digit_pair.result c.loop-n.n _ c.loop-n-test.true c.requires (Fits-lt-pow (c.type_inv.bytes c.loop-n.n)) c.loop-n.invariant refl c.digit_pair.ensures
