use Rattle.std.proofs.Common.{ap, arith}
use Rattle.std.specs.Prelude.{length}
use Rattle.c_calls.proofs.FeatureNames.{feature_short}
use Rattle.c_calls.proofs.effects.feature_name.Goals as goal

pub put_text-requires : goal.put_text-requires
put_text-requires c = omega (arith, ap length c.as_bytes.ensures.value, feature_short _ _ c.in-Ok.ensures)
