use Rattle.c_calls.specs.Numbers.{bits_numbered}
use Rattle.c_calls.specs.Hooks.{start_numbered}
use Rattle.c_calls.specs.Ruled.{rules_numbered}
use Rattle.c_calls.proofs.KeptPairs.{padded-pairs}
use Rattle.c_calls.proofs.padded.make_padded_detour.Goals as goal

pub put_padded-requires : goal.put_padded-requires
put_padded-requires c = record {
  pairs = padded-pairs (bits_numbered c.args.bits) (rules_numbered (start_numbered c.args.start) c.args.rules) c.args.ip c.args.padding.now c.args.code.now
      c.args.to c.args.place c.args.entries.now c.padded_of-answer.result c.padded_of-answer.ensures;
}
