use Rattle.c_calls.specs.Numbers.{bits_numbered}
use Rattle.c_calls.specs.Hooks.{start_numbered}
use Rattle.c_calls.specs.Ruled.{rules_numbered}
use Rattle.c_calls.proofs.MovedPairs.{moved-pairs}
use Rattle.c_calls.proofs.ruled.make_detour_with.Goals as goal

pub put_ruled-requires : goal.put_ruled-requires
put_ruled-requires c = record {
  pairs = moved-pairs (bits_numbered c.args.bits) (rules_numbered (start_numbered c.args.start) c.args.rules) c.args.ip c.args.code.now c.args.to
      c.args.place c.args.entries.now c.ruled_of-answer.result c.ruled_of-answer.ensures;
}
