use Rattle.c_calls.specs.Hooks.{start_numbered}
use Rattle.c_calls.specs.Ruled.{rules_numbered}
use Rattle.c_calls.proofs.KeptPairs.{kept-pairs}
use Rattle.c_calls.proofs.kept.make_kept_detour.Goals as goal

pub put_kept-requires : goal.put_kept-requires
put_kept-requires c = record {
  pairs = kept-pairs c.bits_numbered-bits.result (rules_numbered (start_numbered c.args.start) c.args.rules) c.args.ip c.args.code.now c.args.to
      c.args.place c.args.entries.now c.kept_of-answer.result c.kept_of-answer.ensures;
}
