use Rattle.std.proofs.Common.{ap, sym, arith}
use Rattle.prefixes.specs.Answer.{answer_of}
use Rattle.prefixes.proofs.Runs.{long_run_is_forbidden}
use Rattle.prefixes.proofs.front_of_run.Goals as goal

pub returns-then-n-ge15 : goal.returns-then-n-ge15
returns-then-n-ge15 c =
    sym (ap answer_of (long_run_is_forbidden c.args.bits c.args.bytes.now (omega (arith, c.bounded_run_len-n.ensures))))

pub front_behind-requires : goal.front_behind-requires
front_behind-requires c =
    record {
      run = omega (arith, c.bounded_run_len-n.ensures);
      few = omega arith;
    }
