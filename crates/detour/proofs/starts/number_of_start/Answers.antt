use Rattle.std.proofs.Common.{length, sym}
use Rattle.std.proofs.lemmas.Bool.{eq-eqb}
use Rattle.detour.specs.Starts.{stands_at}
use Rattle.detour.proofs.starts.number_of_start.Goals as goal

pub returns-then-starts-k : goal.returns-then-starts-k
returns-then-starts-k c =
    sym (c.first_numbers_pass.ensures.first_below_hit (stands_at c.args.starts.now c.args.start)
    (length c.args.starts.now) c.starts.k c.starts-test.true (eq-eqb _ _ c.if-starts-k.true) c.starts.invariant)
